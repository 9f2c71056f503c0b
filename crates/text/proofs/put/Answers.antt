use mathlib.Core.Path.{refl, sym, ◌∙◌}
use Prim.Native.Nat.{◌+◌, ◌≤◌, ◌<◌}
use lib.ListN.{length}
use borrow.Author.Tests.{leb-true, leb-false}
use Rattle.octets.proofs.Bytes.{placed_not}
use Rattle.text.proofs.Pairs.{end_fits, end_not, put_placed}
use Rattle.text.proofs.put.Goals as goal

pub returns-then-not-fits : goal.returns-then-not-fits
returns-then-not-fits c =
    let a = c.args in
    let l : length a.out.now < a.at + length a.text.now = leb-false _ _ (sym c.fits.ensures ∙ c.if-not-fits.true) in
    (sym (placed_not a.out.now a.at a.text.now l), sym (end_not a.out.now a.at a.text.now l))

pub returns : goal.returns
returns c =
    let a = c.args in
    let l : a.at + length a.text.now ≤ length a.out.now = leb-true _ _ (sym c.fits.ensures ∙ c.if-not-fits.false) in
    (rw c.copy_from_slice.ensures.after (put_placed a.out.now a.at _ a.text.now refl l), sym (end_fits a.out.now a.at a.text.now l))
