use mathlib.Core.Path.{sym, ◌∙◌}
use Prim.Native.Nat.{◌+◌, ◌*◌, ◌≤◌, ◌<◌}
use lib.ListN.{length}
use borrow.Author.Tests.{leb-true, leb-false, eqb-true, eqb-false}
use Rattle.octets.proofs.Bytes.{placed_not}
use Rattle.text.specs.Text as spec
use Rattle.text.proofs.Pairs.{word_none, word_some, hex_length, end_fits, end_not, put_placed}
use native.Mathlib.Omega.{arith}
use Rattle.text.proofs.put_hex.Goals as goal

pub returns-then-is_empty : goal.returns-then-is_empty
returns-then-is_empty c =
    rw (word_none c.args.s.now (eqb-true _ _ (sym c.is_empty.ensures ∙ c.if-is_empty.true))) c.put.ensures

pub returns-then-not-fits : goal.returns-then-not-fits
returns-then-not-fits c =
    let a = c.args in
    let s = a.s.now in
    let n = hex_length s in
    let l : length a.out.now < a.at + 2 * length s = leb-false _ _ (sym c.fits.ensures ∙ c.if-not-fits.true) in
    rw (word_some s (omega (arith, eqb-false _ _ (sym c.is_empty.ensures ∙ c.if-is_empty.false))))
    (sym (placed_not a.out.now a.at (spec.hex s) (omega (arith, n))), sym (end_not a.out.now a.at (spec.hex s) (omega (arith, n))))

pub returns : goal.returns
returns c =
    let a = c.args in
    let s = a.s.now in
    let n = hex_length s in
    let l : a.at + 2 * length s ≤ length a.out.now = leb-true _ _ (sym c.fits.ensures ∙ c.if-not-fits.false) in
    rw (word_some s (omega (arith, eqb-false _ _ (sym c.is_empty.ensures ∙ c.if-is_empty.false))), c.put_pairs.ensures)
    (put_placed a.out.now a.at _ (spec.hex s) (sym n) l, rw (← n) (sym (end_fits a.out.now a.at (spec.hex s) (omega (arith, n)))))
