use mathlib.Core.Path.{sym, ◌∙◌}
use Prim.Native.Nat.{◌+◌, ◌/◌, ◌≤◌, ◌<◌}
use lib.ListN.{length}
use borrow.Author.Tests.{leb-true, leb-false}
use Rattle.octets.proofs.Bytes.{placed_not}
use Rattle.text.specs.Text as spec
use Rattle.text.proofs.Pairs.{of_bytes, of_none, unhex-length, placed-none, end_none, end_fits, end_not, put_placed}
use native.Mathlib.Omega.{arith}
use Rattle.text.proofs.read_bytes.Goals.{then-not-is_bytes-via-then-not-is_bytes, then-not-is_bytes-via-else-not-is_bytes+then-not-fits}
use Rattle.text.proofs.read_bytes.Goals as goal

pub returns-then-not-is_bytes : goal.returns-then-not-is_bytes
returns-then-not-is_bytes c =
    let a = c.args in
    let b = spec.unhex a.word.now in
    let n = unhex-length a.word.now in
    elim c.then-not-is_bytes.branch [
      | then-not-is_bytes-via-then-not-is_bytes w ↦
          rw (of_none a.word.now (sym c.is_bytes.ensures ∙ w.if-not-is_bytes.true))
          (sym (placed-none a.out.now a.at), sym (end_none a.out.now a.at))
      | then-not-is_bytes-via-else-not-is_bytes+then-not-fits w ↦
          let l : length a.out.now < a.at + length a.word.now / 2 = leb-false _ _ (sym w.fits.ensures ∙ w.if-not-fits.true) in
          rw (of_bytes a.word.now (sym c.is_bytes.ensures ∙ w.if-not-is_bytes.false))
          (sym (placed_not a.out.now a.at b (omega (arith, n))), sym (end_not a.out.now a.at b (omega (arith, n))))
    ]

pub returns : goal.returns
returns c =
    let a = c.args in
    let b = spec.unhex a.word.now in
    let n = unhex-length a.word.now in
    let l : a.at + length a.word.now / 2 ≤ length a.out.now = leb-true _ _ (sym c.fits.ensures ∙ c.if-not-fits.false) in
    rw (of_bytes a.word.now (sym c.is_bytes.ensures ∙ c.if-not-is_bytes.false), c.read_pairs.ensures)
    (put_placed a.out.now a.at _ b (sym n) l, rw (← n) (sym (end_fits a.out.now a.at b (omega (arith, n)))))
