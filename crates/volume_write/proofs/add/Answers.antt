use mathlib.Core.Bool.{true}
use mathlib.Core.Path.{◌≡◌, sym, ◌∙◌}
use Prim.Native.Nat.{◌≤◌}
use borrow.Author.Tests.{ltb-true, ltb-false}
use Rattle.volume_spec.specs.Volume.{trailer, valid, add, after_adding}
use Rattle.volume_spec.proofs.Valid.{valid_has}
use Rattle.volume_spec.proofs.Adding.{length-added}
use Rattle.volume_spec.proofs.Writing.{written-refused, written_done, add-short, add_enough}
use native.Mathlib.Omega.{arith}
use Rattle.volume_write.proofs.add.Goals as goal

-- whether the output is short is said of the volume's length, which is the sum of the lengths
pub returns-then-is_short : goal.returns-then-is_short
unfolding add after_adding
returns-then-is_short c =
    let is_valid : valid c.args.volume.now ≡ true = sym c.is_valid.ensures ∙ c.if-not-is_valid.false in
    let not_back : (let a = c.args in (trailer a.volume.now).latest ≤ a.today) = rw (← c.read_trailer.ensures) (omega (arith, c.if-today-read_trailer.false)) in
    let short = ltb-true _ _ (sym c.is_short.ensures ∙ c.if-is_short.true) in
    let w = written-refused _ _ _ 53 (add-short _ _ _ _ _ is_valid not_back short) (λ e. omega arith) in
    record { answer = w.0; output = w.1 }

pub returns : goal.returns
unfolding add after_adding
returns c =
    let is_valid : valid c.args.volume.now ≡ true = sym c.is_valid.ensures ∙ c.if-not-is_valid.false in
    let not_back : (let a = c.args in (trailer a.volume.now).latest ≤ a.today) = rw (← c.read_trailer.ensures) (omega (arith, c.if-today-read_trailer.false)) in
    let fits = ltb-false _ _ (sym c.is_short.ensures ∙ c.if-is_short.false) in
    let a = c.args in
    let size = length-added a.volume.now a.«record».now a.term a.today (valid_has _ is_valid) in
    let w = written_done _ _ _ (add_enough _ _ _ _ _ is_valid not_back fits) in
    rw (c.store.ensures, ← size) (record { answer = w.0; output = w.1 })
