use mathlib.Core.Path.{sym, ◌∙◌}
use Rattle.text.proofs.Digits.{number_empty, number-zeros, number_long, number_one}
use borrow.Author.Tests.{eqb-true, eqb-false, ltb-true}
use native.Mathlib.Omega.{arith}
use Rattle.text.proofs.read_number.Goals.{then-is_empty-via-then-is_empty, then-is_empty-via-else-is_empty+then-word-eq48, then-word-gt1, else-word-gt1}
use Rattle.text.proofs.read_number.Goals as goal

pub returns-then-is_empty : goal.returns-then-is_empty
returns-then-is_empty c =
    let a = c.args in
    elim c.then-is_empty.branch [
      | then-is_empty-via-then-is_empty w ↦ (sym (number_empty a.word.now a.largest (eqb-true _ _ (sym c.is_empty.ensures ∙ w.if-is_empty.true))), tt)
      | then-is_empty-via-else-is_empty+then-word-eq48 w ↦
          elim w.if-word-gt1.branch [
            | then-word-gt1 v ↦ (sym (number-zeros a.word.now a.largest (omega (arith, v.if-word-gt1.true)) (eqb-true _ _ (sym v.value-is ∙ w.if-word-eq48.true))), tt)
            | else-word-gt1 v ↦ absurd (omega (arith, ltb-true 1 _ (sym v.value-is ∙ w.if-word-eq48.true), v.if-word-gt1.false))
          ]
    ]

pub returns : goal.returns
returns c =
    let a = c.args in
    elim c.if-word-gt1.branch [
      | then-word-gt1 w ↦ (c.of_digits.ensures.0 ∙ sym (number_long a.word.now a.largest (omega (arith, w.if-word-gt1.true)) (eqb-false _ _ (sym w.value-is ∙ c.if-word-eq48.false))), c.of_digits.ensures.1)
      | else-word-gt1 w ↦ (c.of_digits.ensures.0 ∙ sym (number_one a.word.now a.largest (omega (arith, eqb-false _ _ (sym c.is_empty.ensures ∙ c.if-is_empty.false), w.if-word-gt1.false))), c.of_digits.ensures.1)
    ]
