-- A sample opened in pieces into one output (document 01, "Pieces"): the answer and the output, whatever the size of the pieces.
use Rattle.std.specs.Prelude.{cond, List, ◌++◌, ℕ, eqb, ltb, length, drop}
use Rattle.octets.specs.Answers.{answer}
use Rattle.modes_spec.specs.declared.Direction.TheVariants.{Open}
use Rattle.sample_spec.specs.Sample.{Inputs, sample_rows, sample_after}

module _ (i : Inputs) (xs out : List ℕ) where
  -- The start's answer, 1 to 12; then 15 if the output is shorter than the sample.
  unfoldable pub answered : ℕ
  answered =
      cond (eqb (answer (sample_rows i (length xs))) 0) (cond (ltb (length out) (length xs)) 15 0) (answer (sample_rows i (length xs)))

  -- The opened sample, and the rest as it was; after a refusal all as it was.
  unfoldable pub output : List ℕ
  output = cond (eqb answered 0) (sample_after Open i xs ++ drop (length xs) out) out
