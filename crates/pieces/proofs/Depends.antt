-- What the answer of a sample opened in pieces depends on: not on key bytes, IV bytes or contents, and not on the size of the pieces.
use mathlib.Core.List.{List}
use mathlib.Core.Path.{◌≡◌}
use Prim.Native.Nat.{ℕ}
use lib.ListN.{length}
use Rattle.sample_spec.specs.Sample.{Inputs}
use Rattle.sample_spec.specs.Depends.{AlikeInputs}
use Rattle.sample_spec.proofs.Depends.{inputs_alike}
use Rattle.pieces.specs.Pieces.{answered}

-- data of one length and outputs of one length: the same answer
pub pieces_alike : {i j : Inputs} → AlikeInputs i j → (xs ys out out' : List ℕ) → length xs ≡ length ys → length out ≡ length out'
    → answered i xs out ≡ answered j ys out'
unfolding answered
pieces_alike s xs ys out out' l e = rw (l, e, inputs_alike s (length ys))
