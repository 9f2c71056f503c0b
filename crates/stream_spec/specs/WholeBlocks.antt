-- Document 02, Ask 2: "0:0 ciphers every whole block of a range, as 1:0 does", of a sample that comes in pieces.
use Rattle.std.specs.Prelude.{List, [], ◌∷◌, ◌≡◌, ℕ}
use Rattle.modes_spec.specs.declared.Direction.{Direction}
use Rattle.sample_spec.specs.Sample.{Inputs}
use Rattle.sample_spec.specs.WholeBlocks.{under_one_to_zero}
use Rattle.stream_spec.specs.Stream.{start}
use Rattle.stream_spec.specs.Demand3.{Call, Made, run, replies}

-- The lent outputs after a list of calls.
unfoldable pub outputs : List Made → List (List ℕ)
outputs [] = []
outputs (m ∷ ms) = m.output ∷ outputs ms

-- A start with 0:0 and one with 1:0 get the same answer, and every list of calls on the two streams the same replies and outputs.
pub record PiecesAsOneToZero (d : Direction) (i : Inputs) (n : ℕ) (calls : List Call) : Type 0 where
  pub answer : (start d i n).answer ≡ (start d (under_one_to_zero i) n).answer
  pub replies : replies (run (start d i n).stream calls) ≡ replies (run (start d (under_one_to_zero i) n).stream calls)
  pub outputs : outputs (run (start d i n).stream calls) ≡ outputs (run (start d (under_one_to_zero i) n).stream calls)
