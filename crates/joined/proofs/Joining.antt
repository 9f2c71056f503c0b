-- Two strings copied into an output that they fill.
use mathlib.Core.List.{List, ◌++◌}
use mathlib.Core.Path.{◌≡◌}
use Prim.Native.Nat.{ℕ, ◌+◌, ◌≤◌}
use native.Mathlib.Omega.{arith}
use lib.ListN.{length, take, drop, length-append}
use lib.Seq.{take-append-le}
use Rattle.joined.specs.Joined.{joined_into}

-- none of the output is left
pub joined_full : (f s out : List ℕ) → length out ≤ length f + length s → joined_into f s out ≡ take (length out) (f ++ s)
unfolding joined_into
joined_full f s out l = take-append-le (length out) (f ++ s) (drop (length f + length s) out) (simp length-append (omega arith))
