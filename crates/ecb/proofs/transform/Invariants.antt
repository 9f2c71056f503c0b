use Rattle.std.proofs.Common.{◌≡◌, ℕ, ◌*◌, List, length}
use Rattle.ecb.proofs.Blocks.{Done}
use Rattle.ecb.proofs.transform.Given as goal

abbrev pub invariant-loop-i : goal.invariant-loop-i
invariant-loop-i g l =
    (length l.«data» ≡ length l.initial.«data»)
    × ((e : List ℕ → List ℕ) → ((b r : _) → goal.F-post g l.f b r → r.0 ≡ e b.0) → Done e l.initial.«data» l.«data» (l.i * 16))
