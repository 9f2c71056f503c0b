use Rattle.std.proofs.Common.{◌≡◌, ◌+◌, ◌∷◌}
use Rattle.fips197.specs.KeyExpansion.{rcon, round_key}
use Rattle.fips197.proofs.KeyExpansion.{AreKeys}
use Rattle.aes.proofs.key_expansion.Given as goal

-- The first key stands before the keys that the loop writes.
abbrev pub invariant-loop-slot : goal.invariant-loop-slot
invariant-loop-slot l =
    (l.k ≡ round_key l.initial.k l.slot-index) × (l.rcon ≡ rcon l.slot-index)
    × AreKeys l.initial.k (l.slot-index + 1) (l.initial.k ∷ l.slot-items)
