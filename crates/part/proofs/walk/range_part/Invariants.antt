use Prim.Native.Nat.{◌-◌}
use lib.ListN.{length}
use Rattle.aes.specs.Block.{encipher, decipher}
use Rattle.scheme.proofs.Ranges.{Ranged}
use Rattle.part.proofs.walk.range_part.Given as goal

abbrev pub invariant-loop-at : goal.invariant-loop-at
invariant-loop-at l =
    (Ranged (encipher l.how.keys.now) (decipher l.how.keys.now) l.how.direction l.how.scheme l.how.pattern l.how.iv.0 l.n l.from l.initial.now.used l.initial.now.block.0
    l.initial.part l.part l.now.block.0 l.now.used l.at)

abbrev pub decreases-loop-at : goal.decreases-loop-at
decreases-loop-at l = length l.initial.part - l.at
