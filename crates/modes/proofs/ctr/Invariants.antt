use Rattle.std.proofs.Common.{◌-◌, length}
use Rattle.aes.specs.Block.{encipher}
use Rattle.modes_spec.proofs.Streamed.{Streamed}
use Rattle.modes.proofs.ctr.Given as goal

abbrev pub invariant-loop-at : goal.invariant-loop-at
invariant-loop-at l = Streamed (encipher l.keys) l.initial.b l.from l.initial.part l.part l.b l.at

abbrev pub decreases-loop-at : goal.decreases-loop-at
decreases-loop-at l = length l.initial.part - l.at
