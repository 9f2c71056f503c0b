use Rattle.std.proofs.Common.{take, drop}
use Rattle.octets.proofs.Fill.{Filled}
use Rattle.modes_spec.specs.Modes.{xors}
use Rattle.modes.proofs.xor_part.Given as goal

abbrev pub invariant-loop-i : goal.invariant-loop-i
invariant-loop-i l = Filled l.initial.part l.part (xors (take l.i l.initial.part) (drop l.used l.pad)) l.i
