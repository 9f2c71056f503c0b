use Rattle.std.proofs.Common.{◌*◌}
use Rattle.aes.specs.Block.{encipher, decipher}
use Rattle.modes_spec.proofs.Chained.{Chained}
use Rattle.modes.proofs.cbc.Given as goal

abbrev pub invariant-loop-i : goal.invariant-loop-i
invariant-loop-i l = Chained (encipher l.keys) (decipher l.keys) l.direction l.initial.c l.initial.part l.part l.c (l.i * 16)
