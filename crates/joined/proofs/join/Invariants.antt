use Rattle.std.proofs.Common.{◌≡◌}
use lib.Seq.{paste}
use Rattle.joined.proofs.join.Given as goal

abbrev pub invariant-loop-i : goal.invariant-loop-i
invariant-loop-i l = l.out ≡ paste l.initial.out l.a l.second l.i
