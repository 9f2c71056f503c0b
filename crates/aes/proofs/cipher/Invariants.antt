use Rattle.std.proofs.Common.{◌≡◌}
use Rattle.fips197.specs.Cipher.{rounds}
use Rattle.aes.proofs.cipher.Given as goal

abbrev pub invariant-loop-k : goal.invariant-loop-k
invariant-loop-k l = l.t ≡ rounds l.fn.keys l.k-index l.initial.t
