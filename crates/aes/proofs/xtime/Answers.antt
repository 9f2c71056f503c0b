use mathlib.Core.Path.{sym, ap}
use Prim.Native.Nat.{ℕ, ◌*◌, ◌/◌, ◌%◌}
use native.Mathlib.Nat.{mod-eq_of_lt}
use Rattle.octets.specs.Xor.{◌⊕◌}
use Rattle.fips197.specs.Field.{xtime}
use native.Mathlib.Omega.{arith}
use Rattle.aes.proofs.xtime.Goals as goal

pub returns : goal.returns
unfolding ◌⊕◌ xtime
returns c =
    let x = c.args.x in
    ap (λ (h : ℕ). (x * 2 % 256) ⊕ (h * 27)) (sym (mod-eq_of_lt {n = x / 128} {m = 2} (omega arith)))
