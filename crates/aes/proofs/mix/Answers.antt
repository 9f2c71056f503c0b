use mathlib.Core.Path.{ap, ◌∙◌}
use Prim.Native.Nat.{ℕ}
use Rattle.octets.specs.Xor.{◌⊕◌}
use Rattle.fips197.proofs.Field.{mix_row}
use Rattle.aes.proofs.mix.Goals as goal

pub returns : goal.returns
unfolding ◌⊕◌
returns c =
    let p = c.args in
    ap (λ (x : ℕ). x ⊕ (p.b ⊕ (p.c ⊕ p.d))) c.xtime.ensures ∙ mix_row p.a p.b p.c p.d
