use Rattle.octets.specs.Xor.{◌⊕◌}
use Rattle.fips197.proofs.Field.{inv_mix_row}
use Rattle.aes.proofs.inv_mix.Goals as goal

pub returns : goal.returns
unfolding ◌⊕◌
returns c =
    let p = c.args in
    cc (inv_mix_row p.a p.b p.c p.d)
