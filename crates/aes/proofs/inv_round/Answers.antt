use Rattle.fips197.specs.InvCipher.{inv_sub_byte, inv_round}
use Rattle.fips197.specs.Table.{inv_sbox}
use Rattle.fips197.proofs.SBox.{inv_sbox_rule}
use Rattle.aes.proofs.inv_round.Goals as goal

pub returns : goal.returns
unfolding inv_round inv_sbox
returns c =
    rw (
      c.inv_mix_columns.ensures,
      c.add_round_key.ensures,
      c.sub_bytes.ensures inv_sub_byte inv_sbox_rule,
      c.inv_shift_rows.ensures,
    )
