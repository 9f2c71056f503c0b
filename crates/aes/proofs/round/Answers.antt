use Rattle.fips197.specs.Cipher.{sub_byte, round}
use Rattle.fips197.specs.Table.{sbox}
use Rattle.fips197.proofs.SBox.{sbox_rule}
use Rattle.aes.proofs.round.Goals as goal

pub returns : goal.returns
unfolding round sbox
returns c =
    rw (c.add_round_key.ensures, c.mix_columns.ensures, c.shift_rows.ensures, c.sub_bytes.ensures sub_byte sbox_rule)
