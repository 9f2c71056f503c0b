use Rattle.fips197.specs.Cipher.{sub_byte}
use Rattle.fips197.specs.Table.{sbox}
use Rattle.fips197.proofs.SBox.{sbox_rule}
use Rattle.aes.proofs.first_word.Goals as goal

pub returns : goal.returns
unfolding sbox
returns c =
    rw (c.add_word.ensures, c.add_word-temp.ensures, c.sub_word.ensures sub_byte sbox_rule, c.rot_word.ensures)
