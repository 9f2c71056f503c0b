use mathlib.Core.Path.{refl}
use Rattle.octets.specs.Xor.{◌⊕◌}
use Rattle.fips197.specs.Cipher.{add_word}
use Rattle.aes.proofs.add_word.Goals as goal

pub returns : goal.returns
unfolding ◌⊕◌ add_word
returns c = refl
