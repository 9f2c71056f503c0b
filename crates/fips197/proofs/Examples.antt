-- Worked examples of FIPS 197, computed from the definitions.
use mathlib.Core.Path.{◌≡◌, refl}
use mathlib.Core.List.{[], ◌∷◌}
use Rattle.octets.specs.Xor.{◌⊕◌}
use Rattle.fips197.specs.Field.{◌·◌, xtime}
use Rattle.fips197.specs.State.{load}
use Rattle.fips197.specs.Cipher.{sub_byte, row, matrix, add_word, round}
use Rattle.fips197.specs.KeyExpansion.{rcon, temp, word}

-- 4.2: {57} · {13} = {fe}
pub product : 0x57 · 0x13 ≡ 0xfe
unfolding ◌⊕◌ ◌·◌ xtime
product = refl

-- 5.1.1: {53} goes to {ed}
pub substitution : sub_byte 0x53 ≡ 0xed
unfolding ◌⊕◌ ◌·◌ xtime sub_byte
substitution = refl

-- 5.1.3: a column of round 1 of appendix B
pub mixing : matrix 2 3 1 1 (0xd4 ∷ 0xbf ∷ 0x5d ∷ 0x30 ∷ []) ≡ 0x04 ∷ 0x66 ∷ 0x81 ∷ 0xe5 ∷ []
unfolding ◌⊕◌ ◌·◌ xtime row matrix
mixing = refl

-- appendix A.1: the word w[10]
pub expansion : word (load (0x2b ∷ 0x7e ∷ 0x15 ∷ 0x16 ∷ 0x28 ∷ 0xae ∷ 0xd2 ∷ 0xa6 ∷ 0xab ∷ 0xf7 ∷ 0x15 ∷ 0x88 ∷ 0x09 ∷ 0xcf ∷ 0x4f ∷ 0x3c ∷ [])) 10 ≡ 0x59 ∷ 0x35 ∷ 0x80 ∷ 0x7a ∷ []
unfolding ◌⊕◌ ◌·◌ xtime sub_byte add_word rcon temp word
expansion = refl

-- appendix B: round 1
pub first_round : round ((0x19 ∷ 0x3d ∷ 0xe3 ∷ 0xbe ∷ []) ∷ (0xa0 ∷ 0xf4 ∷ 0xe2 ∷ 0x2b ∷ []) ∷ (0x9a ∷ 0xc6 ∷ 0x8d ∷ 0x2a ∷ []) ∷ (0xe9 ∷ 0xf8 ∷ 0x48 ∷ 0x08 ∷ []) ∷ []) ((0xa0 ∷ 0xfa ∷ 0xfe ∷ 0x17 ∷ []) ∷ (0x88 ∷ 0x54 ∷ 0x2c ∷ 0xb1 ∷ []) ∷ (0x23 ∷ 0xa3 ∷ 0x39 ∷ 0x39 ∷ []) ∷ (0x2a ∷ 0x6c ∷ 0x76 ∷ 0x05 ∷ []) ∷ [])
    ≡ (0xa4 ∷ 0x9c ∷ 0x7f ∷ 0xf2 ∷ []) ∷ (0x68 ∷ 0x9f ∷ 0x35 ∷ 0x2b ∷ []) ∷ (0x6b ∷ 0x5b ∷ 0xea ∷ 0x43 ∷ []) ∷ (0x02 ∷ 0x6a ∷ 0x50 ∷ 0x49 ∷ []) ∷ []
unfolding ◌⊕◌ ◌·◌ xtime sub_byte row matrix add_word round
first_round = refl
