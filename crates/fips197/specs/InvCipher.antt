-- FIPS 197, section 5.3: the inverse cipher.
use Rattle.std.specs.Prelude.{List, [], ℕ, zero, suc, ◌+◌, ◌-◌, ◌%◌, get_or}
use Rattle.fips197.specs.Field.{inverse}
use Rattle.fips197.specs.State.{Word, State, byte, column, cell, four}
use Rattle.fips197.specs.Cipher.{bit, of_bits, matrix, add_round_key}

-- 5.3.1: s'[r, (c + r) mod 4] = s[r, c].
abbrev pub inv_shift_rows : State → State
inv_shift_rows s = four (λ c. four (λ r. cell s r ((c + 4 - r) % 4)))

-- Bit i of the inverse of the affine step, with the constant {05}.
abbrev pub inv_affine_bit : ℕ → ℕ → ℕ
inv_affine_bit b i = (bit b ((i + 2) % 8) + bit b ((i + 5) % 8) + bit b ((i + 7) % 8) + bit 0x05 i) % 2

-- 5.3.2: the inverse of the affine step, and then the inverse in the field.
unfoldable pub inv_sub_byte : ℕ → ℕ
inv_sub_byte b =
    let a = of_bits (inv_affine_bit b) in
    inverse a

abbrev pub inv_sub_word : Word → Word
inv_sub_word w = four (λ r. inv_sub_byte (byte w r))

abbrev pub inv_sub_bytes : State → State
inv_sub_bytes s = four (λ c. inv_sub_word (column s c))

-- 5.3.3.
abbrev pub inv_mix_columns : State → State
inv_mix_columns s = four (λ c. matrix 14 11 13 9 (column s c))

-- A round but the last.
unfoldable pub inv_round : State → State → State
inv_round s k = inv_mix_columns (add_round_key (inv_sub_bytes (inv_shift_rows s)) k)

-- The rounds n down to 1 under the round keys w.
unfoldable pub inv_rounds : List State → ℕ → State → State
inv_rounds w zero s = s
inv_rounds w (suc n) s = inv_rounds w n (inv_round s (get_or w (suc n) []))

-- 5.3: ten rounds, of which the last has no InvMixColumns.
unfoldable pub inv_cipher : List State → State → State
inv_cipher w s =
    add_round_key (inv_sub_bytes (inv_shift_rows (inv_rounds w 9 (add_round_key s (get_or w 10 []))))) (get_or w 0 [])
