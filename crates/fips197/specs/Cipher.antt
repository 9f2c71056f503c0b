-- FIPS 197, section 5.1: the steps of a round, and the cipher.
use Rattle.std.specs.Prelude.{List, [], ℕ, zero, suc, ◌+◌, ◌*◌, ◌/◌, ◌%◌, ◌^◌, get_or}
use Rattle.octets.specs.Xor.{◌⊕◌}
use Rattle.fips197.specs.Field.{◌·◌, inverse}
use Rattle.fips197.specs.State.{Word, State, byte, column, cell, four}

-- Bit i of a byte.
abbrev pub bit : ℕ → ℕ → ℕ
bit b i = b / 2 ^ i % 2

-- 5.1.1: bit i of the affine step, with the constant {63}.
abbrev pub affine_bit : ℕ → ℕ → ℕ
affine_bit b i =
    (bit b i + bit b ((i + 4) % 8) + bit b ((i + 5) % 8) + bit b ((i + 6) % 8) + bit b ((i + 7) % 8) + bit 0x63 i) % 2

-- The byte whose bit i is f i.
abbrev pub of_bits : (ℕ → ℕ) → ℕ
of_bits f = f 0 + 2 * f 1 + 4 * f 2 + 8 * f 3 + 16 * f 4 + 32 * f 5 + 64 * f 6 + 128 * f 7

-- 5.1.1: the S-box: the inverse in the field, and then the affine step.
unfoldable pub sub_byte : ℕ → ℕ
sub_byte b =
    let a = inverse b in
    of_bits (affine_bit a)

abbrev pub sub_word : Word → Word
sub_word w = four (λ r. sub_byte (byte w r))

abbrev pub sub_bytes : State → State
sub_bytes s = four (λ c. sub_word (column s c))

-- 5.1.2: s'[r, c] = s[r, (c + r) mod 4].
abbrev pub shift_rows : State → State
shift_rows s = four (λ c. four (λ r. cell s r ((c + r) % 4)))

-- 4.3: a row of a fixed matrix, by a column.
unfoldable pub row : ℕ → ℕ → ℕ → ℕ → ℕ → ℕ → ℕ → ℕ → ℕ
row p q r s a b c d = p · a ⊕ q · b ⊕ r · c ⊕ s · d

-- 4.3: the matrix whose first row is p q r s, each next row turned by one place, by a column.
unfoldable pub matrix : ℕ → ℕ → ℕ → ℕ → Word → Word
matrix p q r s w =
    four (λ i. row p q r s (byte w i) (byte w ((i + 1) % 4)) (byte w ((i + 2) % 4)) (byte w ((i + 3) % 4)))

-- 5.1.3.
abbrev pub mix_columns : State → State
mix_columns s = four (λ c. matrix 2 3 1 1 (column s c))

unfoldable pub add_word : Word → Word → Word
add_word w k = four (λ r. byte w r ⊕ byte k r)

-- 5.1.4.
abbrev pub add_round_key : State → State → State
add_round_key s k = four (λ c. add_word (column s c) (column k c))

-- A round but the last.
unfoldable pub round : State → State → State
round s k = add_round_key (mix_columns (shift_rows (sub_bytes s))) k

-- The rounds 1 to n under the round keys w.
unfoldable pub rounds : List State → ℕ → State → State
rounds w zero s = s
rounds w (suc n) s = round (rounds w n s) (get_or w (suc n) [])

-- 5.1: ten rounds, of which the last has no MixColumns.
unfoldable pub cipher : List State → State → State
cipher w s = add_round_key (shift_rows (sub_bytes (rounds w 9 (add_round_key s (get_or w 0 []))))) (get_or w 10 [])
