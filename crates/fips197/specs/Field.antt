-- FIPS 197, section 4: bytes as elements of the field GF(2^8). A byte is a number below 256.
-- 4.1: addition is exclusive or, ⊕.
use Rattle.std.specs.Prelude.{ℕ, zero, suc, ◌*◌, ◌/◌, ◌%◌}
use Rattle.octets.specs.Xor.{◌⊕◌}

infixl 75 ◌·◌
-- 4.2: multiplication by x: a shift to the left and, where bit 7 was set, the addition of {1b}.
unfoldable pub xtime : ℕ → ℕ
xtime b = (b * 2 % 256) ⊕ (b / 128 % 2 * 0x1b)

-- b added to the sum where the bit is set.
abbrev pub add_if : ℕ → ℕ → ℕ → ℕ
add_if zero b sum = sum
add_if (suc bit) b sum = b ⊕ sum

-- The sum of x^i times b over the bits i that are set in a, of n bits.
abbrev pub mul_bits : ℕ → ℕ → ℕ → ℕ
mul_bits zero a b = 0
mul_bits (suc n) zero b = 0
mul_bits (suc n) (suc a) b = add_if (suc a % 2) b (mul_bits n (suc a / 2) (xtime b))

-- 4.2: multiplication modulo x^8 + x^4 + x^3 + x + 1.
unfoldable pub ◌·◌ : ℕ → ℕ → ℕ
a · b = mul_bits 8 a b

abbrev pub square : ℕ → ℕ
square b = b · b

-- 4.4: the multiplicative inverse, which is b^254; of zero it is zero.
abbrev pub inverse : ℕ → ℕ
inverse b =
    let b2 = square b in
    let b4 = square b2 in
    let b8 = square b4 in
    let b16 = square b8 in
    let b32 = square b16 in
    let b64 = square b32 in
    let b128 = square b64 in
    b128 · (b64 · (b32 · (b16 · (b8 · (b4 · b2)))))
