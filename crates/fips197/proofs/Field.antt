-- Multiplication in the field is additive and keeps bytes; the rows of the two matrices by multiplications by x.
use mathlib.Core.Path.{◌≡◌, refl, sym, ap, ap₂, ◌∙◌}
use Prim.Native.Nat.{ℕ, zero, suc, ◌*◌, ◌/◌, ◌%◌, ◌<◌}
use native.Mathlib.Nat.{mod-lt}
use lib.Dec.{lit<}
use Rattle.octets.specs.Xor.{◌⊕◌}
use Rattle.octets.proofs.Xor.{Bit, b0, b1, low, ⊕_assoc, ⊕_comm, ⊕_left_comm, ⊕_zero, zero_⊕, ⊕_swap, ⊕_below, ⊕_double, ⊕_mod, ⊕_shr}
use Rattle.fips197.specs.Field.{xtime, add_if, mul_bits, ◌·◌}
use Rattle.fips197.specs.Cipher.{row}

reduced_add : {x y : ℕ} → Bit x → Bit y → (x ⊕ y) * 0x1b ≡ (x * 0x1b) ⊕ (y * 0x1b)
unfolding ◌⊕◌
reduced_add b0 b0 = refl
reduced_add b0 b1 = refl
reduced_add b1 b0 = refl
reduced_add b1 b1 = refl

xtime-add : (a b : ℕ) → xtime (a ⊕ b) ≡ xtime a ⊕ xtime b
unfolding xtime
xtime-add a b =
    ap₂ ◌⊕◌ (ap (λ (x : ℕ). x % 256) (⊕_double a b) ∙ ⊕_mod (a * 2) (b * 2) 8)
    (ap (λ (x : ℕ). x % 2 * 0x1b) (⊕_shr a b 7) ∙ ap (λ (x : ℕ). x * 0x1b) (⊕_mod (a / 128) (b / 128) 1)
    ∙ reduced_add (low (a / 128)) (low (b / 128)))
    ∙ ⊕_swap (a * 2 % 256) (b * 2 % 256) (a / 128 % 2 * 0x1b) (b / 128 % 2 * 0x1b)

add_if-add : (n a b r s : ℕ) → add_if n (a ⊕ b) (r ⊕ s) ≡ add_if n a r ⊕ add_if n b s
add_if-add zero a b r s = refl
add_if-add (suc n) a b r s = ⊕_swap a b r s

mul_bits-add : (n c a b : ℕ) → mul_bits n c (a ⊕ b) ≡ mul_bits n c a ⊕ mul_bits n c b
mul_bits-add zero c a b = sym (zero_⊕ 0)
mul_bits-add (suc n) zero a b = sym (zero_⊕ 0)
mul_bits-add (suc n) (suc c) a b =
    ap (add_if (suc c % 2) (a ⊕ b)) (ap (mul_bits n (suc c / 2)) (xtime-add a b) ∙ mul_bits-add n (suc c / 2) (xtime a) (xtime b))
    ∙ add_if-add (suc c % 2) a b (mul_bits n (suc c / 2) (xtime a)) (mul_bits n (suc c / 2) (xtime b))

pub ·_add : (c a b : ℕ) → c · (a ⊕ b) ≡ c · a ⊕ c · b
unfolding ◌·◌
·_add = mul_bits-add 8

reduced_below : {x : ℕ} → Bit x → x * 0x1b < 256
reduced_below b0 = lit< tt
reduced_below b1 = lit< tt

pub xtime_below : (a : ℕ) → xtime a < 256
unfolding xtime
xtime_below a = ⊕_below (a * 2 % 256) (a / 128 % 2 * 0x1b) (mod-lt (a * 2) (lit< tt)) (reduced_below (low (a / 128)))

add_if_below : (n a r : ℕ) → a < 256 → r < 256 → add_if n a r < 256
add_if_below zero a r ha hr = hr
add_if_below (suc n) a r ha hr = ⊕_below a r ha hr

mul_bits_below : (n c a : ℕ) → a < 256 → mul_bits n c a < 256
mul_bits_below zero c a h = lit< tt
mul_bits_below (suc n) zero a h = lit< tt
mul_bits_below (suc n) (suc c) a h =
    add_if_below (suc c % 2) a (mul_bits n (suc c / 2) (xtime a)) h (mul_bits_below n (suc c / 2) (xtime a) (xtime_below a))

pub ·_below : (c a : ℕ) → a < 256 → c · a < 256
unfolding ◌·◌
·_below = mul_bits_below 8

by1 : (a : ℕ) → 1 · a ≡ a
unfolding ◌·◌
by1 a = ⊕_zero a

by2 : (a : ℕ) → 2 · a ≡ xtime a
unfolding ◌·◌
by2 a = ⊕_zero (xtime a)

by3 : (a : ℕ) → 3 · a ≡ a ⊕ xtime a
unfolding ◌·◌
by3 a = simp ⊕_zero

by9 : (a : ℕ) → 9 · a ≡ a ⊕ xtime (xtime (xtime a))
unfolding ◌·◌
by9 a = simp ⊕_zero

by11 : (a : ℕ) → 11 · a ≡ a ⊕ xtime a ⊕ xtime (xtime (xtime a))
unfolding ◌·◌
by11 a = simp ⊕_zero

by13 : (a : ℕ) → 13 · a ≡ a ⊕ xtime (xtime a) ⊕ xtime (xtime (xtime a))
unfolding ◌·◌
by13 a = simp ⊕_zero

by14 : (a : ℕ) → 14 · a ≡ xtime a ⊕ xtime (xtime a) ⊕ xtime (xtime (xtime a))
unfolding ◌·◌
by14 a = simp ⊕_zero

-- the rows of the two matrices, with one and three multiplications by x
pub mix_row : (a b c d : ℕ) → xtime (a ⊕ b) ⊕ (b ⊕ (c ⊕ d)) ≡ row 2 3 1 1 a b c d
unfolding row
mix_row a b c d = simp (by1, by2, by3, xtime-add, ⊕_assoc, ⊕_comm, ⊕_left_comm)

pub inv_mix_row : (a b c d : ℕ)
    → xtime (xtime (xtime ((a ⊕ b) ⊕ (c ⊕ d)) ⊕ (a ⊕ c)) ⊕ (a ⊕ b)) ⊕ (b ⊕ (c ⊕ d)) ≡ row 14 11 13 9 a b c d
unfolding row
inv_mix_row a b c d = simp (by9, by11, by13, by14, xtime-add, ⊕_assoc, ⊕_comm, ⊕_left_comm)
