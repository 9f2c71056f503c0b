-- Each entry of the tables of SubBytes and InvSubBytes is what FIPS 197, sections 5.1.1 and 5.3.2, says.
use mathlib.Core.Path.{◌≡◌, sym, ap, ◌∙◌, subst}
use Prim.Native.Nat.{ℕ, ◌<◌, min}
use lib.ListN.{get_or}
use Rattle.octets.specs.Xor.{◌⊕◌}
use Rattle.fips197.specs.Field.{◌·◌, xtime, inverse}
use Rattle.fips197.specs.Cipher.{sub_byte}
use Rattle.fips197.specs.InvCipher.{inv_sub_byte}
use Rattle.fips197.specs.Table.{Tabulates, sbox, inv_sbox}
use Rattle.fips197.proofs.Bytes.{bytes_equal, bytes_below}

-- 4.4: the power b^254 is the inverse: its product with b is 1, and 0 at 0
pub inverse_product : (b : ℕ) → b < 256 → b · inverse b ≡ min 1 b
unfolding ◌⊕◌ ◌·◌ xtime
inverse_product = bytes_equal (λ b. b · inverse b) (λ b. min 1 b) tt

-- the table meets its rule at all 256 entries
pub sbox_rule : Tabulates sub_byte sbox
unfolding ◌⊕◌ ◌·◌ xtime sub_byte sbox
sbox_rule = record { at = bytes_equal (λ a. get_or sbox a 0) (λ a. sub_byte a) tt }

pub inv_sbox_rule : Tabulates inv_sub_byte inv_sbox
unfolding ◌⊕◌ ◌·◌ xtime inv_sub_byte inv_sbox
inv_sbox_rule = record { at = bytes_equal (λ a. get_or inv_sbox a 0) (λ a. inv_sub_byte a) tt }

sbox_below : (a : ℕ) → a < 256 → get_or sbox a 0 < 256
unfolding sbox
sbox_below = bytes_below (λ a. get_or sbox a 0) tt

inv_sbox_below : (a : ℕ) → a < 256 → get_or inv_sbox a 0 < 256
unfolding inv_sbox
inv_sbox_below = bytes_below (λ a. get_or inv_sbox a 0) tt

-- each table undoes the other
pub inv_sbox-sbox : (a : ℕ) → a < 256 → get_or inv_sbox (get_or sbox a 0) 0 ≡ a
unfolding sbox inv_sbox
inv_sbox-sbox = bytes_equal (λ a. get_or inv_sbox (get_or sbox a 0) 0) (λ a. a) tt

pub sbox_inv_sbox : (a : ℕ) → a < 256 → get_or sbox (get_or inv_sbox a 0) 0 ≡ a
unfolding sbox inv_sbox
sbox_inv_sbox = bytes_equal (λ a. get_or sbox (get_or inv_sbox a 0) 0) (λ a. a) tt

pub sub_below : (a : ℕ) → a < 256 → sub_byte a < 256
sub_below a h = subst (λ (x : ℕ). x < 256) (sbox_rule.at a h) (sbox_below a h)

pub inv_sub_below : (a : ℕ) → a < 256 → inv_sub_byte a < 256
inv_sub_below a h = subst (λ (x : ℕ). x < 256) (inv_sbox_rule.at a h) (inv_sbox_below a h)

pub inv_sub-sub : (a : ℕ) → a < 256 → inv_sub_byte (sub_byte a) ≡ a
inv_sub-sub a h =
    sym (inv_sbox_rule.at (sub_byte a) (sub_below a h)) ∙ ap (λ (x : ℕ). get_or inv_sbox x 0) (sym (sbox_rule.at a h))
    ∙ inv_sbox-sbox a h

pub sub_inv_sub : (a : ℕ) → a < 256 → sub_byte (inv_sub_byte a) ≡ a
sub_inv_sub a h =
    sym (sbox_rule.at (inv_sub_byte a) (inv_sub_below a h)) ∙ ap (λ (x : ℕ). get_or sbox x 0) (sym (inv_sbox_rule.at a h))
    ∙ sbox_inv_sbox a h
