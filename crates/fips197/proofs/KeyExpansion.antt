-- That each round key is made of the one before and a round constant, and that round keys made so are the key schedule's.
use mathlib.Core.Path.{◌≡◌, refl, sym, ap, ap₂, ◌∙◌}
use mathlib.Core.List.{List, [], ◌∷◌}
use Prim.Native.Nat.compare
use Prim.Native.Nat.{ℕ, zero, suc, ◌+◌, ◌-◌, ◌*◌, ◌/◌, ◌%◌, ◌<◌}
use native.Mathlib.Nat.{not-suc-le-zero, le_of_suc-le-suc}
use native.Mathlib.Numerals.{add-one}
use native.Mathlib.Omega.{arith}
use lib.ListN.{get_or, set, length, length-set, replicate}
use lib.Seq.{get_or-set_same, get_or-set_other, ext_get_or}
use borrow.Author.Count.{below_more}
use Rattle.octets.proofs.Bytes.{get_d_list_of}
use Rattle.fips197.specs.Field.{xtime}
use Rattle.fips197.specs.State.{Word, State, load}
use Rattle.fips197.specs.Cipher.{sub_word, add_word}
use Rattle.fips197.specs.KeyExpansion.{rot_word, rcon, temp, word, round_key, key_expansion, first_word, next_key}
use Rattle.fips197.proofs.Lists.{same}

temp_first : (r : ℕ) (w : Word) → temp (4 * r + 4) w ≡ add_word (sub_word (rot_word w)) (rcon r ∷ 0 ∷ 0 ∷ 0 ∷ [])
unfolding temp
temp_first r w =
    let e : (4 * r + 4) % 4 ≡ 0 = omega arith in
    let d : (4 * r + 4) / 4 - 1 ≡ r = omega arith in
    rw (e, d)

temp_other : (i n : ℕ) (w : Word) → i % 4 ≡ suc n → temp i w ≡ w
unfolding temp
temp_other i n w e = rw (e, compare.suc-zero)

word_next : (k : State) (i : ℕ) → word k (i + 4) ≡ add_word (word k i) (temp (i + 4) (word k (i + 3)))
unfolding word
word_next k i =
    let e : i + 4 ≡ suc (suc (suc (suc i))) = omega arith in
    let f : suc (suc (suc i)) ≡ i + 3 = omega arith in
    ap (word k) e ∙ ap (λ (j : ℕ). add_word (word k i) (temp (i + 4) (word k j))) f

module _ (k : State) (r : ℕ) where
  word_first : word k (4 * (r + 1) + 0) ≡ first_word (round_key k r) (rcon r)
  unfolding round_key
  word_first =
      let i = 4 * r + 0 in
      let e : 4 * (r + 1) + 0 ≡ i + 4 = omega arith in
      let f : i + 4 ≡ 4 * r + 4 = omega arith in
      let g : i + 3 ≡ 4 * r + 3 = omega arith in
      ap (word k) e ∙ word_next k i ∙ ap₂ (λ (m n : ℕ). add_word (word k i) (temp m (word k n))) f g
      ∙ ap (add_word (word k i)) (temp_first r (word k (4 * r + 3)))

  word_other : (c : ℕ) → c < 3 → word k (4 * (r + 1) + (c + 1)) ≡ add_word (word k (4 * r + (c + 1))) (word k (4 * (r + 1) + c))
  word_other c h =
      let i = 4 * r + (c + 1) in
      let e : 4 * (r + 1) + (c + 1) ≡ i + 4 = omega arith in
      let f : i + 3 ≡ 4 * (r + 1) + c = omega arith in
      let g : (i + 4) % 4 ≡ suc c = omega arith in
      ap (word k) e ∙ word_next k i ∙ ap (add_word (word k i)) (temp_other (i + 4) c (word k (i + 3)) g ∙ ap (word k) f)

  -- a column of the next round key, from the one before it
  step : (c : ℕ) {w : Word} → c < 3 → word k (4 * (r + 1) + c) ≡ w → word k (4 * (r + 1) + (c + 1)) ≡ add_word (word k (4 * r + (c + 1))) w
  step c h e = word_other c h ∙ ap (add_word (word k (4 * r + (c + 1)))) e

  pub round_key-next : round_key k (r + 1) ≡ next_key (round_key k r) (rcon r)
  unfolding round_key next_key
  round_key-next =
      let s1 = step 0 (omega arith) word_first in
      let s2 = step 1 (omega arith) s1 in
      same word_first s1 s2 (step 2 (omega arith) s2)

pub round_key_zero : (key : List ℕ) → round_key (load key) 0 ≡ load key
unfolding round_key word
round_key_zero key = refl

pub rcon-next : (n : ℕ) → rcon (n + 1) ≡ xtime (rcon n)
unfolding rcon
rcon-next n = rw add-one

-- the round keys below i stand in their places
pub AreKeys : State → ℕ → List State → Type 0
AreKeys k i ks = (length ks ≡ 11) × ((j : ℕ) → j < i → get_or ks j [] ≡ round_key k j)

pub keys_start : (key : List ℕ) → AreKeys (load key) 1 (replicate 11 (load key))
unfolding AreKeys
keys_start key = (refl, go)
  where
    go : (j : ℕ) → j < 1 → get_or (replicate 11 (load key)) j [] ≡ round_key (load key) j
    go zero h = sym (round_key_zero key)
    go (suc j) h = absurd (not-suc-le-zero (le_of_suc-le-suc h))

pub keys_next : (k : State) (i : ℕ) (ks : List State) (next : State) → i < 11 → AreKeys k i ks → next ≡ round_key k i
    → AreKeys k (i + 1) (set ks i next)
unfolding AreKeys
keys_next k i ks next l h e = (
  length-set ks i next ∙ h.0,
  below_more (λ (j : ℕ). get_or (set ks i next) j [] ≡ round_key k j) i
      (λ j p. get_or-set_other ks i j next [] (λ q. omega arith) ∙ h.1 j p)
      (get_or-set_same ks i next [] (omega (arith, h.0)) ∙ e),
)

pub keys_all : (key : List ℕ) (ks : List State) → AreKeys (load key) 11 ks → ks ≡ key_expansion key
unfolding AreKeys key_expansion
keys_all key ks h =
    ext_get_or [] ks (key_expansion key) h.0
    (λ i l.
    let p : i < 11 = omega (arith, h.0) in
    h.1 i p ∙ sym (get_d_list_of 11 (round_key (load key)) [] i p))
