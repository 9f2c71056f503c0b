-- Byte strings as pairs of digits.
use mathlib.Core.Bool.{Bool, true, false, cond, not, ◌&&◌, ◌||◌}
use mathlib.Core.List.{List, [], ◌∷◌, ◌++◌}
use mathlib.Core.Logic.{◌⊎◌, inl, inr}
use mathlib.Core.Path.{◌≡◌, refl, ap, ◌∙◌}
use Prim.Native.Nat.{ℕ, zero, suc, ◌+◌, ◌-◌, ◌*◌, ◌/◌, ◌%◌, ◌≤◌, ◌<◌}
use native.Mathlib.Numerals.{add-one}
use native.Mathlib.Omega.{arith}
use lib.Dec.{eqb, leb}
use lib.ListN.{length, get_or, take, drop, set, take-append-drop}
use lib.Seq.{paste, paste-suc, drop-drop}
use Rattle.std.specs.Simd.{first_chunks}
use Rattle.std.proofs.lemmas.List.{get_or-take, get_or-drop}
use borrow.Rule.Slice.PartMut.{put_mid}
use borrow.Author.Tests.{le-leb, lt-leb, eq-eqb, ne_eqb, lt-ltb, leb-true}
use Rattle.octets.specs.Ascii.{ascii}
use Rattle.octets.specs.Bytes.{same, placed}
use Rattle.octets.proofs.Bytes.{same_equal, placed_fits}
use Rattle.octets.proofs.Tests.{&&_left, &&_right, or_true_cases}
use Rattle.text.specs.Text.{digit, value, worth, below, digits_below, hex, hex_word, is_hex, is_bytes, unhex, bytes_of, end_of}
use Rattle.text.proofs.Digits.{below_at, worth_below, value-digit}

-- ---- Written.

pub hex_length : (s : List ℕ) → length (hex s) ≡ 2 * length s
unfolding hex
hex_length [] = refl
hex_length (b ∷ bs) = omega (arith, hex_length bs)

pub hex_first : (s : List ℕ) (i j : ℕ) → j ≡ 2 * i → i < length s → get_or (hex s) j 0 ≡ digit (get_or s i 0 / 16)
unfolding hex
hex_first [] i j e l = elim l [ ]
hex_first (b ∷ bs) zero j e l = rw e
hex_first (b ∷ bs) (suc i) zero e l = omega arith
hex_first (b ∷ bs) (suc i) (suc zero) e l = omega arith
hex_first (b ∷ bs) (suc i) (suc (suc j)) e l = hex_first bs i j (omega arith) (omega arith)

pub hex_second : (s : List ℕ) (i j : ℕ) → j ≡ 2 * i + 1 → i < length s → get_or (hex s) j 0 ≡ digit (get_or s i 0 % 16)
unfolding hex
hex_second [] i j e l = elim l [ ]
hex_second (b ∷ bs) zero j e l = rw e
hex_second (b ∷ bs) (suc i) zero e l = omega arith
hex_second (b ∷ bs) (suc i) (suc zero) e l = omega arith
hex_second (b ∷ bs) (suc i) (suc (suc j)) e l = hex_second bs i j (omega arith) (omega arith)

module _ (s : List ℕ) where
  pub word_none : length s ≡ 0 → hex_word s ≡ ascii "-"
  unfolding hex_word
  word_none e = rw (eq-eqb (length s) 0 e)

  pub word_some : 0 < length s → hex_word s ≡ hex s
  unfolding hex_word
  word_some l = rw (ne_eqb (length s) 0 (λ e. omega arith))

-- a byte more at the start of a string
put_next : (out b : List ℕ) (k : ℕ) → k < length b → k < length out → set (paste out 0 b k) k (get_or b k 0) ≡ paste out 0 b (suc k)
put_next out b k l room =
    let z : k ≡ 0 + k = omega arith in
    ap (λ (m : ℕ). set (paste out 0 b k) m (get_or b k 0)) z ∙ paste-suc out 0 b k 0 (omega arith) l

-- two digits more
pub paste_pair : (out s : List ℕ) (i : ℕ) → i < length s → 2 * length s ≤ length out
    → set (set (paste out 0 (hex s) (2 * i)) (2 * i) (digit (get_or s i 0 / 16))) (2 * i + 1) (digit (get_or s i 0 % 16))
    ≡ paste out 0 (hex s) (2 * (i + 1))
paste_pair out s i l room =
    let n = hex_length s in
    let j = 2 * i in
    let e : j + 1 ≡ suc j = omega arith in
    let f : 2 * (i + 1) ≡ suc (suc j) = omega arith in
    let first : set (paste out 0 (hex s) j) j (digit (get_or s i 0 / 16)) ≡ paste out 0 (hex s) (suc j) =
    rw (← (hex_first s i j refl l)) (put_next out (hex s) j (omega (arith, n)) (omega (arith, n))) in
    let second : set (paste out 0 (hex s) (suc j)) (suc j) (digit (get_or s i 0 % 16)) ≡ paste out 0 (hex s) (suc (suc j)) =
    rw (← (hex_second s i (suc j) (omega arith) l)) (put_next out (hex s) (suc j) (omega (arith, n)) (omega (arith, n))) in
    rw (e, f, first) second

-- ---- Read.

pub unhex-length : (word : List ℕ) → length (unhex word) ≡ length word / 2
unfolding unhex
unhex-length [] = refl
unhex-length (a ∷ []) = refl
unhex-length (a ∷ b ∷ cs) = omega (arith, unhex-length cs)

pub unhex_at : (word : List ℕ) (i j k : ℕ) → j ≡ 2 * i → k ≡ 2 * i + 1 → i < length word / 2
    → get_or (unhex word) i 0 ≡ worth (get_or word j 0) * 16 + worth (get_or word k 0)
unfolding unhex
unhex_at (a ∷ b ∷ cs) zero j k e f l = rw (e, f)
unhex_at (a ∷ b ∷ cs) (suc i) zero k e f l = omega arith
unhex_at (a ∷ b ∷ cs) (suc i) (suc zero) k e f l = omega arith
unhex_at (a ∷ b ∷ cs) (suc i) (suc (suc j)) zero e f l = omega arith
unhex_at (a ∷ b ∷ cs) (suc i) (suc (suc j)) (suc zero) e f l = omega arith
unhex_at (a ∷ b ∷ cs) (suc i) (suc (suc j)) (suc (suc k)) e f l = unhex_at cs i j k (omega arith) (omega arith) (omega arith)
unhex_at (a ∷ []) i j k e f l = omega arith
unhex_at [] i j k e f l = omega arith

-- a digit of a pair stands in the word
pub pair_at : (word : List ℕ) (n i r j : ℕ) → j ≡ 2 * i + r → i < n → r < 2
    → get_or (get_or (first_chunks 2 n word) i []) r 0 ≡ get_or word j 0
pair_at word zero i r j e l h = absurd (omega arith)
pair_at word (suc n) zero r j e l h =
    let q : j ≡ r = omega arith in
    rw q (get_or-take 2 word r 0 h)
pair_at word (suc n) (suc i) r j e l h =
    pair_at (drop 2 word) n i r (2 * i + r) refl (omega arith) h ∙ get_or-drop 2 word (2 * i + r) 0
    ∙ ap (λ (m : ℕ). get_or word m 0) (omega arith)

-- a byte more
pub unhex-next : (out word : List ℕ) (i : ℕ) → i < length word / 2 → length word / 2 ≤ length out
    → set (paste out 0 (unhex word) i) i (worth (get_or word (2 * i) 0) * 16 + worth (get_or word (2 * i + 1) 0)) ≡ paste out 0 (unhex word) (i + 1)
unhex-next out word i l room =
    let n = unhex-length word in
    rw (← (unhex_at word i (2 * i) (2 * i + 1) refl refl l), add-one) (put_next out (unhex word) i (omega (arith, n)) (omega (arith, n)))

module _ (word : List ℕ) where
  pub bytes_dash : same word (ascii "-") ≡ true → is_bytes word ≡ true
  unfolding is_bytes
  bytes_dash e = rw e

  pub bytes_empty : same word (ascii "-") ≡ false → length word ≡ 0 → is_bytes word ≡ false
  unfolding is_bytes
  bytes_empty e n = rw (e, eq-eqb (length word) 0 n)

  pub bytes_hex : same word (ascii "-") ≡ false → 0 < length word → is_bytes word ≡ is_hex word
  unfolding is_bytes
  bytes_hex e l = rw (e, ne_eqb (length word) 0 (λ n. omega arith))

  pub of_bytes : is_bytes word ≡ true → bytes_of word ≡ unhex word
  unfolding bytes_of
  of_bytes e = rw e

  pub of_none : is_bytes word ≡ false → bytes_of word ≡ []
  unfolding bytes_of
  of_none e = rw e

-- the digits of a byte string have values below 16
pub pair_below : (word : List ℕ) → is_bytes word ≡ true → (i : ℕ) → 1 < length word → i < length word → worth (get_or word i 0) < 16
unfolding is_bytes is_hex
pair_below word h i m l = go (or_true_cases (same word (ascii "-")) _ h)
  where
    go : (same word (ascii "-") ≡ true) ⊎ (not (eqb (length word) 0) && (digits_below 16 word && eqb (length word % 2) 0) ≡ true)
        → worth (get_or word i 0) < 16
    go (inl e) = omega (arith, ap length (same_equal word (ascii "-") e))
    go (inr e) =
        worth_below 16 (value (get_or word i 0))
        (below_at 16 word
        (&&_left (digits_below 16 word) (eqb (length word % 2) 0) (&&_right (not (eqb (length word) 0)) (is_hex word) e))
        i l)

-- ---- Where they end.

module _ (s : List ℕ) (at : ℕ) (b : List ℕ) where
  pub end_fits : at + length b ≤ length s → end_of s at b ≡ at + length b
  unfolding end_of
  end_fits h = rw (le-leb (at + length b) (length s) h)

  pub end_not : length s < at + length b → end_of s at b ≡ at
  unfolding end_of
  end_not h = rw (lt-leb (at + length b) (length s) h)

  pub end_inside : at ≤ length s → end_of s at b ≤ length s
  unfolding end_of
  end_inside h = go (leb (at + length b) (length s)) refl
    where
      go : (t : Bool) → leb (at + length b) (length s) ≡ t → cond t (at + length b) at ≤ length s
      go true e = leb-true (at + length b) (length s) e
      go false e = h

-- the bytes from a place on are those that are put
pub put_placed : (s : List ℕ) (at n : ℕ) (b : List ℕ) → n ≡ length b → at + n ≤ length s → put_mid at (at + n - at) s b ≡ placed s at b
put_placed s at n b e h =
    let k : at + n - at ≡ n = omega arith in
    rw (k, placed_fits s at b (omega arith)) (ap (λ r. take at s ++ (b ++ r)) (drop-drop n at s ∙ ap (λ m. drop m s) (omega arith)))

-- nothing is put, and ends where it starts
pub placed-none : (s : List ℕ) (at : ℕ) → placed s at [] ≡ s
unfolding placed
placed-none s at = go (leb (at + 0) (length s))
  where
    go : (t : Bool) → cond t (take at s ++ drop (at + 0) s) s ≡ s
    go true = let e : at + 0 ≡ at = omega arith in rw e (take-append-drop at s)
    go false = refl

pub end_none : (s : List ℕ) (at : ℕ) → end_of s at [] ≡ at
unfolding end_of
end_none s at = go (leb (at + 0) (length s))
  where
    go : (t : Bool) → cond t (at + 0) at ≡ at
    go true = omega arith
    go false = refl

-- ---- What is written reads back.

unhex_hex : (s : List ℕ) → ((i : ℕ) → get_or s i 0 < 256) → unhex (hex s) ≡ s
unfolding hex unhex
unhex_hex [] h = refl
unhex_hex (b ∷ bs) h =
    let e : b / 16 * 16 + b % 16 ≡ b = omega arith in
    rw (value-digit (b / 16) (omega (arith, h 0)), value-digit (b % 16) (omega arith), e, unhex_hex bs (λ i. h (suc i)))

hex_digits : (s : List ℕ) → ((i : ℕ) → get_or s i 0 < 256) → digits_below 16 (hex s) ≡ true
unfolding hex digits_below below
hex_digits [] h = refl
hex_digits (b ∷ bs) h =
    let l : b / 16 < 16 = omega (arith, h 0) in
    let m : b % 16 < 16 = omega arith in
    rw (value-digit (b / 16) l, value-digit (b % 16) m, lt-ltb (b / 16) 16 l, lt-ltb (b % 16) 16 m) (hex_digits bs (λ i. h (suc i)))

hex_is_bytes : (s : List ℕ) → ((i : ℕ) → get_or s i 0 < 256) → 0 < length s → is_bytes (hex s) ≡ true
unfolding is_bytes is_hex
hex_is_bytes s h l =
    let n = hex_length s in
    rw (hex_digits s h, ne_eqb (length (hex s)) 0 (λ e. omega (arith, n)), eq-eqb (length (hex s) % 2) 0 (omega (arith, n)))
    (go (same (hex s) (ascii "-")))
  where
    go : (a : Bool) → a || true ≡ true
    go true = refl
    go false = refl

-- every byte of a string is below 256
pub bytes_read_back : (s : List ℕ) → ((i : ℕ) → get_or s i 0 < 256) → bytes_of (hex_word s) ≡ s
unfolding bytes_of is_bytes is_hex same unhex hex_word
bytes_read_back [] h = refl
bytes_read_back (b ∷ bs) h =
    rw (word_some (b ∷ bs) (omega arith), of_bytes (hex (b ∷ bs)) (hex_is_bytes (b ∷ bs) h (omega arith))) (unhex_hex (b ∷ bs) h)
