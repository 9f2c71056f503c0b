-- Digits and their values, and numbers in decimal.
use mathlib.Core.Bool.{Bool, true, false, cond, ◌&&◌}
use mathlib.Core.List.{List, [], ◌∷◌}
use mathlib.Core.Path.{◌≡◌, refl, sym, ap, ◌∙◌}
use Prim.Native.Nat.{ℕ, zero, suc, ◌+◌, ◌-◌, ◌*◌, ◌/◌, ◌%◌, ◌≤◌, ◌<◌}
use native.Mathlib.Numerals.{add-one}
use native.Mathlib.Omega.{arith}
use lib.Dec.{ltb, leb}
use lib.ListN.{length, get_or, drop}
use lib.Seq.{drop-cons}
use borrow.Author.Tests.{lt-ltb, le-ltb, le-leb, lt-leb, eq-eqb, ne_eqb, ltb-true, ltb-false, leb-true}
use Rattle.octets.specs.Bytes.{list_of}
use Rattle.octets.proofs.Bytes.{get_d_list_of}
use Rattle.octets.proofs.Tests.{&&_left, &&_right}
use Rattle.std.proofs.Common.{Option, Some, None}
use Rattle.std.specs.Option.{unwrap_or, is_some}
use Rattle.std.specs.List.{list_all}
use Rattle.text.specs.Text.{digit, value, worth, below, digits_below, decimal, decimal_from, of_digits, number}

-- ---- The value of a digit.

module _ (c : ℕ) where
  pub value-decimal : 48 ≤ c → c ≤ 57 → value c ≡ Some (c - 48)
  unfolding value
  value-decimal l h = rw (le-leb 48 c l, le-leb c 57 h)

  pub value_letter : 97 ≤ c → c ≤ 102 → value c ≡ Some (c - 87)
  unfolding value
  value_letter l h = rw (le-leb 48 c (omega arith), lt-leb c 57 (omega arith), le-leb 97 c l, le-leb c 102 h)

  pub value_before : c < 48 → value c ≡ None
  unfolding value
  value_before h = rw (lt-leb 48 c h, lt-leb 97 c (omega arith))

  pub value_between : 57 < c → c < 97 → value c ≡ None
  unfolding value
  value_between l h = rw (le-leb 48 c (omega arith), lt-leb c 57 l, lt-leb 97 c h)

  pub value-behind : 102 < c → value c ≡ None
  unfolding value
  value-behind l = rw (le-leb 48 c (omega arith), lt-leb c 57 (omega arith), le-leb 97 c (omega arith), lt-leb c 102 l)

-- ---- Digits below a number.

-- every value is below 16
some_small : (c : ℕ) → is_some (value c) ≡ below 16 (value c)
unfolding value below
some_small c = go (leb 48 c && leb c 57) refl (leb 97 c && leb c 102) refl
  where
    go : (s : Bool) → leb 48 c && leb c 57 ≡ s → (t : Bool) → leb 97 c && leb c 102 ≡ t
        → is_some (cond s (Some (c - 48)) (cond t (Some (c - 87)) None)) ≡ below 16 (cond s (Some (c - 48)) (cond t (Some (c - 87)) None))
    go true e t f = sym (lt-ltb (c - 48) 16 (omega (arith, leb-true c 57 (&&_right (leb 48 c) (leb c 57) e))))
    go false e true f = sym (lt-ltb (c - 87) 16 (omega (arith, leb-true c 102 (&&_right (leb 97 c) (leb c 102) f))))
    go false e false f = refl

pub all-digits : (word : List ℕ) → list_all (λ c. is_some (value c)) word ≡ digits_below 16 word
unfolding digits_below
all-digits [] = refl
all-digits (c ∷ cs) = rw (some_small c, all-digits cs)

pub worth_below : (n : ℕ) (o : Option ℕ) → below n o ≡ true → unwrap_or o 16 < n
unfolding below
worth_below n (Some v) h = ltb-true v n h
worth_below n None h = ltb-true 16 n h

pub worth_is : (n : ℕ) (o : Option ℕ) → unwrap_or o 16 < n → below n o ≡ true
unfolding below
worth_is n (Some v) h = lt-ltb v n h
worth_is n None h = lt-ltb 16 n h

pub worth_not : (n : ℕ) (o : Option ℕ) → n ≤ unwrap_or o 16 → below n o ≡ false
unfolding below
worth_not n (Some v) h = le-ltb v n h
worth_not n None h = le-ltb 16 n h

-- what counts as a digit has a value
pub some_worth : (o : Option ℕ) → unwrap_or o 16 < 16 → unwrap_or o 0 ≡ unwrap_or o 16
some_worth (Some v) h = refl
some_worth None h = omega (arith, h)

pub below_at : (n : ℕ) (word : List ℕ) → digits_below n word ≡ true → (i : ℕ) → i < length word → below n (value (get_or word i 0)) ≡ true
unfolding digits_below
below_at n [] h i l = elim l [ ]
below_at n (c ∷ cs) h zero l = &&_left (below n (value c)) (digits_below n cs) h
below_at n (c ∷ cs) h (suc i) l = below_at n cs (&&_right (below n (value c)) (digits_below n cs) h) i (omega arith)

-- a byte that is no such digit, wherever it stands
pub below_not : (n : ℕ) (word : List ℕ) (i : ℕ) → i < length word → below n (value (get_or word i 0)) ≡ false → digits_below n word ≡ false
unfolding digits_below
below_not n [] i l h = elim l [ ]
below_not n (c ∷ cs) zero l h = rw h
below_not n (c ∷ cs) (suc i) l h = behind (below n (value c)) (below_not n cs i (omega arith) h)
  where
    behind : (a : Bool) {b : Bool} → b ≡ false → a && b ≡ false
    behind true e = e
    behind false e = refl

-- all digits, one by one
pub below_all : (n : ℕ) (word : List ℕ) → ((i : ℕ) → i < length word → below n (value (get_or word i 0)) ≡ true) → digits_below n word ≡ true
unfolding digits_below
below_all n [] h = refl
below_all n (c ∷ cs) h = rw (h 0 (omega arith)) (below_all n cs (λ i l. h (suc i) (omega arith)))

-- ---- Numbers below 1000, written.

module _ (n : ℕ) where
  pub decimal_one : n < 10 → decimal n ≡ digit n ∷ []
  unfolding decimal
  decimal_one h = rw (lt-ltb n 10 h)

  pub decimal_two : 10 ≤ n → n < 100 → decimal n ≡ digit (n / 10) ∷ digit (n % 10) ∷ []
  unfolding decimal
  decimal_two l h = rw (le-ltb n 10 l, lt-ltb n 100 h)

  pub decimal_three : 100 ≤ n → decimal n ≡ digit (n / 100) ∷ digit (n / 10 % 10) ∷ digit (n % 10) ∷ []
  unfolding decimal
  decimal_three l = rw (le-ltb n 10 (omega arith), le-ltb n 100 l)

at_most : (k : ℕ) (t : Bool) (a b : List ℕ) → length a ≤ k → length b ≤ k → length (cond t a b) ≤ k
at_most k true a b h l = h
at_most k false a b h l = l

pub decimal-length : (n : ℕ) → length (decimal n) ≤ 3
unfolding decimal
decimal-length n = at_most 3 (ltb n 10) _ _ (omega arith) (at_most 3 (ltb n 100) _ _ (omega arith) (omega arith))

-- ---- Numbers, read.

pub from_grows : (n : ℕ) (word : List ℕ) → n ≤ decimal_from n word
unfolding decimal_from
from_grows n [] = omega arith
from_grows n (c ∷ cs) = omega (arith, from_grows (n * 10 + worth c) cs)

-- the first digit of those that are left
pub from_next : (n : ℕ) (word : List ℕ) (i : ℕ) → i < length word
    → decimal_from n (drop i word) ≡ decimal_from (n * 10 + worth (get_or word i 0)) (drop (i + 1) word)
unfolding decimal_from
from_next n word i l = rw (add-one, drop-cons word i 0 l)

module _ (word : List ℕ) (largest : ℕ) where
  pub digits_good : digits_below 10 word ≡ true → decimal_from 0 word ≤ largest → of_digits word largest ≡ Some (decimal_from 0 word)
  unfolding of_digits
  digits_good h l = rw (h, le-leb (decimal_from 0 word) largest l)

  pub digits_not : digits_below 10 word ≡ false → of_digits word largest ≡ None
  unfolding of_digits
  digits_not h = rw h

  pub digits_above : largest < decimal_from 0 word → of_digits word largest ≡ None
  unfolding of_digits
  digits_above l = rw (lt-leb (decimal_from 0 word) largest l) (neither (digits_below 10 word))
    where
      neither : (a : Bool) → cond (a && false) (Some (decimal_from 0 word)) None ≡ None
      neither true = refl
      neither false = refl

  pub number_empty : length word ≡ 0 → number word largest ≡ None
  unfolding number
  number_empty e = rw (eq-eqb (length word) 0 e)

  pub number-zeros : 1 < length word → get_or word 0 0 ≡ 48 → number word largest ≡ None
  unfolding number
  number-zeros l e = rw (ne_eqb (length word) 0 (λ n. omega arith), lt-ltb 1 (length word) l, eq-eqb (get_or word 0 0) 48 e)

  pub number_long : 1 < length word → (get_or word 0 0 ≡ 48 → ⊥) → number word largest ≡ of_digits word largest
  unfolding number
  number_long l e = rw (ne_eqb (length word) 0 (λ n. omega arith), lt-ltb 1 (length word) l, ne_eqb (get_or word 0 0) 48 e)

  pub number_one : length word ≡ 1 → number word largest ≡ of_digits word largest
  unfolding number
  number_one e = rw (ne_eqb (length word) 0 (λ n. omega arith), le-ltb 1 (length word) (omega arith))

-- ---- What is written reads back.

values : list_of 16 (λ n. value (digit n)) ≡ list_of 16 (λ n. Some n)
unfolding value
values = refl

pub value-digit : (n : ℕ) → n < 16 → value (digit n) ≡ Some n
value-digit n l =
    sym (get_d_list_of 16 (λ n. value (digit n)) None n l) ∙ ap (λ l. get_or l n None) values ∙ get_d_list_of 16 (λ n. Some n) None n l

first_digit : (k : ℕ) → 0 < k → k < 16 → digit k ≡ 48 → ⊥
unfolding value
first_digit k l h e = omega (arith, ap (λ o. unwrap_or o 16) (value-digit k h), ap worth e)

digits_are : (word : List ℕ) (n largest : ℕ) → digits_below 10 word ≡ true → decimal_from 0 word ≡ n → n ≤ largest
    → of_digits word largest ≡ Some n
digits_are word n largest h e l = rw (← e) (digits_good word largest h (omega (arith, e)))

module _ (n largest : ℕ) (h : n ≤ largest) where
  one_back : n < 10 → number (decimal n) largest ≡ Some n
  unfolding digits_below decimal_from below
  one_back l =
      let e = value-digit n (omega arith) in
      rw (decimal_one n l, number_one (digit n ∷ []) largest refl)
      (digits_are (digit n ∷ []) n largest (rw (e, lt-ltb n 10 l)) (rw e (omega arith)) h)

  two_back : 10 ≤ n → n < 100 → number (decimal n) largest ≡ Some n
  unfolding digits_below decimal_from below
  two_back l m =
      let e = value-digit (n / 10) (omega arith) in
      let f = value-digit (n % 10) (omega arith) in
      let word = digit (n / 10) ∷ digit (n % 10) ∷ [] in
      rw (decimal_two n l m, number_long word largest (omega arith) (first_digit (n / 10) (omega arith) (omega arith)))
      (digits_are word n largest
      (rw (e, f, lt-ltb (n / 10) 10 (omega arith), lt-ltb (n % 10) 10 (omega arith)))
      (rw (e, f) (omega arith)) h)

  three_back : 100 ≤ n → n < 1000 → number (decimal n) largest ≡ Some n
  unfolding digits_below decimal_from below
  three_back l m =
      let e = value-digit (n / 100) (omega arith) in
      let f = value-digit (n / 10 % 10) (omega arith) in
      let g = value-digit (n % 10) (omega arith) in
      let word = digit (n / 100) ∷ digit (n / 10 % 10) ∷ digit (n % 10) ∷ [] in
      rw (decimal_three n l, number_long word largest (omega arith) (first_digit (n / 100) (omega arith) (omega arith)))
      (digits_are word n largest
      (rw (e, f, g, lt-ltb (n / 100) 10 (omega arith), lt-ltb (n / 10 % 10) 10 (omega arith), lt-ltb (n % 10) 10 (omega arith)))
      (rw (e, f, g) (omega arith)) h)

pub number_read_back : (n largest : ℕ) → n < 1000 → n ≤ largest → number (decimal n) largest ≡ Some n
number_read_back n largest l h = go (ltb n 10) refl (ltb n 100) refl
  where
    go : (s : Bool) → ltb n 10 ≡ s → (t : Bool) → ltb n 100 ≡ t → number (decimal n) largest ≡ Some n
    go true e t f = one_back n largest h (ltb-true n 10 e)
    go false e true f = two_back n largest h (ltb-false n 10 e) (ltb-true n 100 f)
    go false e false f = three_back n largest h (ltb-false n 100 f) l
