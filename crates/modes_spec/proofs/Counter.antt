-- The counter block: none on is the IV, steps add up, and none occurs twice within 2^64 steps.
use mathlib.Core.List.{List, ◌++◌}
use mathlib.Core.Path.{◌≡◌, refl, sym, ap, ◌∙◌}
use Prim.Native.Nat.{ℕ, ◌+◌, ◌%◌, ◌^◌, ◌≤◌, ◌<◌}
use native.Mathlib.Omega.{arith}
use lib.ListN.{length, get_or, take, drop, length-drop, take-append-drop}
use lib.Seq.{take_at, length-take-le, take_all}
use Rattle.octets.specs.Bytes.{number, digits}
use Rattle.octets.proofs.Bytes.{number_below, number_digits, number-after, digits_number}
use Rattle.modes_spec.specs.Modes.{counter_at}

-- bytes 8 to 15 count, and bytes 0 to 7 stay
pub count_at_lem : (iv : List ℕ) → 8 ≤ length iv → (n : ℕ) → number 8 (counter_at iv n) 8 ≡ (number 8 iv 8 + n) % 2 ^ 64
unfolding counter_at
count_at_lem iv l n =
    let v : ℕ = (number 8 iv 8 + n) % 2 ^ 64 in
    number-after 8 (take 8 iv) (digits 8 v) 8 (length-take-le 8 iv l) ∙ number_digits 8 v (omega arith)

pub head_at : (iv : List ℕ) → 8 ≤ length iv → (n : ℕ) → take 8 (counter_at iv n) ≡ take 8 iv
unfolding counter_at
head_at iv l n = take_at (take 8 iv) _ 8 (length-take-le 8 iv l)

opened : (iv : List ℕ) (n : ℕ) → counter_at iv n ≡ take 8 iv ++ digits 8 ((number 8 iv 8 + n) % 2 ^ 64)
unfolding counter_at
opened iv n = refl

-- steps add up
pub steps : (iv : List ℕ) → 8 ≤ length iv → (m n : ℕ) → counter_at (counter_at iv m) n ≡ counter_at iv (m + n)
steps iv l m n =
    let e : ((number 8 iv 8 + m) % 2 ^ 64 + n) % 2 ^ 64 ≡ (number 8 iv 8 + (m + n)) % 2 ^ 64 = omega arith in
    opened (counter_at iv m) n
    ∙ rw (head_at iv l m, count_at_lem iv l m) (ap (λ (v : ℕ). take 8 iv ++ digits 8 v) e ∙ sym (opened iv (m + n)))

-- no step gives the IV
pub no_step : (iv : List ℕ) → length iv ≡ 16 → ((i : ℕ) → get_or iv i 0 < 256) → counter_at iv 0 ≡ iv
unfolding counter_at
no_step iv l h =
    let s : (number 8 iv 8 + 0) % 2 ^ 64 ≡ number 8 iv 8 = omega (arith, number_below 8 iv 8 h) in
    let d : digits 8 (number 8 iv 8) ≡ drop 8 iv =
    digits_number 8 iv 8 h (omega arith) ∙ take_all 8 (drop 8 iv) (simp length-drop (omega arith)) in
    rw (s, d) (take-append-drop 8 iv)

-- no counter block occurs twice
pub distinct : (iv : List ℕ) → 8 ≤ length iv → (m n : ℕ) → m < 2 ^ 64 → n < 2 ^ 64 → counter_at iv m ≡ counter_at iv n → m ≡ n
distinct iv l m n hm hn e =
    let s : (number 8 iv 8 + m) % 2 ^ 64 ≡ (number 8 iv 8 + n) % 2 ^ 64 =
    sym (count_at_lem iv l m) ∙ ap (λ (b : List ℕ). number 8 b 8) e ∙ count_at_lem iv l n in
    omega arith
