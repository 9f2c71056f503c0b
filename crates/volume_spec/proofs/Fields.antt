-- An entry and a trailer among other bytes, and read back as they were written.
use mathlib.Core.List.{List, ◌++◌}
use mathlib.Core.Path.{◌≡◌, refl, sym, ap, ◌∙◌}
use Prim.Native.Nat.{ℕ, ◌+◌, ◌-◌, ◌^◌, ◌≤◌, ◌<◌}
use native.Mathlib.Omega.{arith}
use lib.ListN.{length, length-append}
use Rattle.octets.specs.Bytes.{number, digits}
use Rattle.octets.proofs.Bytes.{length_digits, number_digits, number_before, number_behind, number-after}
use Rattle.volume_spec.specs.declared.Entry.{Entry}
use Rattle.volume_spec.specs.declared.Trailer.{Trailer}
use Rattle.volume_spec.specs.Volume.{fields, entry_at, trailer}

-- ---- Among other bytes.

pub entry_before : (s t : List ℕ) (at : ℕ) → at + 24 ≤ length s → entry_at (s ++ t) at ≡ entry_at s at
unfolding entry_at
entry_before s t at h =
    rw (
      number_before 8 s t at (omega arith),
      number_before 8 s t (at + 8) (omega arith),
      number_before 4 s t (at + 16) (omega arith),
      number_before 4 s t (at + 20) (omega arith),
    )

pub entry-behind : (p s : List ℕ) (k at : ℕ) → length p ≡ k → entry_at (p ++ s) (k + at) ≡ entry_at s at
unfolding entry_at
entry-behind p s k at e =
    let a : k + at + 8 ≡ k + (at + 8) = omega arith in
    let b : k + at + 16 ≡ k + (at + 16) = omega arith in
    let c : k + at + 20 ≡ k + (at + 20) = omega arith in
    rw (
      a,
      b,
      c,
      number_behind 8 p s k at e,
      number_behind 8 p s k (at + 8) e,
      number_behind 4 p s k (at + 16) e,
      number_behind 4 p s k (at + 20) e,
    )

-- a trailer has the form of an entry
abbrev as_trailer : Entry → Trailer
as_trailer e = record { offset = e.offset; count = e.length; latest = e.day; last = e.term }

trailer_at : (v : List ℕ) (k : ℕ) → length v - 24 ≡ k → trailer v ≡ as_trailer (entry_at v k)
unfolding trailer entry_at
trailer_at v k l = rw l

pub trailer-behind : (p s : List ℕ) → 24 ≤ length s → trailer (p ++ s) ≡ trailer s
trailer-behind p s h =
    let l : length (p ++ s) - 24 ≡ length p + (length s - 24) = simp length-append (omega arith) in
    trailer_at (p ++ s) (length p + (length s - 24)) l ∙ ap as_trailer (entry-behind p s (length p) (length s - 24) refl)
    ∙ sym (trailer_at s (length s - 24) refl)

-- ---- Read back.

-- The fields have room for the numbers.
pub record Fits (a b c d : ℕ) : Type 0 where
  pub first : a < 2 ^ 64
  pub second : b < 2 ^ 64
  pub third : c < 2 ^ 32
  pub fourth : d < 2 ^ 32

module _ (a b c d : ℕ) where
  pub length_fields : length (fields a b c d) ≡ 24
  unfolding fields
  length_fields = simp (length-append, length_digits)

-- a number at the front of a string
leading : (n v : ℕ) (s : List ℕ) → v < 256 ^ n → number n (digits n v ++ s) 0 ≡ v
leading n v s h = number_before n (digits n v) s 0 (omega (arith, length_digits n v)) ∙ number_digits n v h

module _ (a b c d : ℕ) (f : Fits a b c d) where
  first : number 8 (fields a b c d) 0 ≡ a
  unfolding fields
  first = leading 8 a _ f.first

  second : number 8 (fields a b c d) 8 ≡ b
  unfolding fields
  second = number-after 8 (digits 8 a) _ 8 (length_digits 8 a) ∙ leading 8 b _ f.second

  third : number 4 (fields a b c d) 16 ≡ c
  unfolding fields
  third =
      number_behind 4 (digits 8 a) _ 8 8 (length_digits 8 a) ∙ number-after 4 (digits 8 b) _ 8 (length_digits 8 b)
      ∙ leading 4 c _ f.third

  fourth : number 4 (fields a b c d) 20 ≡ d
  unfolding fields
  fourth =
      number_behind 4 (digits 8 a) _ 8 12 (length_digits 8 a) ∙ number_behind 4 (digits 8 b) _ 8 4 (length_digits 8 b)
      ∙ number-after 4 (digits 4 c) _ 4 (length_digits 4 c) ∙ number_digits 4 d f.fourth

  entry_whole : entry_at (fields a b c d) 0 ≡ record { offset = a; length = b; day = c; term = d }
  unfolding entry_at
  entry_whole = rw (first, second, third, fourth)

  pub entry-fields : (p s : List ℕ) (k : ℕ) → length p ≡ k → entry_at (p ++ (fields a b c d ++ s)) k ≡ record { offset = a; length = b; day = c; term = d }
  entry-fields p s k e =
      let z : k + 0 ≡ k = omega arith in
      rw z at (entry-behind p (fields a b c d ++ s) k 0 e)
      ∙ entry_before (fields a b c d) s 0 (omega (arith, length_fields a b c d)) ∙ entry_whole

  pub trailer-fields : (p : List ℕ) → trailer (p ++ fields a b c d) ≡ record { offset = a; count = b; latest = c; last = d }
  trailer-fields p =
      let l = length_fields a b c d in
      let z : length (fields a b c d) - 24 ≡ 0 = omega arith in
      trailer-behind p (fields a b c d) (omega arith) ∙ trailer_at (fields a b c d) 0 z ∙ ap as_trailer entry_whole
