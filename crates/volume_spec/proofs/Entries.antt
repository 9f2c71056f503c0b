-- The entries of an index: one by one, among other bytes, adjoining, and their largest day.
use mathlib.Core.Bool.{Bool, true, false}
use mathlib.Core.List.{List, [], ◌∷◌, ◌++◌}
use mathlib.Core.Path.{◌≡◌, refl, sym, ap, ◌∙◌}
use Prim.Native.Nat.{ℕ, zero, suc, ◌+◌, ◌*◌, ◌≤◌, ◌<◌, max}
use native.Mathlib.Omega.{arith}
use lib.Dec.{eqb}
use lib.ListN.{length, get_or}
use borrow.Author.Tests.{eqb-true, eq-eqb, ne_eqb}
use Rattle.octets.proofs.Tests.{&&_left, &&_right}
use Rattle.volume_spec.specs.declared.Entry.{Entry}
use Rattle.volume_spec.specs.Volume.{entry_at, entries, adjoining, largest_day}
use Rattle.volume_spec.proofs.Fields.{entry_before, entry-behind}

-- ---- One by one.

pub entries_last : (v : List ℕ) (at n : ℕ) → entries v at (suc n) ≡ entries v at n ++ (entry_at v (at + n * 24) ∷ [])
unfolding entries
entries_last v at zero =
    let e : at + 0 * 24 ≡ at = omega arith in
    rw e
entries_last v at (suc n) =
    let e : at + 24 + n * 24 ≡ at + suc n * 24 = omega arith in
    ap (λ (l : List Entry). entry_at v at ∷ l) (rw e at (entries_last v (at + 24) n))

pub length-entries : (v : List ℕ) (at n : ℕ) → length (entries v at n) ≡ n
unfolding entries
length-entries v at zero = refl
length-entries v at (suc n) = ap suc (length-entries v (at + 24) n)

pub entries_at : (v : List ℕ) (at n k : ℕ) (d : Entry) → k < n → get_or (entries v at n) k d ≡ entry_at v (at + k * 24)
unfolding entries
entries_at v at zero k d h = absurd (omega arith)
entries_at v at (suc n) zero d h =
    let e : at + 0 * 24 ≡ at = omega arith in
    rw e
entries_at v at (suc n) (suc k) d h =
    let e : at + 24 + k * 24 ≡ at + suc k * 24 = omega arith in
    rw e at (entries_at v (at + 24) n k d (omega arith))

-- ---- Among other bytes.

pub entries_before : (s t : List ℕ) (at n : ℕ) → at + n * 24 ≤ length s → entries (s ++ t) at n ≡ entries s at n
unfolding entries
entries_before s t at zero h = refl
entries_before s t at (suc n) h = rw (entry_before s t at (omega arith), entries_before s t (at + 24) n (omega arith))

pub entries-behind : (p s : List ℕ) (k at n : ℕ) → length p ≡ k → entries (p ++ s) (k + at) n ≡ entries s at n
unfolding entries
entries-behind p s k at zero e = refl
entries-behind p s k at (suc n) e =
    let a : k + at + 24 ≡ k + (at + 24) = omega arith in
    rw (a, entry-behind p s k at e, entries-behind p s k (at + 24) n e)

-- ---- Adjoining.

-- the first begins where it must, and the others adjoin from its end on
module _ (from : ℕ) (e : Entry) (es : List Entry) (to : ℕ) (h : adjoining from (e ∷ es) to ≡ true) where
  adjoining_offset : e.offset ≡ from
  unfolding adjoining
  adjoining_offset = eqb-true e.offset from (&&_left (eqb e.offset from) (adjoining (e.offset + e.length) es to) h)

  pub adjoining_rest : adjoining (e.offset + e.length) es to ≡ true
  unfolding adjoining
  adjoining_rest = &&_right (eqb e.offset from) (adjoining (e.offset + e.length) es to) h

pub adjoining_within : (from : ℕ) (es : List Entry) (to : ℕ) → adjoining from es to ≡ true → from ≤ to
unfolding adjoining
adjoining_within from [] to h = omega (arith, eqb-true from to h)
adjoining_within from (e ∷ es) to h =
    omega (arith, adjoining_offset from e es to h, adjoining_within (e.offset + e.length) es to (adjoining_rest from e es to h))

-- the first begins elsewhere, or runs past the end, or the others decide
module _ (from : ℕ) (e : Entry) (es : List Entry) (to : ℕ) where
  pub adjoining_elsewhere : (e.offset ≡ from → ⊥) → adjoining from (e ∷ es) to ≡ false
  unfolding adjoining
  adjoining_elsewhere h = rw (ne_eqb e.offset from h)

  pub adjoining_past : to < from + e.length → adjoining from (e ∷ es) to ≡ false
  adjoining_past l = go (adjoining from (e ∷ es) to) refl
    where
      go : (b : Bool) → adjoining from (e ∷ es) to ≡ b → adjoining from (e ∷ es) to ≡ false
      go true h =
          let w = adjoining_within (e.offset + e.length) es to (adjoining_rest from e es to h) in
          absurd (omega (arith, adjoining_offset from e es to h))
      go false h = h

  pub adjoining-next : e.offset ≡ from → adjoining from (e ∷ es) to ≡ adjoining (from + e.length) es to
  unfolding adjoining
  adjoining-next o = rw (eq-eqb e.offset from o, o)

-- one more
pub adjoining_last : (from : ℕ) (es : List Entry) (to : ℕ) (e : Entry) → adjoining from es to ≡ true → e.offset ≡ to
    → adjoining from (es ++ (e ∷ [])) (to + e.length) ≡ true
unfolding adjoining
adjoining_last from [] to e h o =
    let a : e.offset ≡ from = o ∙ sym (eqb-true from to h) in
    let b : e.offset + e.length ≡ to + e.length = omega arith in
    rw (eq-eqb e.offset from a, eq-eqb (e.offset + e.length) (to + e.length) b)
adjoining_last from (x ∷ es) to e h o =
    rw (
      eq-eqb x.offset from (adjoining_offset from x es to h),
      adjoining_last (x.offset + x.length) es to e (adjoining_rest from x es to h) o,
    )

-- ---- The largest day.

pub largest_last : (es : List Entry) (e : Entry) → largest_day (es ++ (e ∷ [])) ≡ max (largest_day es) e.day
unfolding largest_day
largest_last [] e = omega arith
largest_last (x ∷ es) e = rw (largest_last es e) (omega arith)

-- no day is later
pub day_within : (v : List ℕ) (at n k : ℕ) → k < n → (entry_at v (at + k * 24)).day ≤ largest_day (entries v at n)
unfolding largest_day entries
day_within v at zero k h = absurd (omega arith)
day_within v at (suc n) zero h =
    let e : at + 0 * 24 ≡ at = omega arith in
    rw e (omega arith)
day_within v at (suc n) (suc k) h =
    let e : at + 24 + k * 24 ≡ at + suc k * 24 = omega arith in
    let l = rw e at (day_within v (at + 24) n k (omega arith)) in
    omega arith
