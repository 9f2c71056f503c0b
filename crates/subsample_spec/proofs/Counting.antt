-- The places of a map, filled by a loop or made at once; and the used entries, as a loop over them meets them.
use mathlib.Core.Bool.{Bool, true, false, cond, ◌||◌}
use mathlib.Core.List.{List, ◌++◌}
use mathlib.Core.Path.{◌≡◌, refl, sym, ap, ◌∙◌}
use Prim.Native.Nat.{ℕ, zero, suc, ◌+◌, ◌-◌, ◌≤◌, ◌<◌, min}
use native.Mathlib.Numerals.{add-one}
use native.Mathlib.Omega.{arith}
use lib.Dec.{eqb, ltb}
use lib.ListN.{length, get_or, take, set, replicate, length-append, length-replicate, length-take, get_or-append, get_or-eq_default}
use lib.Seq.{get_or-take, length-take-le, get_or-append_right}
use borrow.Author.Tests.{ltb-true, ltb-false, eqb-true, eqb-false}
use Rattle.std.specs.List.{list_any, sum_by}
use Rattle.std.proofs.lemmas.List.{ext_get_or, get_or-replicate, get_or-set_same, get_or-set_other, length-set}
use Rattle.std.proofs.lemmas.List.Folds.{list_any_more}
use Rattle.std.proofs.lemmas.List.Sums.{sum_by_more}
use Rattle.octets.specs.Bytes.{list_of}
use Rattle.octets.proofs.Bytes.{get_d_list_of}
use Rattle.subsample_spec.specs.declared.Entry.{Entry}
use Rattle.subsample_spec.specs.declared.SubsampleMap.{SubsampleMap}
use Rattle.subsample_spec.specs.Auxiliary.{limit, some, sum, entry, entry_at, places}

abbrev empties : List Entry
empties = replicate limit (entry 0 0)

-- The places of a map that begin with given entries.
pub length-places : (es : List Entry) → length (places es) ≡ limit
unfolding places
length-places es = length-take-le limit (es ++ empties) (simp (length-append, length-replicate) (omega arith))

pub places_at : (es : List Entry) (k : ℕ) → k < limit → get_or (places es) k (entry 0 0) ≡ get_or es k (entry 0 0)
unfolding places
places_at es k l = rw (get_or-take limit (es ++ empties) k (entry 0 0) l) (go (ltb k (length es)) refl)
  where
    go : (t : Bool) → ltb k (length es) ≡ t → get_or (es ++ empties) k (entry 0 0) ≡ get_or es k (entry 0 0)
    go true e = get_or-append es empties (entry 0 0) k (ltb-true k (length es) e)
    go false e =
        let h = ltb-false k (length es) e in
        get_or-append_right es empties k (entry 0 0) h ∙ get_or-replicate limit (k - length es) (entry 0 0) (entry 0 0) (omega arith)
        ∙ sym (get_or-eq_default es (entry 0 0) {n = k} h)

length_listed : (n : ℕ) (f : ℕ → Entry) → length (list_of n f) ≡ n
length_listed zero f = refl
length_listed (suc n) f = ap suc (length_listed n (λ i. f (suc i)))

-- Places of which the first are f 0, f 1, .., count of them, and the rest are empty.
pub places-made : (f : ℕ → Entry) (count : ℕ) (out : List Entry) → count ≤ limit → length out ≡ limit
    → ((k : ℕ) → k < limit → get_or out k (entry 0 0) ≡ cond (ltb k count) (f k) (entry 0 0)) → out ≡ places (list_of count f)
places-made f count out small n h =
    ext_get_or (entry 0 0) out (places (list_of count f)) (n ∙ sym (length-places (list_of count f)))
    (λ k l. h k (omega (arith, n)) ∙ go k (ltb k count) refl ∙ sym (places_at (list_of count f) k (omega (arith, n))))
  where
    go : (k : ℕ) (t : Bool) → ltb k count ≡ t → cond (ltb k count) (f k) (entry 0 0) ≡ get_or (list_of count f) k (entry 0 0)
    go k true e = rw e (sym (get_d_list_of count f (entry 0 0) k (ltb-true k count e)))
    go k false e =
        let q : count ≤ k = ltb-false k count e in
        rw e (sym (get_or-eq_default (list_of count f) (entry 0 0) {n = k} (omega (arith, q, length_listed count f))))

-- A loop that fills the places of a map with f 0, f 1, .., count of them; i are done.
pub record Taken (f : ℕ → Entry) (count : ℕ) (out : List Entry) (i : ℕ) : Type 0 where
  pub within : i ≤ count
  pub size : length out ≡ limit
  pub done : (k : ℕ) → k < i → get_or out k (entry 0 0) ≡ f k
  pub left : (k : ℕ) → i ≤ k → k < limit → get_or out k (entry 0 0) ≡ entry 0 0

pub taken_none : (f : ℕ → Entry) (count : ℕ) → Taken f count empties 0
taken_none f count =
    record {
      within = omega arith;
      size = length-replicate limit (entry 0 0);
      done = λ k l. absurd (omega arith);
      left = λ k h l. get_or-replicate limit k (entry 0 0) (entry 0 0) l;
    }

module _ {f : ℕ → Entry} {count : ℕ} {out : List Entry} {i : ℕ} (t : Taken f count out i) (small : count ≤ limit) where
  pub taken_next : i < count → (e : Entry) → e ≡ f i → Taken f count (set out i e) (i + 1)
  taken_next l e h =
      record {
        within = omega arith;
        size = length-set out i e ∙ t.size;
        done = λ k m. go k m (eqb k i) refl;
        left = λ k m n. get_or-set_other out i k e (entry 0 0) (λ q. omega arith) ∙ t.left k (omega arith) n;
      }
    where
      go : (k : ℕ) → k < i + 1 → (q : Bool) → eqb k i ≡ q → get_or (set out i e) k (entry 0 0) ≡ f k
      go k m true q =
          let z : k ≡ i = eqb-true k i q in
          rw z (get_or-set_same out i e (entry 0 0) (omega (arith, t.size)) ∙ h)
      go k m false q =
          let z = eqb-false k i q in
          get_or-set_other out i k e (entry 0 0) z ∙ t.done k (omega arith)

  pub taken_all : count ≤ i → out ≡ places (list_of count f)
  taken_all l = places-made f count out small t.size (λ k m. go k m (ltb k count) refl)
    where
      go : (k : ℕ) → k < limit → (q : Bool) → ltb k count ≡ q → get_or out k (entry 0 0) ≡ cond (ltb k count) (f k) (entry 0 0)
      go k m true q = let z = ltb-true k count q in rw q (t.done k (omega arith))
      go k m false q = let z = ltb-false k count q in rw q (t.left k (omega (arith, t.within)) m)

-- ---- The used entries.

module _ (m : SubsampleMap) where
  some_first : (p : Entry → Bool) (n : ℕ) → n ≤ length m.entries
      → list_any p (take n m.entries) ≡ some (λ i. p (entry_at m i)) n
  unfolding some
  some_first p zero l = refl
  some_first p (suc n) l =
      rw (← add-one)
      (list_any_more p m.entries n (entry 0 0) (omega arith)
      ∙ ap (λ (b : Bool). b || p (entry_at m n)) (some_first p n (omega arith)))

  pub sum_first : (p : Entry → ℕ) (n : ℕ) → n ≤ length m.entries
      → sum_by p (take n m.entries) ≡ sum (λ i. p (entry_at m i)) n
  unfolding sum
  sum_first p zero l = refl
  sum_first p (suc n) l =
      rw (← add-one)
      (sum_by_more p m.entries n (entry 0 0) (omega arith)
      ∙ ap (λ (b : ℕ). b + p (entry_at m n)) (sum_first p n (omega arith)))

  -- es is what `used` answers of a map with no more entries than places
  module _ (es : List Entry) (first : es ≡ take m.count m.entries) (size : length es ≡ min m.count limit) (small : m.count ≤ limit) where
    within : m.count ≤ length m.entries
    within = omega (arith, small, size, ap (λ (fs : List Entry). length fs) first, length-take m.count m.entries)

    pub some_used : (p : Entry → Bool) → list_any p es ≡ some (λ i. p (entry_at m i)) m.count
    some_used p = rw first (some_first p m.count within)

    pub sum_used : (p : Entry → ℕ) → sum_by p es ≡ sum (λ i. p (entry_at m i)) m.count
    sum_used p = rw first (sum_first p m.count within)
