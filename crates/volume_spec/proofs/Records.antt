-- What is handed out of a volume: the bytes that its index lists, always within the volume.
use mathlib.Core.Bool.{Bool, true, false}
use mathlib.Core.List.{List, [], ◌∷◌, map}
use mathlib.Core.Path.{◌≡◌, refl, sym, ◌∙◌}
use Prim.Native.Nat.{ℕ, zero, suc, ◌+◌, ◌≤◌, ◌<◌}
use native.Mathlib.Omega.{arith}
use lib.Dec.{eqb, leb}
use lib.ListN.{length, get_or, length-map, get_or-eq_default}
use borrow.Author.Tests.{not-false, leb-false, leb-true, le-leb, lt-leb, eqb-true, eqb-false, ne_eqb}
use Rattle.octets.specs.Answers.{answer}
use Rattle.octets.proofs.Answers.{done_head, done_tail}
use Rattle.volume_spec.specs.declared.Entry.{Entry}
use Rattle.volume_spec.specs.Volume.{trailer, index, adjoining, valid, check, entry_of, record_rows, found}
use Rattle.volume_spec.specs.Additions.{handed_out, Stored, stored_by, stored}
use Rattle.volume_spec.proofs.Entries.{length-entries, entries_at, adjoining_rest, adjoining_within}
use Rattle.volume_spec.proofs.Valid.{valid_has}

-- ---- The answer.

module _ (v : List ℕ) where
  pub check-valid : valid v ≡ true → check v ≡ 0
  unfolding check answer
  check-valid h = rw h

  module _ (k : ℕ) where
    pub record_there : valid v ≡ true → k < (trailer v).count → answer (record_rows v k) ≡ 0
    unfolding answer
    record_there h l = rw (h, lt-leb (trailer v).count k l)

    pub record_missing : valid v ≡ true → (trailer v).count ≤ k → answer (record_rows v k) ≡ 51
    unfolding answer
    record_missing h l = rw (h, le-leb (trailer v).count k l)

    pub found_there : answer (record_rows v k) ≡ 0 → found v k ≡ record { answer = 0; offset = (entry_of v k).offset; length = (entry_of v k).length }
    unfolding found
    found_there e = rw e

    pub found-refused : (n : ℕ) → answer (record_rows v k) ≡ n → (n ≡ 0 → ⊥) → found v k ≡ record { answer = n; offset = 0; length = 0 }
    unfolding found
    found-refused n e z = rw (e, ne_eqb n 0 z)

-- ---- What is handed out.

map_at : {A B C : Type 0} (f : B → C) (g : A → B) (xs : List A) (k : ℕ) (x : A) (d : C) → k < length xs
    → get_or (map f (map g xs)) k d ≡ f (g (get_or xs k x))
map_at f g [] k x d h = absurd (omega arith)
map_at f g (y ∷ xs) zero x d h = refl
map_at f g (y ∷ xs) (suc k) x d h = map_at f g xs k x d (omega arith)

module _ (v : List ℕ) where
  length-index : length (index v) ≡ (trailer v).count
  length-index = length-entries v (trailer v).offset (trailer v).count

  pub length-stored : length (stored v) ≡ (trailer v).count
  unfolding stored
  length-stored = length-map (index v) (stored_by v) ∙ length-index

  module _ (k : ℕ) where
    -- entry k of the index, and what it stores
    index_at : k < (trailer v).count → get_or (index v) k (entry_of v k) ≡ entry_of v k
    index_at l = entries_at v (trailer v).offset (trailer v).count k (entry_of v k) l

    pub stored_at : {A : Type 0} (f : Stored → A) (d : A) → k < (trailer v).count → get_or (map f (stored v)) k d ≡ f (stored_by v (entry_of v k))
    unfolding stored
    stored_at f d l = map_at f (stored_by v) (index v) k (entry_of v k) d (omega (arith, length-index)) ∙ rw (index_at l)

    module _ (h : valid v ≡ true) where
      handed_there : k < (trailer v).count → handed_out v k ≡ get_or (map (λ s. s.contents) (stored v)) k []
      unfolding handed_out stored_by
      handed_there l = rw (found_there v k (record_there v k h l)) (sym (stored_at (λ s. s.contents) [] l))

      handed_missing : (trailer v).count ≤ k → handed_out v k ≡ get_or (map (λ s. s.contents) (stored v)) k []
      unfolding handed_out
      handed_missing l =
          rw (found-refused v k 51 (record_missing v k h l) (λ e. omega arith))
          (sym (get_or-eq_default (map (λ s. s.contents) (stored v)) [] (omega (arith, length-map (stored v) (λ s. s.contents), length-stored))))

      -- the bytes of record k as the index lists it, and none past the last
      pub handed-stored : handed_out v k ≡ get_or (map (λ s. s.contents) (stored v)) k []
      handed-stored = go (leb (trailer v).count k) refl
        where
          go : (b : Bool) → leb (trailer v).count k ≡ b → handed_out v k ≡ get_or (map (λ s. s.contents) (stored v)) k []
          go true e = handed_missing (leb-true (trailer v).count k e)
          go false e = handed_there (leb-false (trailer v).count k e)

-- ---- Where they lie.

adjoining_at : (from : ℕ) (es : List Entry) (to k : ℕ) (d : Entry) → adjoining from es to ≡ true → k < length es
    → (get_or es k d).offset + (get_or es k d).length ≤ to
adjoining_at from [] to k d h l = absurd (omega arith)
adjoining_at from (e ∷ es) to zero d h l = adjoining_within (e.offset + e.length) es to (adjoining_rest from e es to h)
adjoining_at from (e ∷ es) to (suc k) d h l = adjoining_at (e.offset + e.length) es to k d (adjoining_rest from e es to h) (omega arith)

module _ (v : List ℕ) (k : ℕ) where
  -- a record of a valid volume ends where the index begins, or before
  pub before_index : valid v ≡ true → k < (trailer v).count → (entry_of v k).offset + (entry_of v k).length ≤ (trailer v).offset
  before_index h l =
      rw (index_at v k l) at
      (adjoining_at 0 (index v) (trailer v).offset k (entry_of v k) (valid_has v h).adjoined (omega (arith, length-index v)))

  -- whatever the bytes and k, a place that is handed out lies within the volume
  pub found_within : (found v k).offset + (found v k).length ≤ length v
  found_within = go (eqb (answer (record_rows v k)) 0) refl
    where
      go : (b : Bool) → eqb (answer (record_rows v k)) 0 ≡ b → (found v k).offset + (found v k).length ≤ length v
      go true e =
          let z = eqb-true (answer (record_rows v k)) 0 e in
          let h = not-false (valid v) (done_head 50 _ _ (omega arith) z) in
          let l = leb-false _ _ (done_head 51 _ _ (omega arith) (done_tail 50 _ _ (omega arith) z)) in
          rw (found_there v k z) (omega (arith, before_index h l, (valid_has v h).filled))
      go false e = rw (found-refused v k (answer (record_rows v k)) refl (eqb-false (answer (record_rows v k)) 0 e)) (omega arith)
