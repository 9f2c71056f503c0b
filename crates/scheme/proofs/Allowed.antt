-- What allowed parameters and an accepted map say of a sample's layout.
use mathlib.Core.Bool.{Bool, true, false, cond, true≢false}
use mathlib.Core.List.{[], ◌∷◌}
use mathlib.Core.Logic.{⊎_elim}
use mathlib.Core.Path.{◌≡◌, refl, sym, ap, ◌∙◌}
use Prim.Native.Nat.{ℕ, ◌+◌, ◌≤◌}
use native.Mathlib.Omega.{arith}
use lib.Dec.{eqb}
use lib.ListN.{length, take}
use borrow.Author.Tests.{eqb-true, eqb-false, lt-ltb, not-false}
use Rattle.octets.specs.Answers.{answer}
use Rattle.octets.specs.Bytes.{same}
use Rattle.octets.proofs.Answers.{done_head, done_tail}
use Rattle.octets.proofs.Tests.{&&_left}
use Rattle.track_spec.specs.declared.Parameters.{Parameters}
use Rattle.track_spec.specs.Track.{known, pattern_or_none, allowed_protected, allowed_fields, allowed}
use Rattle.track_spec.proofs.Codes.{known_cases, allowed-fields}
use Rattle.subsample_spec.specs.declared.Entry.{Entry}
use Rattle.subsample_spec.specs.declared.SubsampleMap.{SubsampleMap}
use Rattle.subsample_spec.specs.Auxiliary.{limit, sum, entry_length, map_rows, entry}
use Rattle.subsample_spec.proofs.Counting.{sum_first}
use Rattle.subsample_spec.proofs.Reading.{count-allowed}
use Rattle.scheme.specs.declared.Scheme.{Scheme}
use Rattle.scheme.specs.declared.Scheme.TheVariants.{Cenc, Cbc1, Cens, Cbcs}
use Rattle.scheme.specs.Layout.{scheme_of, total}
use Rattle.scheme.specs.Part.{protected_entries, entries_of}
use Rattle.scheme.proofs.SampleParts.{total_by}

-- ---- Parameters.

abbrev is_cbcs : Scheme → Bool
is_cbcs Cenc = false
is_cbcs Cbc1 = false
is_cbcs Cens = false
is_cbcs Cbcs = true

-- of a protected track in cbcs the IV is the constant one
module _ (p : Parameters) (k : known p.code ≡ true) (h : allowed p ≡ true) (one : p.protected ≡ 1) (c : scheme_of p.code ≡ Cbcs) where
  fields : allowed_protected p.code p.iv_size p.crypt p.skip ≡ true
  unfolding allowed_fields
  fields = rw one at (allowed-fields p h)

  pub cbcs_constant : p.iv_size ≡ 0
  unfolding scheme_of same allowed_protected
  cbcs_constant =
      ⊎_elim (λ e. absurd (other Cenc refl (rw e at c)))
      (⊎_elim (λ e. absurd (other Cbc1 refl (rw e at c)))
      (⊎_elim (λ e. absurd (other Cens refl (rw e at c)))
      (λ e. eqb-true p.iv_size 0 (&&_left (eqb p.iv_size 0) (pattern_or_none p.crypt p.skip) (rw e at fields)))))
      (known_cases p.code k)
    where
      other : (t : Scheme) → is_cbcs t ≡ false → t ≡ Cbcs → ⊥
      other t f e = true≢false (sym (ap is_cbcs e) ∙ f)

-- ---- The map.

-- the entries of an accepted map call for as many bytes as the sample has
module _ (p : Parameters) (m : SubsampleMap) (n : ℕ) (he : length m.entries ≡ limit)
    (h : answer (map_rows p.code m n) ≡ 0) where
  few : m.count ≤ limit
  few = count-allowed p.code m n h

  added : eqb m.count 0 ≡ false → sum (entry_length m) m.count ≡ n
  unfolding map_rows
  added e =
      let r = done_head 11 _ _ (omega arith) (done_tail 10 _ _ (omega arith) (done_tail 9 _ _ (omega arith) h)) in
      let c = lt-ltb 0 m.count (let z : (m.count ≡ 0) → ⊥ = eqb-false m.count 0 e in omega arith) in
      eqb-true (sum (entry_length m) m.count) n (not-false _ (rw c at r))

  pub protected_total : total (protected_entries m n) ≡ n
  unfolding protected_entries total
  protected_total = go (eqb m.count 0) refl
    where
      go : (q : Bool) → eqb m.count 0 ≡ q
          → total (cond q (entry 0 n ∷ []) (take m.count m.entries)) ≡ n
      go true e = omega arith
      go false e =
          sym (total_by (take m.count m.entries))
          ∙ sum_first m (λ (e : Entry). e.clear + e.protected) m.count (omega (arith, few)) ∙ added e

  pub accepted-total : total (entries_of p m n) ≡ n
  unfolding entries_of total
  accepted-total = go (eqb p.protected 1) refl
    where
      go : (q : Bool) → eqb p.protected 1 ≡ q → total (cond q (protected_entries m n) (entry n 0 ∷ [])) ≡ n
      go true e = protected_total
      go false e = omega arith
