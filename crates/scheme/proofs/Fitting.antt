-- When a part of a sample fits, and what the transform of a part then is.
use mathlib.Core.Bool.{Bool, true, false, ◌&&◌}
use mathlib.Core.List.{List, []}
use mathlib.Core.Path.{◌≡◌, refl, sym, ◌∙◌}
use Prim.Native.Nat.{ℕ, ◌+◌, ◌%◌, ◌≤◌}
use lib.Dec.{eqb, leb}
use lib.ListN.{length, take}
use borrow.Author.Tests.{eqb-true, eq-eqb, leb-true, le-leb}
use Rattle.octets.proofs.Tests.{&&_left, &&_right}
use Rattle.modes_spec.specs.declared.Direction.{Direction}
use Rattle.modes_spec.specs.Modes.{Cipher}
use Rattle.track_spec.specs.declared.Parameters.{Parameters}
use Rattle.subsample_spec.specs.declared.SubsampleMap.{SubsampleMap}
use Rattle.subsample_spec.specs.Auxiliary.{longest}
use Rattle.scheme.specs.Layout.{pattern_of, scheme_of, total, mask, count}
use Rattle.scheme.specs.Machine.{free, feed_sample}
use Rattle.scheme.specs.Part.{protected_entries, entries_of, held_under, fits, feed_under, transformed}
use Rattle.scheme.specs.Walk.{SampleAsks}
use Rattle.scheme.proofs.SampleParts.{whole_asks}
use Rattle.scheme.proofs.Under.{clear_fed}

module _ (p : Parameters) (m : SubsampleMap) (n : ℕ) (one : p.protected ≡ 1) where
  pub protected_entries_lem : entries_of p m n ≡ protected_entries m n
  unfolding entries_of
  protected_entries_lem = rw one

  -- the conditions, one by one
  pub fits_is : (x k : ℕ)
      → fits p m n x k
      ≡ leb n longest && leb (x + k) (total (protected_entries m n)) && eqb (held_under p m n x) 0 && eqb (held_under p m n (x + k)) 0
  unfolding fits
  fits_is x k = rw protected_entries_lem

  module _ (x k : ℕ) (f : fits p m n x k ≡ true) where
    abbrev a : Bool
    a = leb n longest

    abbrev b : Bool
    b = leb (x + k) (total (protected_entries m n))

    abbrev c : Bool
    c = eqb (held_under p m n x) 0

    abbrev d : Bool
    d = eqb (held_under p m n (x + k)) 0

    all : (a && b && c && d) ≡ true
    all = sym (fits_is x k) ∙ f

    pub fits_length : n ≤ longest
    fits_length = leb-true n longest (&&_left a b (&&_left (a && b) c (&&_left (a && b && c) d all)))

    pub fits_asks : SampleAsks (scheme_of p.code) (pattern_of p) (protected_entries m n) x k
        (count (take x (mask (scheme_of p.code) (pattern_of p) (protected_entries m n))) % 16)
    unfolding held_under
    fits_asks =
        let h2 = &&_left (a && b) c (&&_left (a && b && c) d all) in
        let h3 : held_under p m n x ≡ 0 = eqb-true _ _ (&&_right (a && b) c (&&_left (a && b && c) d all)) in
        let h4 : held_under p m n (x + k) ≡ 0 = eqb-true _ _ (&&_right (a && b && c) d all) in
        record {
          within = leb-true (x + k) (total (protected_entries m n)) (&&_right a b h2);
          from = rw protected_entries_lem at h3;
          to = rw protected_entries_lem at h4;
          rank = refl;
        }

-- the transform of a part
module _ (E D : Cipher) (d : Direction) (p : Parameters) (m : SubsampleMap) (n x : ℕ) (c xs : List ℕ) where
  pub transformed_fits : p.protected ≡ 1 → fits p m n x (length xs) ≡ true
      → transformed E D d p m n x c xs
      ≡ feed_sample E D d (scheme_of p.code) (pattern_of p) p.constant_iv.0 (protected_entries m n) (free x c) xs
  unfolding transformed feed_under
  transformed_fits one f = rw (f, protected_entries_lem p m n one)

  pub transformed_not : fits p m n x (length xs) ≡ false
      → transformed E D d p m n x c xs ≡ record { state = free x c; released = xs }
  unfolding transformed
  transformed_not f = rw f

  -- of an unprotected track nothing changes, whether the part fits or not
  pub transformed_clear : eqb p.protected 1 ≡ false
      → ((transformed E D d p m n x c xs).released ≡ xs) × ((transformed E D d p m n x c xs).state.block ≡ c)
  unfolding transformed
  transformed_clear e = go (fits p m n x (length xs)) refl
    where
      go : (t : Bool) → fits p m n x (length xs) ≡ t
          → ((transformed E D d p m n x c xs).released ≡ xs) × ((transformed E D d p m n x c xs).state.block ≡ c)
      go true f =
          let k = clear_fed E D d p m n e x c [] xs in
          (rw (f, k), rw (f, k))
      go false f = (rw f, rw f)

-- a part that the walk may take fits, and so does a whole sample
module _ (p : Parameters) (m : SubsampleMap) (n : ℕ) (one : p.protected ≡ 1) (l : n ≤ longest) where
  pub asks_fits : (x k u : ℕ) → SampleAsks (scheme_of p.code) (pattern_of p) (protected_entries m n) x k u → fits p m n x k ≡ true
  unfolding held_under
  asks_fits x k u w =
      let e = protected_entries_lem p m n one in
      let from : held_under p m n x ≡ 0 = rw e w.from in
      let to : held_under p m n (x + k) ≡ 0 = rw e w.to in
      rw (
        fits_is p m n one x k,
        le-leb n longest l,
        le-leb (x + k) (total (protected_entries m n)) w.within,
        eq-eqb (held_under p m n x) 0 from,
        eq-eqb (held_under p m n (x + k)) 0 to,
      )

  pub fits_whole : total (protected_entries m n) ≡ n → fits p m n 0 n ≡ true
  fits_whole t = asks_fits 0 n 0 (whole_asks (pattern_of p) (scheme_of p.code) (protected_entries m n) n (sym t))
