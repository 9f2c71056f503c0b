-- The test of validity and its record say the same; and the same by the trailer as the code reads it.
use mathlib.Core.Bool.{Bool, true, false, ◌&&◌}
use mathlib.Core.List.{List}
use mathlib.Core.Path.{◌≡◌, refl}
use Prim.Native.Nat.{ℕ, ◌+◌, ◌*◌}
use lib.Dec.{eqb, leb}
use lib.ListN.{length}
use borrow.Author.Tests.{leb-true, le-leb, eqb-true, eqb-false, eq-eqb}
use Rattle.octets.proofs.Tests.{&&_left, &&_right}
use Rattle.volume_spec.specs.declared.Entry.{Entry}
use Rattle.volume_spec.specs.declared.Trailer.{Trailer}
use Rattle.volume_spec.specs.Volume.{trailer, entries, index, fills, adjoining, largest_day, valid, Valid}

module _ (v : List ℕ) where
  pub valid_has : valid v ≡ true → Valid v
  unfolding valid
  valid_has h =
      let a = leb 24 (length v) in
      let b = eqb ((trailer v).offset + (trailer v).count * 24 + 24) (length v) in
      let c = adjoining 0 (index v) (trailer v).offset in
      let d = eqb (trailer v).last 0 in
      let e = eqb (trailer v).latest (largest_day (index v)) in
      let abcd = &&_left (a && b && c && d) e h in
      let abc = &&_left (a && b && c) d abcd in
      let ab = &&_left (a && b) c abc in
      record {
        whole = leb-true 24 (length v) (&&_left a b ab);
        filled = eqb-true _ _ (&&_right a b ab);
        adjoined = &&_right (a && b) c abc;
        last = eqb-true _ _ (&&_right (a && b && c) d abcd);
        latest = eqb-true _ _ (&&_right (a && b && c && d) e h);
      }

  -- where one of them fails
  pub not_valid_lem : (Valid v → ⊥) → valid v ≡ false
  not_valid_lem n = go (valid v) refl
    where
      go : (b : Bool) → valid v ≡ b → valid v ≡ false
      go true e = absurd (n (valid_has e))
      go false e = e

  pub is_valid : Valid v → valid v ≡ true
  unfolding valid
  is_valid h =
      rw (
        le-leb 24 (length v) h.whole,
        eq-eqb ((trailer v).offset + (trailer v).count * 24 + 24) (length v) h.filled,
        h.adjoined,
        eq-eqb (trailer v).last 0 h.last,
        eq-eqb (trailer v).latest (largest_day (index v)) h.latest,
      )

-- ---- By the trailer as the code reads it.

module _ (v : List ℕ) (t : Trailer) (e : t ≡ trailer v) where
  abbrev listed : List Entry
  listed = entries v t.offset t.count

  pub filled_by : valid v ≡ true → t.offset + t.count * 24 + 24 ≡ length v
  filled_by h = rw e (valid_has v h).filled

  pub not_filled : fills (length v) t.offset t.count ≡ false → valid v ≡ false
  not_filled n = not_valid_lem v (λ h. eqb-false (t.offset + t.count * 24 + 24) (length v) n (rw e h.filled))
