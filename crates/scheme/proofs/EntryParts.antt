-- A part of an entry: clear bytes stay, and the rest lies in the range.
use mathlib.Core.Path.{◌≡◌, refl, sym, ap, ◌∙◌}
use mathlib.Core.Bool.{Bool, true, false}
use mathlib.Core.List.{List, [], ◌++◌, append-nil}
use Prim.Native.Nat.{ℕ, ◌+◌, ◌-◌, ◌≤◌, ◌<◌, min}
use native.Mathlib.Omega.{arith}
use lib.Dec.{ltb}
use lib.ListN.{length, take, drop, replicate, length-append, length-drop, length-replicate, get_or-replicate, get_or-append, drop_of_length-le, take-append-drop}
use lib.Seq.{ext_get_or, get_or-take, get_or-drop, drop-drop, take-add, length-take-le, drop-append-add, take_all}
use borrow.Author.Tests.{ltb-true, ltb-false}
use borrow.Rule.Slice.PartMut.{put_mid}
use Rattle.modes_spec.specs.declared.Direction.{Direction}
use Rattle.scheme.specs.declared.Pattern.{Pattern}
use Rattle.scheme.specs.declared.Scheme.{Scheme}
use Rattle.scheme.specs.Layout.{is_ciphered, restarts, range_marks}
use Rattle.modes_spec.specs.Modes.{Cipher}
use Rattle.scheme.proofs.Agreement.{length_range}
use Rattle.scheme.specs.Machine.{mode_of}
use Rattle.scheme.proofs.Passes.{passes_join, passes_clear}
use Rattle.scheme.specs.Walk.{Passes, RangeAsks, RangeSays, entry_marks, EntryAsks, EntrySays}

module _ (f : ℕ → ℕ → Bool) (a n x m : ℕ) (within : x + m ≤ a + n) where
  abbrev A : List Bool
  A = replicate a false

  abbrev R : List Bool
  R = range_marks f n

  abbrev stay : ℕ
  stay = min (a - x) m

  size_stay : length (take stay (drop x (A ++ R))) ≡ stay
  size_stay =
      length-take-le stay (drop x (A ++ R)) (simp (length-drop, length-append, length-replicate, length_range) (omega arith))

  clear_part : take stay (drop x (A ++ R)) ≡ replicate stay false
  clear_part =
      ext_get_or false (take stay (drop x (A ++ R))) (replicate stay false) (size_stay ∙ sym (length-replicate stay false))
      (λ i l.
      let k : i < stay = omega (arith, size_stay) in
      let j : x + i < a = omega arith in
      rw (
        get_or-take stay (drop x (A ++ R)) i false k,
        get_or-drop x (A ++ R) i false,
        get_or-append A R false (x + i) (rw length-replicate j),
        get_or-replicate a (x + i) false false j,
        get_or-replicate stay i false false k,
      ))

  range_rest : take (m - stay) (drop (x + stay) (A ++ R)) ≡ take (m - stay) (drop (x - a) R)
  range_rest = go (ltb m (a - x)) refl
    where
      go : (q : Bool) → ltb m (a - x) ≡ q → take (m - stay) (drop (x + stay) (A ++ R)) ≡ take (m - stay) (drop (x - a) R)
      go true p = let z : m - stay ≡ 0 = omega (arith, ltb-true m (a - x) p) in rw z
      go false p =
          let z : x + stay ≡ length A + (x - a) = rw length-replicate (omega (arith, ltb-false m (a - x) p)) in
          rw (z, drop-append-add A R (x - a))

  pub entry_split : take m (drop x (entry_marks f a n)) ≡ replicate stay false ++ take (m - stay) (drop (x - a) R)
  unfolding entry_marks
  entry_split =
      let e : m ≡ stay + (m - stay) = omega arith in
      ap (λ (k : ℕ). take k (drop x (A ++ R))) e
      ∙ rw (take-add stay (m - stay) (drop x (A ++ R)), drop-drop stay x (A ++ R), clear_part, range_rest)

module _ {s : Scheme} {pattern : Pattern} {a n x m u : ℕ} (q : EntryAsks s pattern a n x m u) where
  pub entry_asks : RangeAsks s pattern n (x - a) (m - min (a - x) m) u
  entry_asks =
      let e : x - a + (m - min (a - x) m) ≡ x + m - a = omega arith in
      record {
        small = q.small;
        within = omega (arith, q.within);
        used = q.used;
        unused = q.unused;
        from = q.from;
        to = rw e q.to;
      }

module _ (E D : Cipher) (d : Direction) (s : Scheme) (pattern : Pattern) (iv : List ℕ) (a n x u : ℕ) (c xs : List ℕ)
    (q : EntryAsks s pattern a n x (length xs) u) where
  abbrev st : ℕ
  st = min (a - x) (length xs)

  pub entry_says : (u' : ℕ) (c' z : List ℕ)
      → RangeSays E D d s pattern iv n (x - a) u c (take (length xs - st) (drop st xs)) u' c' z
      → EntrySays E D d s pattern iv a n x u c xs u' c' (put_mid st (length xs - st) xs z)
  entry_says u' c' z r =
      let size : length (drop st xs) ≡ length xs - st = length-drop st xs in
      let all : take (length xs - st) (drop st xs) ≡ drop st xs = take_all (length xs - st) (drop st xs) (omega arith) in
      let rest : drop (length xs - st) (drop st xs) ≡ [] = drop_of_length-le (drop st xs) {i = length xs - st} (omega arith) in
      let front : length (take st xs) ≡ st = length-take-le st xs (omega arith) in
      let first : Passes E D d (mode_of s) iv (replicate st false) (replicate st false) u c (take st xs) u c (take st xs) =
      rw front at (passes_clear E D d (mode_of s) iv (replicate st false) u c (take st xs) q.used
      (length-replicate st false ∙ sym front)) in
      let t = rw (all, size) at r.passes in
      record {
        passes =
            rw (
              entry_split (is_ciphered s pattern) a n x (length xs) q.within,
              entry_split (restarts s) a n x (length xs) q.within,
              rest,
              append-nil,
            )
            (rw (take-append-drop st xs) at (passes_join first t));
        used = let h = r.passes.rank in omega arith;
        unused = r.unused;
      }

  -- the same at numbers that the code worked out
  module _ (t y : ℕ) (et : t ≡ min (a - x) (length xs)) (ey : y ≡ x - a) where
    pub entry-asked : RangeAsks s pattern n y (length (take (length xs - t) (drop t xs))) u
    entry-asked =
        rw (et, ey, take_all (length xs - st) (drop st xs) (simp length-drop (omega arith)), length-drop st xs) (entry_asks q)

    pub entry_turned : (u' : ℕ) (c' z : List ℕ)
        → RangeSays E D d s pattern iv n y u c (take (length xs - t) (drop t xs)) u' c' z
        → EntrySays E D d s pattern iv a n x u c xs u' c' (put_mid t (length xs - t) xs z)
    entry_turned = rw (et, ey) entry_says
