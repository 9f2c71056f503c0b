-- A part of a sample, one entry a turn.
use mathlib.Core.Path.{◌≡◌, refl, sym, ap, ◌∙◌}
use mathlib.Core.Bool.{Bool, true, false}
use mathlib.Core.List.{List, [], ◌∷◌, ◌++◌, append_assoc}
use Prim.Native.Nat.{ℕ, ◌+◌, ◌-◌, ◌/◌, ◌%◌, ◌^◌, ◌≤◌, ◌<◌, min}
use native.Mathlib.Nat.{add-zero}
use native.Mathlib.Numerals.{add-one}
use native.Mathlib.Omega.{arith}
use lib.Dec.{ltb}
use lib.ListN.{length, get_or, take, drop, replicate, length-append, length-drop, length-replicate, take-append-drop}
use lib.Seq.{drop-drop, take-add, length-take-le, drop-append-le, take-append-le, drop-append-add, take-length, drop_at, drop-cons}
use borrow.Author.Tests.{ltb-true, ltb-false, le-ltb}
use borrow.Rule.Slice.PartMut.{put_mid}
use Rattle.std.specs.List.{sum_by}
use Rattle.std.proofs.lemmas.List.Sums.{sum_by-cons}
use Rattle.modes_spec.specs.declared.Direction.{Direction}
use Rattle.subsample_spec.specs.declared.Entry.{Entry}
use Rattle.subsample_spec.specs.Auxiliary.{entry}
use Rattle.scheme.specs.declared.Pattern.{Pattern}
use Rattle.scheme.specs.declared.Scheme.{Scheme}
use Rattle.scheme.specs.declared.Scheme.TheVariants.{Cenc, Cbc1, Cens, Cbcs}
use Rattle.scheme.specs.Layout.{total, in_whole_block, is_ciphered, restarts, range_marks, marks, mask, restart_mask, count}
use Rattle.modes_spec.specs.Modes.{Cipher}
use Rattle.scheme.proofs.Agreement.{length_range}
use Rattle.scheme.proofs.Pieces.{cond_law, held_after}
use Rattle.scheme.specs.Held.{Place, place, in_place, in_block, held_at}
use Rattle.scheme.proofs.Positions.{place_law, held_at_is}
use Rattle.scheme.specs.declared.Mode.TheVariants.{Chain}
use Rattle.scheme.specs.Machine.{mode_of, feed_sample}
use Rattle.scheme.proofs.Passes.{passes_none, passes_join, count_part}
use Rattle.scheme.specs.Walk.{Passes, Free, entry_marks, EntryAsks, EntrySays, SampleAsks, SampleSays}
use Rattle.octets.proofs.Fill.{Filled, fill_none, fill_length, fill_all, fill_drop, fill_part}
use Rattle.scheme.proofs.Runs.{apart}

-- ---- where nothing is held

module _ (pattern : Pattern) where
  abbrev Held : Scheme → Place → ℕ
  Held s p = in_block pattern s p

  held_chain : (s : Scheme) (es : List Entry) (x : ℕ) → mode_of s ≡ Chain → held_at pattern es s x ≡ Held s (place es x)
  unfolding held_at mode_of
  held_chain Cenc es x e = apart e
  held_chain Cbc1 es x e = refl
  held_chain Cens es x e = apart e
  held_chain Cbcs es x e = refl

  -- past the entry
  place-next : (a n : ℕ) (es : List Entry) (x : ℕ) → a + n ≤ x
      → place ((record { clear = a; protected = n }) ∷ es) x ≡ place es (x - (a + n))
  unfolding place
  place-next a n es x l =
      let e : x - a - n ≡ x - (a + n) = omega arith in
      rw (le-ltb x a (omega arith), le-ltb (x - a) n (omega arith), e)

  -- nothing is held at the entry's start
  held_start : (s : Scheme) (es : List Entry) → Held s (place es 0) ≡ 0
  unfolding in_block in_place place
  held_start s [] = refl
  held_start s (e ∷ es) =
      place_law (λ (p : Place). Held s p ≡ 0) e es 0 (λ u. refl)
      (λ u v.
      let z : 0 - e.clear ≡ 0 = omega arith in
      rw z (cond_law (λ (y : ℕ). y ≡ 0) (is_ciphered s pattern e.protected 0) (λ q. refl) (λ q. refl)))
      (λ u v. let z : 0 - e.clear - e.protected ≡ 0 = omega arith in rw z (held_start s es))

  -- within the entry
  held_free : (s : Scheme) (a n : ℕ) (es : List Entry) (x : ℕ) → x < a + n
      → Held s (place ((record { clear = a; protected = n }) ∷ es) x) ≡ 0 → is_ciphered s pattern n (x - a) ≡ true
      → (x - a) % 16 ≡ 0
  unfolding in_block in_place
  held_free s a n es x l =
      place_law (λ (p : Place). Held s p ≡ 0 → is_ciphered s pattern n (x - a) ≡ true → (x - a) % 16 ≡ 0)
      (record { clear = a; protected = n }) es x (λ u h e. omega arith)
      (λ u v h e. rw e at h)
      (λ u v. absurd (omega arith))

  -- at the range's end
  free_end : (s : Scheme) (n : ℕ) → Free s pattern n n
  unfolding mode_of is_ciphered in_whole_block
  free_end Cenc n k e = apart k
  free_end Cbc1 n k e = absurd (let z : ◌≡◌ {A = ℕ} 0 1 = cc (le-ltb (n / 16) (n / 16) (omega arith)) in omega arith)
  free_end Cens n k e = apart k
  free_end Cbcs n k e =
      let f : false ≡ true = rw (le-ltb (n / 16) (n / 16) (omega arith)) at e in
      absurd (let z : ◌≡◌ {A = ℕ} 0 1 = cc in omega arith)

-- ---- the entries

pub entry_next : (es : List Entry) (k : ℕ) → k < length es → drop k es ≡ get_or es k (entry 0 0) ∷ drop (k + 1) es
entry_next es k l = rw add-one (drop-cons es k (entry 0 0) l)

-- how many bytes they call for, as a sum over them
pub total_by : (es : List Entry) → sum_by (λ e. e.clear + e.protected) es ≡ total es
unfolding total
total_by [] = refl
total_by (e ∷ es) = omega (arith, sum_by-cons (λ (e : Entry). e.clear + e.protected) e es, total_by es)

-- ---- the walk

module _ (s : Scheme) (pattern : Pattern) (es : List Entry) where
  -- where the part's rest begins: at offset o of entry k, of m bytes
  pub record Rest (x m k o : ℕ) : Type 0 where
    pub marked : (f : ℕ → ℕ → Bool) → drop x (marks f es) ≡ drop o (marks f (drop k es))
    pub room : o + m ≤ total (drop k es)
    pub from : mode_of s ≡ Chain → Held pattern s (place (drop k es) o) ≡ 0
    pub to : mode_of s ≡ Chain → Held pattern s (place (drop k es) (o + m)) ≡ 0

module _ (E D : Cipher) (d : Direction) (s : Scheme) (pattern : Pattern) (iv : List ℕ) (es : List Entry) (x u : ℕ)
    (c xs : List ℕ) where
  pub record Walked (ys b : List ℕ) (v i k o : ℕ) : Type 0 where
    pub done : List ℕ
    pub filled : Filled xs ys done i
    pub passes : Passes E D d (mode_of s) iv (take i (drop x (mask s pattern es))) (take i (drop x (restart_mask s es))) u c
        (take i xs) v b done
    pub used : v < 16
    pub unused : mode_of s ≡ Chain → v ≡ 0
    pub rest : i < length xs → Rest s pattern es (x + i) (length xs - i) k o

  -- the walk is over where no entry is left
  pub walk_over : {ys b : List ℕ} {v i k o : ℕ} → Walked ys b v i k o → drop k es ≡ [] → length xs ≤ i
  unfolding total
  walk_over {i = i} w e = go (ltb i (length xs)) refl
    where
      go : (q : Bool) → ltb i (length xs) ≡ q → length xs ≤ i
      go true q = absurd (let l = ltb-true i (length xs) q in omega (arith, l, rw e at (w.rest l).room))
      go false q = ltb-false i (length xs) q

  module _ (a : SampleAsks s pattern es x (length xs) u) where
    below : u < 16
    below = omega (arith, a.rank)

    none_used : mode_of s ≡ Chain → u ≡ 0
    unfolding held_after
    none_used k = sym a.rank ∙ (rw k at (held_at_is pattern es s x)) ∙ a.from

    first : Rest s pattern es (x + 0) (length xs - 0) 0 x
    first =
        let m : length xs - 0 ≡ length xs = omega arith in
        rw (add-zero, m)
        (record {
          marked = λ f. refl;
          room = a.within;
          from = λ k. sym (held_chain pattern s es x k) ∙ a.from;
          to = λ k. sym (held_chain pattern s es (x + length xs) k) ∙ a.to;
        })

    pub walk_start : Walked xs c u 0 0 x
    walk_start =
        record {
          done = [];
          filled = fill_none xs [] refl;
          passes = passes_none E D d (mode_of s) iv u c below;
          used = below;
          unused = none_used;
          rest = λ l. first;
        }

    pub walk_end : {ys b : List ℕ} {v i k o : ℕ} → Walked ys b v i k o → length xs ≤ i
        → SampleSays E D d s pattern iv es x c xs v b ys
    unfolding feed_sample
    walk_end {ys} {b} {v} {i} w l =
        let e : i ≡ length xs = omega (arith, w.filled.fits) in
        let M : List Bool = mask s pattern es in
        let F : List Bool = restart_mask s es in
        let t : Passes E D d (mode_of s) iv (take (length xs) (drop x M)) (take (length xs) (drop x F)) u c xs v b ys =
        rw (fill_all w.filled l) (rw (e, take-length xs) at w.passes) in
        let p : drop x M ≡ take (length xs) (drop x M) ++ drop (length xs) (drop x M) =
        sym (take-append-drop (length xs) (drop x M)) in
        let q : drop x F ≡ take (length xs) (drop x F) ++ drop (length xs) (drop x F) =
        sym (take-append-drop (length xs) (drop x F)) in
        record {
          fed = t.fed M F x _ _ p q a.rank;
          rank = rw (count_part M x (length xs) (take (length xs) (drop x M)) (drop (length xs) (drop x M)) t.marked p)
              (let h = t.rank in let g = a.rank in omega arith);
        }

    module _ {ys b : List ℕ} {v i k o : ℕ} (w : Walked ys b v i k o) (l : i < length xs) (p n : ℕ)
        (here : drop k es ≡ (record { clear = p; protected = n }) ∷ drop (k + 1) es) where
      abbrev next : List Entry
      next = drop (k + 1) es

      size : length ys ≡ length xs
      size = fill_length w.filled

      r : Rest s pattern es (x + i) (length xs - i) k o
      r = w.rest l

      entry_length_lem : (f : ℕ → ℕ → Bool) → length (entry_marks f p n) ≡ p + n
      unfolding entry_marks
      entry_length_lem f = simp (length-append, length-replicate, length_range)

      marked : (f : ℕ → ℕ → Bool) → drop (x + i) (marks f es) ≡ drop o (entry_marks f p n ++ marks f next)
      unfolding marks entry_marks
      marked f = r.marked f ∙ rw (here, append_assoc (replicate p false) (range_marks f n) (marks f next))

      room : o + (length xs - i) ≤ p + (n + total next)
      unfolding total
      room = rw here at r.room

      from : mode_of s ≡ Chain → Held pattern s (place ((record { clear = p; protected = n }) ∷ next) o) ≡ 0
      from h = rw here at (r.from h)

      to : mode_of s ≡ Chain → Held pattern s (place ((record { clear = p; protected = n }) ∷ next) (o + (length xs - i))) ≡ 0
      to h = rw here at (r.to h)

      -- the entry ends before the part's rest begins
      pub walk_skipped : p + n ≤ o → Walked ys b v i (k + 1) (o - (p + n))
      walk_skipped g =
          let j : o + (length xs - i) - (p + n) ≡ o - (p + n) + (length xs - i) = omega arith in
          record {
            done = w.done;
            filled = w.filled;
            passes = w.passes;
            used = w.used;
            unused = w.unused;
            rest = λ l. record {
              marked = λ f.
                  let y : o ≡ length (entry_marks f p n) + (o - (p + n)) = rw entry_length_lem (omega arith) in
                  marked f ∙ ap (λ (z : ℕ). drop z (entry_marks f p n ++ marks f next)) y
                  ∙ drop-append-add (entry_marks f p n) (marks f next) (o - (p + n));
              room = omega (arith, room);
              from = λ h. rw place-next at (from h);
              to = λ h. rw (place-next pattern p n next (o + (length xs - i)) (omega arith), j) at (to h);
            };
          }

      module _ (inside : o < p + n) (m : ℕ) (em : m ≡ min (p + n - o) (length ys - i)) where
        abbrev sub : List ℕ
        sub = take (i + m - i) (drop i ys)

        width : i + m - i ≡ m
        width = omega arith

        sub_is : sub ≡ take m (drop i xs)
        sub_is = rw (width, fill_drop w.filled)

        sub-length : length sub ≡ m
        sub-length = ap length sub_is ∙ length-take-le m (drop i xs) (simp length-drop (omega (arith, size)))

        stop_free : Free s pattern n (o + m - p)
        stop_free h = go (ltb (o + m) (p + n)) refl
          where
            go : (q : Bool) → ltb (o + m) (p + n) ≡ q → is_ciphered s pattern n (o + m - p) ≡ true → (o + m - p) % 16 ≡ 0
            go true q =
                let t : o + m < p + n = ltb-true (o + m) (p + n) q in
                let y : o + (length xs - i) ≡ o + m = omega (arith, size) in
                held_free pattern s p n next (o + m) t (rw y at (to h))
            go false q = let y : o + m - p ≡ n = omega (arith, ltb-false (o + m) (p + n) q) in rw y (free_end pattern s n h)

        pub walk_asks : n < 2 ^ 32 → EntryAsks s pattern p n o (length sub) v
        walk_asks small =
            rw sub-length
            (record {
              small = small;
              within = omega arith;
              used = w.used;
              unused = w.unused;
              from = λ h. held_free pattern s p n next o inside (from h);
              to = stop_free;
            })

        part_marks : (f : ℕ → ℕ → Bool) → take m (drop (x + i) (marks f es)) ≡ take m (drop o (entry_marks f p n))
        part_marks f =
            rw (marked f, drop-append-le o (entry_marks f p n) (marks f next) (rw entry_length_lem (omega arith)))
            (take-append-le m (drop o (entry_marks f p n)) (marks f next) (simp (length-drop, entry_length_lem) (omega arith)))

        all_marks : (f : ℕ → ℕ → Bool)
            → take (i + m) (drop x (marks f es)) ≡ take i (drop x (marks f es)) ++ take m (drop o (entry_marks f p n))
        all_marks f = rw (take-add i m (drop x (marks f es)), drop-drop i x (marks f es), part_marks f)

        -- what is left lies in the entries that follow
        walk_rest : i + m < length xs → Rest s pattern es (x + (i + m)) (length xs - (i + m)) (k + 1) 0
        walk_rest t =
            let y : o + m ≡ p + n = omega (arith, size) in
            let z : x + (i + m) ≡ x + i + m = omega arith in
            let j : o + (length xs - i) - (p + n) ≡ 0 + (length xs - (i + m)) = omega arith in
            record {
              marked = λ f. rw (
                z,
                ← (drop-drop m (x + i) (marks f es)),
                marked f,
                drop-drop m o (entry_marks f p n ++ marks f next),
                y,
              )
                  (drop_at (entry_marks f p n) (marks f next) (p + n) (entry_length_lem f));
              room = omega (arith, room);
              from = λ h. held_start pattern s next;
              to = λ h. rw (place-next pattern p n next (o + (length xs - i)) (omega arith), j) at (to h);
            }

        pub walk_turned : (v' : ℕ) (b' z : List ℕ) → length z ≡ length sub → EntrySays E D d s pattern iv p n o v b sub v' b' z
            → Walked (put_mid i (i + m - i) ys z) b' v' (i + m) (k + 1) 0
        unfolding mask restart_mask
        walk_turned v' b' z nz says =
            let t : Passes E D d (mode_of s) iv (take m (drop o (entry_marks (is_ciphered s pattern) p n)))
            (take m (drop o (entry_marks (restarts s) p n))) v b (take m (drop i xs)) v' b' z =
            rw sub_is at (rw sub-length at says.passes) in
            record {
              done = w.done ++ z;
              filled = fill_part w.filled (i + m) (omega arith) (omega (arith, size)) z (w.done ++ z)
                  (nz ∙ sub-length ∙ sym width) refl;
              passes = rw (all_marks (is_ciphered s pattern), all_marks (restarts s), take-add i m xs)
                  (passes_join w.passes t);
              used = says.used;
              unused = says.unused;
              rest = walk_rest;
            }

-- ---- a whole sample

module _ (pattern : Pattern) where
  held_end : (s : Scheme) (es : List Entry) → Held pattern s (place es (total es)) ≡ 0
  unfolding in_block in_place place total
  held_end s [] = refl
  held_end s (e ∷ es) =
      let j : e.clear + (e.protected + total es) - (e.clear + e.protected) ≡ total es = omega arith in
      rw (place-next pattern e.clear e.protected es (e.clear + (e.protected + total es)) (omega arith), j)
      (held_end s es)

  held_no : (s : Scheme) (es : List Entry) (x : ℕ) → Held pattern s (place es x) ≡ 0 → held_at pattern es s x ≡ 0
  unfolding held_at
  held_no Cenc es x h = refl
  held_no Cbc1 es x h = h
  held_no Cens es x h = refl
  held_no Cbcs es x h = h

  pub whole_asks : (s : Scheme) (es : List Entry) (m : ℕ) → m ≡ total es → SampleAsks s pattern es 0 m 0
  unfolding count
  whole_asks s es m l =
      let z : 0 + m ≡ total es = omega arith in
      record {
        within = omega arith;
        from = held_no s es 0 (held_start pattern s es);
        to = rw z (held_no s es (total es) (held_end s es));
        rank = refl;
      }
