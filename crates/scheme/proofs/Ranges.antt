-- A part of a protected range, one run a turn.
use mathlib.Core.Path.{◌≡◌, refl, sym, ap, ◌∙◌}
use mathlib.Core.Bool.{Bool, true, false}
use mathlib.Core.List.{List, [], ◌++◌}
use Prim.Native.Nat.{ℕ, ◌+◌, ◌-◌, ◌/◌, ◌%◌, ◌≤◌, ◌<◌, min}
use native.Mathlib.Nat.{add-zero}
use native.Mathlib.Omega.{arith}
use lib.Dec.{ltb}
use lib.ListN.{length, take, drop, replicate, length-drop, length-replicate, get_or-replicate}
use lib.Seq.{take-length, ext_get_or, get_or-take, get_or-drop, drop-drop, take-add, length-take-le}
use borrow.Author.Tests.{ne_eqb, ltb-true, ltb-false}
use borrow.Rule.Slice.PartMut.{put_mid}
use Rattle.modes_spec.specs.declared.Direction.{Direction}
use Rattle.scheme.specs.declared.Pattern.{Pattern}
use Rattle.scheme.specs.declared.Scheme.{Scheme}
use Rattle.scheme.specs.declared.Scheme.TheVariants.{Cenc, Cbc1, Cens, Cbcs}
use Rattle.scheme.specs.Layout.{is_ciphered, restarts, range_marks}
use Rattle.modes_spec.specs.Modes.{Cipher}
use Rattle.scheme.proofs.Agreement.{length_range}
use Rattle.scheme.proofs.Positions.{get_d_range}
use Rattle.scheme.specs.declared.Mode.{Mode}
use Rattle.scheme.specs.declared.Mode.TheVariants.{Counter, Chain}
use Rattle.scheme.specs.Machine.{mode_of}
use Rattle.scheme.proofs.Passes.{passes_none, passes_join, passes_clear}
use Rattle.scheme.specs.Walk.{Passes, RestartsAt, Blocks, Free, RunAt, RangeAsks, RangeSays}
use Rattle.octets.proofs.Fill.{Filled, fill_none, fill_length, fill_all, fill_drop, fill_part, fill_keep}

-- ---- the marks that a run meets

module _ (f : ℕ → ℕ → Bool) (n o m : ℕ) (within : o + m ≤ n) where
  marks-length : length (take m (drop o (range_marks f n))) ≡ m
  marks-length = length-take-le m (drop o (range_marks f n)) (simp (length-drop, length_range) (omega arith))

  pub run_marks : (b : Bool) → ((x : ℕ) → o ≤ x → x < o + m → f n x ≡ b) → take m (drop o (range_marks f n)) ≡ replicate m b
  run_marks b h =
      ext_get_or false (take m (drop o (range_marks f n))) (replicate m b) (marks-length ∙ sym (length-replicate m b))
      (λ i l.
      let k : i < m = omega (arith, marks-length) in
      rw (
        get_or-take m (drop o (range_marks f n)) i false k,
        get_or-drop o (range_marks f n) i false,
        get_d_range f n (o + i) (omega arith),
        get_or-replicate m i b false k,
      )
      (h (o + i) (omega arith) (omega arith)))

starts_same : (s : Scheme) (n o x : ℕ) → o % 16 ≡ 0 → o ≤ x → x < o + 16 → restarts s n x ≡ restarts s n o
unfolding restarts
starts_same Cenc n o x h a b = refl
starts_same Cbc1 n o x h a b = refl
starts_same Cens n o x h a b = refl
starts_same Cbcs n o x h a b = let e : x / 16 ≡ o / 16 = omega arith in rw e

starts_later : (s : Scheme) (n x : ℕ) → 16 ≤ x → restarts s n x ≡ false
unfolding restarts
starts_later Cenc n x h = refl
starts_later Cbc1 n x h = refl
starts_later Cens n x h = refl
starts_later Cbcs n x h = ne_eqb (x / 16) 0 (omega arith)

module _ (s : Scheme) (n o m : ℕ) (within : o + m ≤ n) where
  anew_marks : o % 16 ≡ 0 → 16 ≤ m
      → take m (drop o (range_marks (restarts s) n)) ≡ replicate 16 (restarts s n o) ++ replicate (m - 16) false
  anew_marks h l =
      let e : m ≡ 16 + (m - 16) = omega arith in
      ap (λ (k : ℕ). take k (drop o (range_marks (restarts s) n))) e
      ∙ rw (
        take-add 16 (m - 16) (drop o (range_marks (restarts s) n)),
        drop-drop 16 o (range_marks (restarts s) n),
        run_marks (restarts s) n o 16 (omega arith) (restarts s n o) (λ x a b. starts_same s n o x h a b),
        run_marks (restarts s) n (o + 16) (m - 16) (omega arith) false (λ x a b. starts_later s n x (omega arith)),
      )

  fresh_at : (k : Mode) → (k ≡ Chain → (o % 16 ≡ 0) × (16 ≤ m))
      → RestartsAt k (restarts s n o) (take m (drop o (range_marks (restarts s) n))) m
  unfolding RestartsAt
  fresh_at Counter h = marks-length (restarts s) n o m within
  fresh_at Chain h = anew_marks (h refl).0 (h refl).1

-- ---- the walk

module _ (E D : Cipher) (d : Direction) (s : Scheme) (pattern : Pattern) (iv : List ℕ) (n o u : ℕ) (c xs : List ℕ) where
  -- i bytes of the part are done
  pub record Ranged (ys b : List ℕ) (v i : ℕ) : Type 0 where
    pub done : List ℕ
    pub filled : Filled xs ys done i
    pub passes : Passes E D d (mode_of s) iv (take i (drop o (range_marks (is_ciphered s pattern) n)))
        (take i (drop o (range_marks (restarts s) n))) u c (take i xs) v b done
    pub used : v < 16
    pub unused : mode_of s ≡ Chain → v ≡ 0
    pub free : Free s pattern n (o + i)

  module _ (a : RangeAsks s pattern n o (length xs) u) where
    pub range_start : Ranged xs c u 0
    range_start =
        record {
          done = [];
          filled = fill_none xs [] refl;
          passes = passes_none E D d (mode_of s) iv u c
              a.used;
          used = a.used;
          unused = a.unused;
          free = rw add-zero a.from;
        }

    module _ {ys b : List ℕ} {v i : ℕ} (r : Ranged ys b v i) (l : i < length xs) {t : Bool} {e : ℕ}
        (run : RunAt s pattern n (o + i) t e) (m : ℕ) (em : m ≡ min (e - (o + i)) (length ys - i)) where
      size : length ys ≡ length xs
      size = fill_length r.filled

      within : o + i + m ≤ n
      within = omega (arith, size, a.within)

      marks : take m (drop (o + i) (range_marks (is_ciphered s pattern) n)) ≡ replicate m t
      marks = run_marks (is_ciphered s pattern) n (o + i) m within t (λ x h k. run.same x h (omega arith))

      free-next : Free s pattern n (o + (i + m))
      free-next k = go (ltb (o + (i + m)) e) refl
        where
          go : (q : Bool) → ltb (o + (i + m)) e ≡ q → is_ciphered s pattern n (o + (i + m)) ≡ true → (o + (i + m)) % 16 ≡ 0
          go true p = let j : o + (i + m) ≡ o + length xs = omega (arith, size, ltb-true (o + (i + m)) e p) in rw j (a.to k)
          go false p = let j : o + (i + m) ≡ e = omega (arith, run.past, ltb-false (o + (i + m)) e p) in rw j (run.freed k)

      -- what a run of a chain scheme has to be
      pub range_blocks : t ≡ true → mode_of s ≡ Chain → Blocks v m
      range_blocks et k =
          let start : (o + i) % 16 ≡ 0 = r.free k (run.same (o + i) (omega arith) run.past ∙ et) in
          let stop : (o + (i + m)) % 16 ≡ 0 = go (ltb (o + (i + m)) e) refl in
          record { unused = r.unused k; whole = omega arith; some = omega (arith, run.past, size) }
        where
          go : (q : Bool) → ltb (o + (i + m)) e ≡ q → (o + (i + m)) % 16 ≡ 0
          go true p = free-next k (run.same (o + (i + m)) (omega arith) (ltb-true (o + (i + m)) e p) ∙ et)
          go false p = let j : o + (i + m) ≡ e = omega (arith, run.past, ltb-false (o + (i + m)) e p) in rw j (run.aligned k et)

      abbrev w : List ℕ
      w = take m (drop i xs)

      size_w : length w ≡ m
      size_w = length-take-le m (drop i xs) (simp length-drop (omega (arith, size)))

      pub range_sub : length (take (i + m - i) (drop i ys)) ≡ m
      range_sub = let j : i + m - i ≡ m = omega arith in rw (j, fill_drop r.filled) size_w

      pub range_asked : t ≡ true → mode_of s ≡ Chain → Blocks v (length (take (i + m - i) (drop i ys)))
      range_asked et k = rw range_sub (range_blocks et k)

      join_turns : (v' : ℕ) (b' z : List ℕ)
          → Passes E D d (mode_of s) iv (replicate m t) (take m (drop (o + i) (range_marks (restarts s) n))) v b w v' b' z
          → Passes E D d (mode_of s) iv (take (i + m) (drop o (range_marks (is_ciphered s pattern) n)))
          (take (i + m) (drop o (range_marks (restarts s) n))) u c (take (i + m) xs) v' b' (r.done ++ z)
      join_turns v' b' z j =
          rw (
            take-add i m (drop o (range_marks (is_ciphered s pattern) n)),
            drop-drop i o (range_marks (is_ciphered s pattern) n),
            marks,
            take-add i m (drop o (range_marks (restarts s) n)),
            drop-drop i o (range_marks (restarts s) n),
            take-add i m xs,
          )
          (passes_join r.passes j)

      pub range_kept : t ≡ false → Ranged ys b v (i + m)
      range_kept et =
          record {
            done = r.done ++ w;
            filled = fill_keep r.filled m (omega (arith, size));
            passes = join_turns v b w
                (rw et (rw size_w at (passes_clear E D d (mode_of s) iv (take m (drop (o + i) (range_marks (restarts s) n))) v b w
                r.used (marks-length (restarts s) n (o + i) m within ∙ sym size_w))));
            used = r.used;
            unused = r.unused;
            free = free-next;
          }

      pub range_turned : t ≡ true → (z b' : List ℕ) → length z ≡ length (take (i + m - i) (drop i ys))
          → ((fs : List Bool) → RestartsAt (mode_of s) (restarts s n (o + i)) fs (length (take (i + m - i) (drop i ys)))
          → Passes E D d (mode_of s) iv (replicate (length (take (i + m - i) (drop i ys))) true) fs v b
          (take (i + m - i) (drop i ys)) ((v + length (take (i + m - i) (drop i ys))) % 16) b' z)
          → Ranged (put_mid i (i + m - i) ys z) b' ((v + (i + m - i)) % 16) (i + m)
      range_turned et z b' nz turned =
          let j : i + m - i ≡ m = omega arith in
          let sub : take (i + m - i) (drop i ys) ≡ w = rw (j, fill_drop r.filled) in
          let k : length z ≡ m = nz ∙ ap length sub ∙ size_w in
          let chain : mode_of s ≡ Chain → ((o + i) % 16 ≡ 0) × (16 ≤ m) =
          λ h. (r.free h (run.same (o + i) (omega arith) run.past ∙ et), (range_blocks et h).some) in
          let fs : List Bool = take m (drop (o + i) (range_marks (restarts s) n)) in
          let given : Passes E D d (mode_of s) iv (replicate m t) fs v b w ((v + m) % 16) b' z =
          rw et ((rw (sub, size_w) at (turned fs)) (fresh_at s n (o + i) m within (mode_of s) chain)) in
          record {
            done = r.done ++ z;
            filled = fill_part r.filled (i + m) (omega arith) (omega (arith, size)) z (r.done ++ z) (k ∙ sym j) refl;
            passes = rw j (join_turns ((v + m) % 16) b' z given);
            used = omega arith;
            unused = λ h. rw j (let q : Blocks v m = range_blocks et h in omega (arith, q.unused, q.whole));
            free = free-next;
          }

    pub range_end : {ys b : List ℕ} {v i : ℕ} → Ranged ys b v i → length xs ≤ i
        → RangeSays E D d s pattern iv n o u c xs v b ys
    range_end {i = i} r l =
        let e : i ≡ length xs = omega (arith, r.filled.fits) in
        record { passes = rw (fill_all r.filled l) (rw (e, take-length xs) at r.passes); unused = r.unused }
