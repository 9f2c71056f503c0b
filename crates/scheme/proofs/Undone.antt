-- A whole sample: opening gives back what was locked and locking what was opened, and a byte that is not marked stays.
use mathlib.Core.Bool.{Bool, true, false, true≢false}
use mathlib.Core.List.{List, [], ◌∷◌, ◌++◌, append-nil}
use mathlib.Core.Logic.{◌⊎◌, inl, inr, ⊎_elim}
use mathlib.Core.Path.{◌≡◌, refl, sym, ap, ap₂, ◌∙◌, fun_ext}
use Prim.Native.Nat.{ℕ, zero, suc, ◌+◌, ◌-◌, ◌≤◌, ◌<◌}
use native.Mathlib.Omega.{arith}
use lib.Dec.{ltb}
use lib.ListN.{length, get_or, take, drop, replicate, length-append, length-replicate, length-drop, take-append-drop, drop_of_length-le, get_or-append}
use lib.Seq.{drop-drop, take_all, take_at, drop_at, length-take-le, get_or-take, get_or-drop, get_or-append-add}
use borrow.Author.Tests.{ltb-true, ltb-false}
use Rattle.octets.specs.Bytes.{Bytes}
use Rattle.modes_spec.specs.declared.Direction.{Direction}
use Rattle.modes_spec.specs.Modes.{Cipher, ctr, cbc}
use Rattle.modes_spec.proofs.Streamed.{shorter}
use Rattle.octets.proofs.OfBytes.{bytes_take, bytes_drop, bytes_append}
use Rattle.modes_spec.specs.Undone.{back, Inverse, Undoes}
use Rattle.modes_spec.proofs.Undone.{same_undone, ctr_undone, cbc_undone}
use Rattle.subsample_spec.specs.declared.Entry.{Entry}
use Rattle.scheme.specs.declared.Pattern.{Pattern}
use Rattle.scheme.specs.declared.Scheme.{Scheme}
use Rattle.scheme.specs.declared.Scheme.TheVariants.{Cenc, Cbc1, Cens, Cbcs}
use Rattle.scheme.specs.Layout.{is_ciphered, range_marks, marks, mask, chosen, replaced}
use Rattle.scheme.specs.WholeSample.{over, over_each, whole}
use Rattle.scheme.proofs.Agreement.{length_range}

-- ---- Marked bytes.

pub length-replaced : (m : List Bool) (ys xs : List ℕ) → length (replaced m ys xs) ≡ length xs
unfolding replaced
length-replaced [] ys xs = refl
length-replaced (m ∷ ms) ys [] = refl
length-replaced (true ∷ ms) [] (x ∷ xs) = refl
length-replaced (true ∷ ms) (y ∷ ys) (x ∷ xs) = ap suc (length-replaced ms ys xs)
length-replaced (false ∷ ms) ys (x ∷ xs) = ap suc (length-replaced ms ys xs)

-- what was filled in is chosen again
pub chosen-replaced : (m : List Bool) (ys xs : List ℕ) → length ys ≡ length (chosen m xs) → chosen m (replaced m ys xs) ≡ ys
unfolding chosen replaced
chosen-replaced [] [] xs e = refl
chosen-replaced [] (y ∷ ys) xs e = absurd (omega arith)
chosen-replaced (m ∷ ms) [] [] e = refl
chosen-replaced (m ∷ ms) (y ∷ ys) [] e = absurd (omega arith)
chosen-replaced (true ∷ ms) [] (x ∷ xs) e = absurd (omega arith)
chosen-replaced (true ∷ ms) (y ∷ ys) (x ∷ xs) e = ap (λ (l : List ℕ). y ∷ l) (chosen-replaced ms ys xs (omega arith))
chosen-replaced (false ∷ ms) ys (x ∷ xs) e = chosen-replaced ms ys xs e

-- and the bytes chosen before, filled in again, give the string back
pub replaced-chosen : (m : List Bool) (ys xs : List ℕ) → length ys ≡ length (chosen m xs)
    → replaced m (chosen m xs) (replaced m ys xs) ≡ xs
unfolding chosen replaced
replaced-chosen [] ys xs e = refl
replaced-chosen (m ∷ ms) ys [] e = refl
replaced-chosen (true ∷ ms) [] (x ∷ xs) e = absurd (omega arith)
replaced-chosen (true ∷ ms) (y ∷ ys) (x ∷ xs) e = ap (λ (l : List ℕ). x ∷ l) (replaced-chosen ms ys xs (omega arith))
replaced-chosen (false ∷ ms) ys (x ∷ xs) e = ap (λ (l : List ℕ). x ∷ l) (replaced-chosen ms ys xs e)

chosen_below : (m : List Bool) (xs : List ℕ) → ((i : ℕ) → get_or xs i 0 < 256) → (i : ℕ) → get_or (chosen m xs) i 0 < 256
unfolding chosen
chosen_below [] xs h i = omega arith
chosen_below (m ∷ ms) [] h i = omega arith
chosen_below (true ∷ ms) (x ∷ xs) h zero = h 0
chosen_below (true ∷ ms) (x ∷ xs) h (suc i) = chosen_below ms xs (λ j. h (suc j)) i
chosen_below (false ∷ ms) (x ∷ xs) h i = chosen_below ms xs (λ j. h (suc j)) i

replaced_below : (m : List Bool) (ys xs : List ℕ) → ((i : ℕ) → get_or ys i 0 < 256) → ((i : ℕ) → get_or xs i 0 < 256)
    → (i : ℕ) → get_or (replaced m ys xs) i 0 < 256
unfolding replaced
replaced_below [] ys xs k h i = h i
replaced_below (m ∷ ms) ys [] k h i = omega arith
replaced_below (true ∷ ms) [] (x ∷ xs) k h i = h i
replaced_below (true ∷ ms) (y ∷ ys) (x ∷ xs) k h zero = k 0
replaced_below (true ∷ ms) (y ∷ ys) (x ∷ xs) k h (suc i) = replaced_below ms ys xs (λ j. k (suc j)) (λ j. h (suc j)) i
replaced_below (false ∷ ms) ys (x ∷ xs) k h zero = h 0
replaced_below (false ∷ ms) ys (x ∷ xs) k h (suc i) = replaced_below ms ys xs k (λ j. h (suc j)) i

-- what is undone is undone over marked bytes
pub over_undone : {g f : List ℕ → List ℕ} → Undoes g f → (m : List Bool) → Undoes (over g m) (over f m)
unfolding over
over_undone {g} {f} u m =
    record {
      keeps = λ {xs = xs} b. record {
        size = length-replaced m (f (chosen m xs)) xs ∙ b.size;
        small = replaced_below m (f (chosen m xs)) xs (u.keeps (some xs b)).small b.small;
      };
      undone = λ {xs = xs} b.
          let e : length (f (chosen m xs)) ≡ length (chosen m xs) = (u.keeps (some xs b)).size in
          rw (chosen-replaced m (f (chosen m xs)) xs e, u.undone (some xs b)) (replaced-chosen m (f (chosen m xs)) xs e);
    }
  where
    some : {n : ℕ} (xs : List ℕ) → Bytes n xs → Bytes (length (chosen m xs)) (chosen m xs)
    some xs b = record { size = refl; small = chosen_below m xs b.small }

-- f changes no length, and no byte that m does not mark.
pub record Leaves (m : List Bool) (f : List ℕ → List ℕ) : Type 0 where
  pub size : (xs : List ℕ) → length (f xs) ≡ length xs
  pub stay : (xs : List ℕ) (i : ℕ) → get_or m i false ≡ false → get_or (f xs) i 0 ≡ get_or xs i 0

same-leaves : {m : List Bool} → Leaves m (λ xs. xs)
same-leaves = record { size = λ xs. refl; stay = λ xs i h. refl }

replaced_stay : (m : List Bool) (ys xs : List ℕ) (i : ℕ) → get_or m i false ≡ false → get_or (replaced m ys xs) i 0 ≡ get_or xs i 0
unfolding replaced
replaced_stay [] ys xs i h = refl
replaced_stay (m ∷ ms) ys [] i h = refl
replaced_stay (true ∷ ms) [] (x ∷ xs) i h = refl
replaced_stay (true ∷ ms) (y ∷ ys) (x ∷ xs) zero h = absurd (true≢false h)
replaced_stay (true ∷ ms) (y ∷ ys) (x ∷ xs) (suc i) h = replaced_stay ms ys xs i h
replaced_stay (false ∷ ms) ys (x ∷ xs) zero h = refl
replaced_stay (false ∷ ms) ys (x ∷ xs) (suc i) h = replaced_stay ms ys xs i h

over-leaves : (f : List ℕ → List ℕ) (m : List Bool) → Leaves m (over f m)
unfolding over
over-leaves f m =
    record {
      size = λ xs. length-replaced m (f (chosen m xs)) xs;
      stay = λ xs. replaced_stay m (f (chosen m xs)) xs;
    }

-- ---- A string in two parts: f over the first n bytes, g over the rest.

unfoldable parts : ℕ → (List ℕ → List ℕ) → (List ℕ → List ℕ) → List ℕ → List ℕ
parts n f g xs = f (take n xs) ++ g (drop n xs)

side : (i n : ℕ) → (i < n) ⊎ (n ≤ i)
side i n = go (ltb i n) refl
  where
    go : (t : Bool) → ltb i n ≡ t → (i < n) ⊎ (n ≤ i)
    go true e = inl (ltb-true i n e)
    go false e = inr (ltb-false i n e)

-- two strings as long as the parts of xs are the parts of both together
parted : (n : ℕ) (xs u v : List ℕ) → length u ≡ length (take n xs) → length v ≡ length (drop n xs)
    → (take n (u ++ v) ≡ u) × (drop n (u ++ v) ≡ v)
parted n xs u v p q =
    ⊎_elim
    (λ l.
    let e : v ≡ [] = sym (take_all 0 v (omega (arith, length-drop n xs))) in
    let s : length u ≤ n = omega (arith, shorter n xs) in
    (rw (e, append-nil) (take_all n u s), rw (e, append-nil) (drop_of_length-le u s)))
    (λ l.
    let e : length u ≡ n = p ∙ length-take-le n xs l in
    (take_at u v n e, drop_at u v n e))
    (side (length xs) n)

both : (n : ℕ) (xs : List ℕ) → length (take n xs) + length (drop n xs) ≡ length xs
both n xs = sym (length-append (take n xs) (drop n xs)) ∙ ap length (take-append-drop n xs)

parts_undone : (n : ℕ) {g f k h : List ℕ → List ℕ} → Undoes g f → Undoes k h → Undoes (parts n g k) (parts n f h)
unfolding parts
parts_undone n {g} {f} {k} {h} p q =
    record {
      keeps = λ {xs = xs} b.
          bytes_append (p.keeps (bytes_take n xs b refl)) (q.keeps (bytes_drop n xs b refl)) (both n xs ∙ b.size);
      undone = λ {xs = xs} b.
          let s = bytes_take n xs b refl in
          let t = bytes_drop n xs b refl in
          let r = parted n xs (f (take n xs)) (h (drop n xs)) (p.keeps s).size (q.keeps t).size in
          rw (r.0, r.1, p.undone s, q.undone t) (take-append-drop n xs);
    }

parts_leave : (n : ℕ) (m : List Bool) {k : List Bool} {f g : List ℕ → List ℕ} → length m ≡ n → Leaves m f → Leaves k g
    → Leaves (m ++ k) (parts n f g)
unfolding parts
parts_leave n m {k} {f} {g} w p q =
    record {
      size = λ xs.
          length-append (f (take n xs)) (g (drop n xs)) ∙ ap₂ ◌+◌ (p.size (take n xs)) (q.size (drop n xs)) ∙ both n xs;
      stay = λ xs i h.
          let ys = f (take n xs) ++ g (drop n xs) in
          let r = parted n xs (f (take n xs)) (g (drop n xs)) (p.size (take n xs)) (q.size (drop n xs)) in
          ⊎_elim
          (λ l.
          let a : get_or m i false ≡ false = sym (get_or-append m k false i (omega arith)) ∙ h in
          sym (get_or-take n ys i 0 l) ∙ ap (λ (z : List ℕ). get_or z i 0) r.0 ∙ p.stay (take n xs) i a ∙ get_or-take n xs i 0 l)
          (λ l.
          let e : n + (i - n) ≡ i = omega arith in
          let a : get_or k (i - n) false ≡ false = sym (get_or-append-add m k (i - n) false) ∙ rw (w, e) h in
          let b : get_or ys (n + (i - n)) 0 ≡ get_or xs (n + (i - n)) 0 =
          sym (get_or-drop n ys (i - n) 0) ∙ ap (λ (z : List ℕ). get_or z (i - n) 0) r.1 ∙ q.stay (drop n xs) (i - n) a
          ∙ get_or-drop n xs (i - n) 0 in
          rw e at b)
          (side i n);
    }

-- ---- Each range by itself.

module _ (s : Scheme) (pattern : Pattern) where
  -- an entry's clear bytes, its range, the entries after it
  by_parts : (f : List ℕ → List ℕ) (e : Entry) (es : List Entry)
      → over_each f s pattern (e ∷ es)
      ≡ parts e.clear (λ xs. xs)
      (parts e.protected (over f (range_marks (is_ciphered s pattern) e.protected)) (over_each f s pattern es))
  unfolding over_each parts
  by_parts f e es = fun_ext (λ xs. rw (drop-drop e.protected e.clear xs))

  pub each_undone : {g f : List ℕ → List ℕ} → Undoes g f → (es : List Entry)
      → Undoes (over_each g s pattern es) (over_each f s pattern es)
  unfolding over_each
  each_undone u [] = same_undone
  each_undone {g} {f} u (e ∷ es) =
      rw (by_parts g e es, by_parts f e es)
      (parts_undone e.clear same_undone
      (parts_undone e.protected (over_undone u (range_marks (is_ciphered s pattern) e.protected)) (each_undone u es)))

  pub each_leaves : (f : List ℕ → List ℕ) (es : List Entry) → Leaves (mask s pattern es) (over_each f s pattern es)
  unfolding over_each mask marks
  each_leaves f [] = same-leaves
  each_leaves f (e ∷ es) =
      let m = range_marks (is_ciphered s pattern) e.protected in
      rw (by_parts f e es)
      (parts_leave e.clear (replicate e.clear false) (length-replicate e.clear false) same-leaves
      (parts_leave e.protected m (length_range (is_ciphered s pattern) e.protected) (over-leaves f m) (each_leaves f es)))

-- ---- A whole sample.

module _ {E D : Cipher} (v : Inverse E D) {iv : List ℕ} (w : Bytes 16 iv) (pattern : Pattern) (es : List Entry) (d : Direction) where
  pub whole_undone : (s : Scheme) → Undoes (whole E D iv pattern es (back d) s) (whole E D iv pattern es d s)
  unfolding whole
  whole_undone Cenc = over_undone (ctr_undone v w 0) (mask Cenc pattern es)
  whole_undone Cbc1 = over_undone (cbc_undone v d w) (mask Cbc1 pattern es)
  whole_undone Cens = over_undone (ctr_undone v w 0) (mask Cens pattern es)
  whole_undone Cbcs = each_undone Cbcs pattern (cbc_undone v d w) es

  -- opening a locked sample and locking an opened one give every byte back
  pub whole_back : (s : Scheme) {n : ℕ} {xs : List ℕ} → Bytes n xs
      → whole E D iv pattern es (back d) s (whole E D iv pattern es d s xs) ≡ xs
  whole_back s b = (whole_undone s).undone b

module _ (E D : Cipher) (iv : List ℕ) (pattern : Pattern) (es : List Entry) (d : Direction) where
  whole_leaves : (s : Scheme) → Leaves (mask s pattern es) (whole E D iv pattern es d s)
  unfolding whole
  whole_leaves Cenc = over-leaves (ctr E iv 0) (mask Cenc pattern es)
  whole_leaves Cbc1 = over-leaves (cbc E D d iv) (mask Cbc1 pattern es)
  whole_leaves Cens = over-leaves (ctr E iv 0) (mask Cens pattern es)
  whole_leaves Cbcs = each_leaves Cbcs pattern (cbc E D d iv) es

  module _ (s : Scheme) (xs : List ℕ) where
    -- whatever the ciphers, no byte comes or goes
    pub length_whole : length (whole E D iv pattern es d s xs) ≡ length xs
    length_whole = (whole_leaves s).size xs

    -- and a byte that is not marked never changes
    pub unmarked_stay : (i : ℕ) → get_or (mask s pattern es) i false ≡ false
        → get_or (whole E D iv pattern es d s xs) i 0 ≡ get_or xs i 0
    unmarked_stay = (whole_leaves s).stay xs
