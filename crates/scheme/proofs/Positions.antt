-- Where a position lies, and what that says of its byte and of the bytes held there.
use mathlib.Core.Path.{◌≡◌, refl, sym, ap, ◌∙◌}
use mathlib.Core.Bool.{Bool, true, false, cond, ◌&&◌}
use mathlib.Core.List.{List, [], ◌∷◌, ◌++◌, append-nil}
use Prim.Native.Nat.{ℕ, zero, suc, ◌+◌, ◌-◌, ◌*◌, ◌/◌, ◌%◌, ◌≤◌, ◌<◌}
use native.Mathlib.Nat.{zero-add, add-zero, suc-add}
use native.Mathlib.Omega.{arith}
use lib.Dec.{ltb}
use lib.ListN.{length, get_or, take, replicate, length-replicate, get_or-replicate, get_or-append}
use lib.Seq.{get_or-append-add, take-append-le, take-append-add, take_all, take-nil}
use borrow.Author.Tests.{ltb-true, ltb-false, le-ltb}
use Rattle.subsample_spec.specs.declared.Entry.{Entry}
use Rattle.scheme.specs.declared.Pattern.{Pattern}
use Rattle.scheme.specs.declared.Scheme.{Scheme}
use Rattle.scheme.specs.declared.Scheme.TheVariants.{Cenc, Cbc1, Cens, Cbcs}
use Rattle.scheme.specs.Layout.{is_crypt_block, in_whole_block, in_crypt_run, tabulate, is_ciphered, range_marks, marks, mask, count}
use Rattle.scheme.specs.Machine.{mode_of}
use Rattle.scheme.specs.Held.{Place, Clear, Inside, place, in_place, in_block, held_at}
use Rattle.scheme.proofs.Pieces.{cond_law, held_after}
use Rattle.scheme.proofs.Agreement.{by_block, length_range, tabulate-block, tabulate_last}

-- ---- the marks

pub get_d_tabulate : (f : ℕ → Bool) (o n i : ℕ) → i < n → get_or (tabulate f o n) i false ≡ f (o + i)
unfolding tabulate
get_d_tabulate f o zero i l = absurd (omega arith)
get_d_tabulate f o (suc n) zero l = rw add-zero
get_d_tabulate f o (suc n) (suc i) l = get_d_tabulate f (suc o) n i (omega arith) ∙ ap f (omega arith)

pub get_d_range : (f : ℕ → ℕ → Bool) (n i : ℕ) → i < n → get_or (range_marks f n) i false ≡ f n i
unfolding range_marks
get_d_range f n i l = get_d_tabulate (f n) 0 n i l ∙ ap (f n) (zero-add i)

get_d_after : (l k : List Bool) (n x : ℕ) → length l ≡ n → n ≤ x → get_or (l ++ k) x false ≡ get_or k (x - n) false
get_d_after l k n x e u = let s : length l + (x - n) ≡ x = omega arith in rw s at (get_or-append-add l k (x - n) false)

-- what holds of the entries' places: of a clear one, of one in a range, and of one behind both
module _ (P : Place → Type 0) (e : Entry) (es : List Entry) (x : ℕ) where
  pub place_law : (x < e.clear → P Clear)
      → (e.clear ≤ x → x - e.clear < e.protected → P (Inside e.protected (x - e.clear)))
      → (e.clear ≤ x → e.protected ≤ x - e.clear → P (place es (x - e.clear - e.protected))) → P (place (e ∷ es) x)
  unfolding place
  place_law f g h =
      cond_law P (ltb x e.clear) (λ u. f (ltb-true _ _ u))
      (λ u. cond_law P (ltb (x - e.clear) e.protected) (λ v. g (ltb-false _ _ u) (ltb-true _ _ v))
      (λ v. h (ltb-false _ _ u) (ltb-false _ _ v)))

module _ (f : ℕ → ℕ → Bool) where
  pub marks_at : (es : List Entry) (x : ℕ) → get_or (marks f es) x false ≡ in_place false f (place es x)
  unfolding marks place in_place
  marks_at [] x = refl
  marks_at (e ∷ es) x =
      let a : ℕ = e.clear in
      let A : List Bool = replicate a false in
      let B : List Bool = range_marks f e.protected in
      place_law (λ (p : Place). get_or (A ++ (B ++ marks f es)) x false ≡ in_place false f p) e es x
      (λ u. get_or-append A (B ++ marks f es) false x (simp length-replicate u) ∙ get_or-replicate a x false false u)
      (λ u v. get_d_after A (B ++ marks f es) a x (length-replicate a false) u
      ∙ get_or-append B (marks f es) false (x - a) (simp length_range v) ∙ get_d_range f e.protected (x - a) v)
      (λ u v. get_d_after A (B ++ marks f es) a x (length-replicate a false) u
      ∙ get_d_after B (marks f es) e.protected (x - a) (length_range f e.protected) v ∙ marks_at es (x - a - e.protected))

-- ---- the bytes of a block that isn't complete yet

pub count-append : (l k : List Bool) → count (l ++ k) ≡ count l + count k
unfolding count
count-append [] k = sym (zero-add (count k))
count-append (true ∷ l) k = rw (count-append l k) (sym (suc-add (count l) (count k)))
count-append (false ∷ l) k = count-append l k

pub count_run : (b : Bool) (n x : ℕ) → x ≤ n → count (take x (replicate n b)) ≡ cond b x 0
unfolding count
count_run true n zero l = refl
count_run false n zero l = refl
count_run b zero (suc x) l = absurd (omega arith)
count_run true (suc n) (suc x) l = ap suc (count_run true n x (omega arith))
count_run false (suc n) (suc x) l = count_run false n x (omega arith)

pub count_none : (n : ℕ) → count (replicate n false) ≡ 0
unfolding count
count_none zero = refl
count_none (suc n) = count_none n

pub count-after : (l k : List Bool) (n x : ℕ) → length l ≡ n → n ≤ x → count (take x (l ++ k)) ≡ count l + count (take (x - n) k)
count-after l k n x e u =
    let s : length l + (x - n) ≡ x = omega arith in
    ap count (rw s at (take-append-add l k (x - n))) ∙ count-append l (take (x - n) k)

cond-mod : (b : Bool) (x : ℕ) → cond b x 0 % 16 ≡ cond b (x % 16) 0
cond-mod true x = refl
cond-mod false x = refl

cond-block : (b : Bool) (x : ℕ) → (cond b 16 0 + x) % 16 ≡ x % 16
cond-block true x = omega arith
cond-block false x = omega arith

-- the marks of whole blocks, by the block's number: what is over at place x of the range
module _ (G : ℕ → Bool) where
  range_rank : (q k r m x : ℕ) → m ≡ q * 16 + r → r < 16 → G (k + q) ≡ false → x ≤ m
      → count (take x (tabulate (by_block G) (k * 16) m)) % 16 ≡ cond (G (k + x / 16)) (x % 16) 0
  range_rank zero k r m x e l g u =
      let s : m ≡ r = omega arith in
      let n : k + x / 16 ≡ k + 0 = omega arith in
      rw (s, tabulate_last G k r l, append-nil, n, g, rw add-zero at g, count_run false r x (omega arith)) (cond-mod false x)
  range_rank (suc q) k r m x e l g u =
      let s : m ≡ 16 + (q * 16 + r) = omega arith in
      let n : suc k + q ≡ k + suc q = omega arith in
      rw (s, tabulate-block G k (q * 16 + r))
      (go (tabulate (by_block G) (suc k * 16) (q * 16 + r))
      (range_rank q (suc k) r (q * 16 + r) (x - 16) refl l (rw n g) (omega arith)) (ltb x 16) refl)
    where
      go : (T : List Bool) → count (take (x - 16) T) % 16 ≡ cond (G (suc k + (x - 16) / 16)) ((x - 16) % 16) 0 → (b : Bool)
          → ltb x 16 ≡ b
          → count (take x (replicate 16 (G k) ++ T)) % 16 ≡ cond (G (k + x / 16)) (x % 16) 0
      go T h true e =
          let t : x < 16 = ltb-true x 16 e in
          let n : k + x / 16 ≡ k = omega arith in
          rw (take-append-le x (replicate 16 (G k)) T (omega arith), count_run (G k) 16 x (omega arith), n) (cond-mod (G k) x)
      go T h false e =
          let t : 16 ≤ x = ltb-false x 16 e in
          let n : suc k + (x - 16) / 16 ≡ k + x / 16 = omega arith in
          let i : (x - 16) % 16 ≡ x % 16 = omega arith in
          rw (
            count-after (replicate 16 (G k)) T 16 x refl t,
            count_run (G k) 16 16 (omega arith),
            cond-block (G k) (count (take (x - 16) T)),
          )
          (rw (n, i) at h)

module _ (G : ℕ → ℕ → Bool) (last : (n : ℕ) → G n (n / 16) ≡ false) where
  abbrev in_blocks : ℕ → ℕ → Bool
  in_blocks n o = by_block (G n) o

  abbrev over16 : Place → ℕ
  over16 p = in_place 0 (λ (n o : ℕ). cond (G n (o / 16)) (o % 16) 0) p

  in_range : (n x : ℕ) → x ≤ n → count (take x (range_marks in_blocks n)) % 16 ≡ cond (G n (x / 16)) (x % 16) 0
  unfolding range_marks
  in_range n x u = rw zero-add at (range_rank (G n) (n / 16) 0 (n % 16) n x (omega arith) (omega arith) (rw zero-add (last n)) u)

  whole_range : (n : ℕ) → count (range_marks in_blocks n) % 16 ≡ 0
  whole_range n =
      rw (last n, take_all n (range_marks in_blocks n) (simp length_range (omega arith))) at (in_range n n (omega arith))

  rank_at : (es : List Entry) (x : ℕ) → count (take x (marks in_blocks es)) % 16 ≡ over16 (place es x)
  unfolding marks place in_place count
  rank_at [] x = rw take-nil
  rank_at (e ∷ es) x =
      let a : ℕ = e.clear in
      let b : ℕ = e.protected in
      let A : List Bool = replicate a false in
      let B : List Bool = range_marks in_blocks b in
      let C : List Bool = marks in_blocks es in
      place_law (λ (p : Place). count (take x (A ++ (B ++ C))) % 16 ≡ over16 p) e es x
      (λ u. rw (
        take-append-le x A (B ++ C) (simp length-replicate (omega arith)),
        count_run false a x (omega arith),
      ) (cond-mod false x))
      (λ u v.
      rw (
        count-after A (B ++ C) a x (length-replicate a false) u,
        count_none a,
        zero-add,
        take-append-le (x - a) B C (simp length_range (omega arith)),
      )
      (in_range b (x - a) (omega arith)))
      (λ u v.
      rw (
        count-after A (B ++ C) a x (length-replicate a false) u,
        count_none a,
        zero-add,
        count-after B C b (x - a) (length_range in_blocks b) v,
      )
      (let w : count (range_marks in_blocks b) % 16 ≡ 0 = whole_range b in
      let s : (count (range_marks in_blocks b) + count (take (x - a - b) C)) % 16 ≡ count (take (x - a - b) C) % 16 = omega arith in
      s ∙ rank_at es (x - a - b)))

-- in the schemes that cipher whole blocks: how many ciphered bytes before position x lie in the block there
module _ (pattern : Pattern) where
  past : (n : ℕ) → ltb (n / 16) (n / 16) ≡ false
  past n = le-ltb (n / 16) (n / 16) (omega arith)

  pub rank_block : (s : Scheme) → (s ≡ Cenc → ⊥) → (es : List Entry) (x : ℕ)
      → count (take x (mask s pattern es)) % 16 ≡ in_block pattern s (place es x)
  unfolding mask in_block is_ciphered in_whole_block in_crypt_run
  rank_block Cenc h es x = absurd (h refl)
  rank_block Cbc1 h es x = rank_at (λ (n k : ℕ). ltb k (n / 16)) past es x
  rank_block Cens h es x = rank_at (λ (n k : ℕ). ltb k (n / 16) && is_crypt_block pattern k) (λ n. rw past) es x
  rank_block Cbcs h es x = rank_at (λ (n k : ℕ). ltb k (n / 16) && is_crypt_block pattern k) (λ n. rw past) es x

  -- as many bytes are held after the ciphered ones before position x as that position calls for
  pub held_at_is : (es : List Entry) (s : Scheme) (x : ℕ)
      → held_after (mode_of s) (count (take x (mask s pattern es))) ≡ held_at pattern es s x
  unfolding held_after mode_of held_at
  held_at_is es Cenc x = refl
  held_at_is es Cbc1 x = rank_block Cbc1 (λ (e : Cbc1 ≡ Cenc). let z : ◌≡◌ {A = ℕ} 0 1 = cc in omega arith) es x
  held_at_is es Cens x = refl
  held_at_is es Cbcs x = rank_block Cbcs (λ (e : Cbcs ≡ Cenc). let z : ◌≡◌ {A = ℕ} 0 1 = cc in omega arith) es x
