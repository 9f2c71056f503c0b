-- The words of a line are its parts; where they start and end.
use mathlib.Core.Bool.{Bool, true, false, cond}
use mathlib.Core.List.{List, [], ◌∷◌}
use mathlib.Core.Path.{◌≡◌, refl, sym, ap, ◌∙◌}
use Prim.Native.Nat.{ℕ, zero, suc, ◌+◌, ◌-◌, ◌≤◌, min}
use native.Mathlib.Nat.{min-eq_left, min-eq_right}
use native.Mathlib.Numerals.{add-one}
use native.Mathlib.Omega.{arith}
use lib.Dec.{eqb, leb}
use lib.ListN.{length, get_or, take, drop, length-drop, drop_of_length-le}
use lib.Seq.{take_all, drop-drop}
use borrow.Author.Tests.{leb-true, leb-false}
use denote.Ref.{Bor}
use Rattle.std.proofs.Common.{Option, Some, None}
use Rattle.std.specs.Option.{option_map, unwrap_or}
use Rattle.std.specs.List.{slice_split, onto_first, slice_get}
use Rattle.std.proofs.lemmas.Option.{unwrap_or-slice_get}
use Rattle.text.specs.Text.{up_to, behind, from_word, word, word_at}

onto_here : (x : ℕ) (parts : List (List ℕ)) → get_or (onto_first x parts) 0 [] ≡ x ∷ get_or parts 0 []
onto_here x [] = refl
onto_here x (p ∷ ps) = refl

onto_later : (x n : ℕ) (parts : List (List ℕ)) → get_or (onto_first x parts) (suc n) [] ≡ get_or parts (suc n) []
onto_later x n [] = refl
onto_later x n (p ∷ ps) = refl

no_word : (b n : ℕ) → word b n [] ≡ []
unfolding word from_word behind up_to
no_word b zero = refl
no_word b (suc n) = no_word b n

pub word-part : (b : ℕ) (line : List ℕ) (n : ℕ) → get_or (slice_split (λ x. eqb x b) line) n [] ≡ word b n line
unfolding word from_word behind up_to
word-part b [] zero = refl
word-part b [] (suc n) = sym (no_word b n)
word-part b (x ∷ xs) zero = go (eqb x b) (word-part b xs 0)
  where
    go : (t : Bool) → get_or (slice_split (λ x. eqb x b) xs) 0 [] ≡ up_to b xs
        → get_or (cond t ([] ∷ slice_split (λ x. eqb x b) xs) (onto_first x (slice_split (λ x. eqb x b) xs))) 0 [] ≡ cond t [] (x ∷ up_to b xs)
    go true h = refl
    go false h = rw (onto_here x (slice_split (λ x. eqb x b) xs), h)
word-part b (x ∷ xs) (suc n) = go (eqb x b) (word-part b xs n) (word-part b xs (suc n))
  where
    go : (t : Bool) → get_or (slice_split (λ x. eqb x b) xs) n [] ≡ word b n xs → get_or (slice_split (λ x. eqb x b) xs) (suc n) [] ≡ word b (suc n) xs
        → get_or (cond t ([] ∷ slice_split (λ x. eqb x b) xs) (onto_first x (slice_split (λ x. eqb x b) xs))) (suc n) []
        ≡ word b n (drop (length (cond t [] (x ∷ up_to b xs)) + 1) (x ∷ xs))
    go true h i = h
    go false h i =
        let e : suc (length (up_to b xs)) + 1 ≡ suc (length (up_to b xs) + 1) = omega arith in
        rw (onto_later x n (slice_split (λ x. eqb x b) xs), e) i

-- a part by its place, empty where there are not so many
pub part_or_none : (parts : List (List ℕ)) (n : ℕ) (r : Option (Bor (List ℕ))) (d : Bor (List ℕ)) → option_map (λ x. x.now) r ≡ slice_get parts n
    → d.now ≡ [] → (unwrap_or r d).now ≡ get_or parts n []
part_or_none parts n (Some p) d e z = ap (λ o. unwrap_or o []) e ∙ unwrap_or-slice_get parts n []
part_or_none parts n None d e z = z ∙ ap (λ o. unwrap_or o []) e ∙ unwrap_or-slice_get parts n []

-- ---- Where a word starts and ends.

pub up_to_within : (b : ℕ) (s : List ℕ) → length (up_to b s) ≤ length s
unfolding up_to
up_to_within b [] = omega arith
up_to_within b (x ∷ xs) = go (eqb x b) (up_to_within b xs)
  where
    go : (t : Bool) → length (up_to b xs) ≤ length xs → length (cond t [] (x ∷ up_to b xs)) ≤ length (x ∷ xs)
    go true l = omega arith
    go false l = omega arith

-- a place past the end is as good as the end
pub drop_min : (at : ℕ) (s : List ℕ) → drop (min at (length s)) s ≡ drop at s
drop_min at s = go (leb at (length s)) refl
  where
    go : (t : Bool) → leb at (length s) ≡ t → drop (min at (length s)) s ≡ drop at s
    go true h = rw (min-eq_left (leb-true at (length s) h))
    go false h =
        let l = leb-false at (length s) h in
        let all : drop (length s) s ≡ [] = drop_of_length-le s {i = length s} (omega arith) in
        let none : drop at s ≡ [] = drop_of_length-le s {i = at} (omega arith) in
        let past : length s ≤ at = omega arith in
        rw (min-eq_right past, all, none)

behind_within : (b : ℕ) (line : List ℕ) → length (behind b line) ≤ length line
unfolding behind
behind_within b line = simp length-drop (omega arith)

from_within : (b n : ℕ) (line : List ℕ) → length (from_word b n line) ≤ length line
unfolding from_word
from_within b zero line = omega arith
from_within b (suc n) line =
    let h = from_within b n (behind b line) in
    omega (arith, h, behind_within b line)

-- no word is longer than its line
pub word_within : (b n : ℕ) (line : List ℕ) → length (word b n line) ≤ length line
unfolding word
word_within b n line = omega (arith, up_to_within b (from_word b n line), from_within b n line)

-- the first word of what stands behind a place
module _ (b at : ℕ) (line : List ℕ) (m : ℕ) (e : m ≡ min at (length line)) where
  pub first_word : word b 0 (take (length line - m) (drop m line)) ≡ up_to b (drop at line)
  unfolding word from_word
  first_word = ap (up_to b) (take_all (length line - m) (drop m line) (simp length-drop (omega arith)) ∙ rw e (drop_min at line))

-- behind a word, one past its end
pub behind-word : (b at : ℕ) (line : List ℕ) → drop ((word_at b at line).end + 1) line ≡ behind b (drop at line)
unfolding behind word_at
behind-word b at line =
    let n = length (up_to b (drop at line)) in
    let e : min at (length line) + n + 1 ≡ min at (length line) + (n + 1) = omega arith in
    rw e (sym (drop-drop (n + 1) (min at (length line)) line) ∙ ap (drop (n + 1)) (drop_min at line))

pub from_word-next : (b n : ℕ) (line : List ℕ) → from_word b (n + 1) line ≡ behind b (from_word b n line)
unfolding from_word
from_word-next b n line = rw add-one (go n line)
  where
    go : (n : ℕ) (line : List ℕ) → from_word b (suc n) line ≡ behind b (from_word b n line)
    go zero line = refl
    go (suc n) line = go n (behind b line)
