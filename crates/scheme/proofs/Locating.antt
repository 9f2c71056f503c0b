-- Where a position lies, entry by entry.
use mathlib.Core.Path.{◌≡◌, refl, sym, ap, ◌∙◌}
use mathlib.Core.Bool.{Bool, true, false}
use mathlib.Core.List.{List, [], ◌∷◌, ◌++◌}
use Prim.Native.Nat.{ℕ, ◌+◌, ◌-◌, ◌*◌, ◌%◌, ◌^◌, ◌≤◌, ◌<◌}
use native.Mathlib.Nat.{add-zero, zero-add}
use native.Mathlib.Omega.{arith}
use lib.ListN.{take, drop, replicate, length-replicate}
use lib.Seq.{take-append-le, take-nil, take_all}
use borrow.Author.Tests.{lt-ltb, le-ltb}
use Rattle.subsample_spec.specs.declared.Entry.{Entry}
use Rattle.subsample_spec.specs.Auxiliary.{entry}
use Rattle.scheme.specs.declared.Mode.TheVariants.{Counter, Chain}
use Rattle.scheme.specs.declared.Pattern.{Pattern}
use Rattle.scheme.specs.declared.Scheme.{Scheme}
use Rattle.scheme.specs.declared.Scheme.TheVariants.{Cenc}
use Rattle.scheme.specs.Layout.{is_ciphered, range_marks, marks, mask, count}
use Rattle.scheme.proofs.Agreement.{length_range}
use Rattle.scheme.specs.Held.{Clear, Inside, place, in_place, in_block, held_at}
use Rattle.scheme.proofs.Positions.{rank_block, count_run, count_none, count-after, held_at_is}
use Rattle.scheme.specs.Machine.{mode_of}
use Rattle.scheme.specs.Walk.{Located, every_byte}
use Rattle.scheme.proofs.Pieces.{held_after}
use Rattle.scheme.proofs.Holding.{held_counter}
use Rattle.scheme.proofs.Ranges.{run_marks}

abbrev Rank : List Entry → Pattern → ℕ → ℕ
Rank es pattern x = count (take x (mask Cenc pattern es))

pub record Locating (es : List Entry) (x k y before : ℕ) : Type 0 where
  pub at : place es x ≡ place (drop k es) y
  pub rank : (pattern : Pattern) → Rank es pattern x ≡ before + Rank (drop k es) pattern y
  pub low : before ≤ k * 2 ^ 32

pub locate_start : (es : List Entry) (x : ℕ) → Locating es x 0 x 0
locate_start es x = record { at = refl; rank = λ pattern. sym (zero-add _); low = omega arith }

-- the marks of a cenc range
cenc_range : (pattern : Pattern) (n : ℕ) → range_marks (is_ciphered Cenc pattern) n ≡ replicate n true
unfolding is_ciphered
cenc_range pattern n =
    sym (take_all n (range_marks (is_ciphered Cenc pattern) n) (simp length_range (omega arith)))
    ∙ run_marks (is_ciphered Cenc pattern) n 0 n (omega arith) true (λ x a b. refl)

module _ (p n y : ℕ) (es : List Entry) where
  abbrev here : List Entry
  here = (record { clear = p; protected = n }) ∷ es

  module _ (u : y < p) where
    place_clear : place here y ≡ Clear
    unfolding place
    place_clear = rw (lt-ltb y p u)

    rank_clear : (pattern : Pattern) → Rank here pattern y ≡ 0
    unfolding mask marks
    rank_clear pattern =
        rw (take-append-le y (replicate p false)
        (range_marks (is_ciphered Cenc pattern) n ++ marks (is_ciphered Cenc pattern) es)
        (simp length-replicate (omega arith)))
        (count_run false p y (omega arith))

  module _ (u : p ≤ y) where
    rank_on : (pattern : Pattern) → Rank here pattern y ≡ count (take (y - p) (replicate n true ++ mask Cenc pattern es))
    unfolding mask marks
    rank_on pattern =
        rw (
          count-after (replicate p false)
              (range_marks (is_ciphered Cenc pattern) n ++ marks (is_ciphered Cenc pattern) es) p y
              (length-replicate p false) u,
          count_none p,
          zero-add,
          cenc_range pattern n,
        )

    module _ (v : y - p < n) where
      place_in : place here y ≡ Inside n (y - p)
      unfolding place
      place_in = rw (le-ltb y p u, lt-ltb (y - p) n v)

      rank_in : (pattern : Pattern) → Rank here pattern y ≡ y - p
      rank_in pattern =
          rank_on pattern
          ∙ rw (take-append-le (y - p) (replicate n true) (mask Cenc pattern es) (simp length-replicate (omega arith)))
          (count_run true n (y - p) (omega arith))

    module _ (v : n ≤ y - p) where
      place_past : place here y ≡ place es (y - p - n)
      unfolding place
      place_past = rw (le-ltb y p u, le-ltb (y - p) n v)

      rank_past : (pattern : Pattern) → Rank here pattern y ≡ n + Rank es pattern (y - p - n)
      rank_past pattern =
          let e : count (replicate n true) ≡ n =
          rw (take_all n (replicate n true) (simp length-replicate (omega arith))) at (count_run true n n (omega arith)) in
          rank_on pattern ∙ count-after (replicate n true) (mask Cenc pattern es) n (y - p) (length-replicate n true) v
          ∙ rw e

module _ {es : List Entry} {x k y before : ℕ} (s : Locating es x k y before) where
  pub locate_none : drop k es ≡ [] → Located es x false 0 0 before
  unfolding place mask marks count
  locate_none e = record { at = s.at ∙ rw e; rank = λ pattern. s.rank pattern ∙ rw (e, take-nil y) (add-zero before) }

  module _ (p n : ℕ) (e : drop k es ≡ (record { clear = p; protected = n }) ∷ drop (k + 1) es) where
    pub locate_clear : y < p → Located es x false 0 0 before
    locate_clear u =
        record {
          at = s.at ∙ rw e (place_clear p n y (drop (k + 1) es) u);
          rank = λ pattern. s.rank pattern ∙ rw (e, rank_clear p n y (drop (k + 1) es) u pattern) (add-zero before);
        }

    pub locate_in : p ≤ y → y - p < n → Located es x true n (y - p) (before + (y - p))
    locate_in u v =
        record {
          at = s.at ∙ rw e (place_in p n y (drop (k + 1) es) u v);
          rank = λ pattern. s.rank pattern ∙ rw (e, rank_in p n y (drop (k + 1) es) u v pattern);
        }

    pub locate_next : p ≤ y → n ≤ y - p → n < 2 ^ 32 → Locating es x (k + 1) (y - p - n) (before + n)
    locate_next u v l =
        record {
          at = s.at ∙ rw e (place_past p n y (drop (k + 1) es) u v);
          rank = λ pattern. s.rank pattern ∙ rw (e, rank_past p n y (drop (k + 1) es) u v pattern) (omega arith);
          low = omega (arith, s.low);
        }

-- what of the pad is used there
module _ {es : List Entry} {x : ℕ} {b : Bool} {n o r : ℕ} (s : Located es x b n o r) (sch : Scheme) (pattern : Pattern) where
  module _ (ne : sch ≡ Cenc → ⊥) where
    pub used_clear : b ≡ false → 0 ≡ count (take x (mask sch pattern es)) % 16
    unfolding in_block in_place
    used_clear e = sym (rank_block pattern sch ne es x ∙ rw (s.at, e))

    pub used_in : b ≡ true → is_ciphered sch pattern n o ≡ true → o % 16 ≡ count (take x (mask sch pattern es)) % 16
    unfolding in_block in_place
    used_in e f = sym (rank_block pattern sch ne es x ∙ rw (s.at, e, f))

    pub used_out : b ≡ true → is_ciphered sch pattern n o ≡ false → 0 ≡ count (take x (mask sch pattern es)) % 16
    unfolding in_block in_place
    used_out e f = sym (rank_block pattern sch ne es x ∙ rw (s.at, e, f))

cross : {A : Type 0} → true ≡ false → A
cross e = absurd (let z : ◌≡◌ {A = ℕ} 0 1 = cc in omega arith)

pub no_cenc : (s : Scheme) → every_byte s ≡ false → s ≡ Cenc → ⊥
no_cenc s e f = cross (sym (ap every_byte f) ∙ e)

-- and how many bytes are held
pub held_none : (pattern : Pattern) (es : List Entry) (s : Scheme) (x : ℕ) → mode_of s ≡ Counter → 0 ≡ held_at pattern es s x
held_none pattern es s x e = sym (held_counter pattern s es x e)

pub held_some : (pattern : Pattern) (es : List Entry) (s : Scheme) (x : ℕ) → mode_of s ≡ Chain
    → count (take x (mask s pattern es)) % 16 ≡ held_at pattern es s x
unfolding held_after
held_some pattern es s x e = rw e at (held_at_is pattern es s x)

-- where a position lies in a sample that is one protected range
module _ (n x : ℕ) where
  pub locate_inside : x < n → Located (entry 0 n ∷ []) x true n x x
  locate_inside l =
      let z : x - 0 ≡ x = omega arith in
      let w : 0 + (x - 0) ≡ x = omega arith in
      rw (w, z) at (locate_in (locate_start (entry 0 n ∷ []) x) 0 n refl (omega arith) (omega arith))

  pub locate_past : n ≤ x → Located (entry 0 n ∷ []) x false 0 0 n
  unfolding place mask marks count
  locate_past l =
      record {
        at = place_past 0 n x [] (omega arith) (omega arith);
        rank = λ pattern. rank_past 0 n x [] (omega arith) (omega arith) pattern ∙ rw (take-nil (x - 0 - n)) (add-zero n);
      }
