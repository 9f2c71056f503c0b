-- What the answers depend on: the index, the trailer and lengths, and never the records' contents.
use mathlib.Core.Bool.{Bool, true, false, cond, not}
use mathlib.Core.List.{List, [], ◌∷◌, ◌++◌}
use mathlib.Core.Path.{◌≡◌, refl, sym, ◌∙◌}
use Prim.Native.Nat.{ℕ, ◌+◌, ◌-◌, ◌*◌, ◌≤◌}
use native.Mathlib.Omega.{arith}
use lib.Dec.{eqb, ltb}
use lib.ListN.{length, length-append}
use Rattle.octets.specs.Answers.{Row, row, answer}
use Rattle.volume_spec.specs.Volume.{trailer, entry_at, entries, valid, check, entry_of, found, set_back, add, disposable}
use Rattle.volume_spec.proofs.Fields.{entry-behind, trailer-behind}
use Rattle.volume_spec.proofs.Entries.{entries-behind}
use Rattle.volume_spec.proofs.Adding.{length-added}
use Rattle.volume_spec.proofs.Valid.{valid_has}

-- Bytes p in front of bytes s, which have the trailer and the index that it points to.
module _ (p s : List ℕ) (whole : 24 ≤ length s) (in_front : length p ≤ (trailer s).offset) where
  at_index : length p + ((trailer s).offset - length p) ≡ (trailer s).offset
  at_index = omega arith

  index-behind : (n : ℕ) → entries (p ++ s) (trailer s).offset n ≡ entries s ((trailer s).offset - length p) n
  index-behind n = rw at_index at (entries-behind p s (length p) ((trailer s).offset - length p) n refl)

  entry_of_behind : (k : ℕ) → entry_of (p ++ s) k ≡ entry_at s ((trailer s).offset - length p + k * 24)
  entry_of_behind k =
      let e : (trailer s).offset + k * 24 ≡ length p + ((trailer s).offset - length p + k * 24) = omega arith in
      rw (trailer-behind p s whole, e) (entry-behind p s (length p) ((trailer s).offset - length p + k * 24) refl)

-- Adding, by validity, the row on today, and lengths.
abbrev rows_by : Bool → Row → ℕ → ℕ → List Row
rows_by ok back size room = row 50 (not ok) ∷ back ∷ row 53 (ltb room size) ∷ []

module _ (v contents : List ℕ) (term today room : ℕ) where
  abbrev size : ℕ
  size = length v + length contents + 24

  abbrev answered : ℕ
  answered = answer (rows_by (valid v) (set_back v today) size room)

  add_is : (t : Bool) → valid v ≡ t → add v contents term today room ≡ record { answer = answered; length = cond (eqb answered 0) size 0 }
  unfolding add answer
  add_is true h = rw (h, length-added v contents term today (valid_has v h))
  add_is false h = rw h

  add_by : add v contents term today room ≡ record { answer = answered; length = cond (eqb answered 0) size 0 }
  add_by = add_is (valid v) refl

-- Two volumes that differ at most in front of the index, in the records' contents.
module _ (p q s : List ℕ) (e : length p ≡ length q) (whole : 24 ≤ length s) (in_front : length p ≤ (trailer (p ++ s)).offset) where
  before_p : length p ≤ (trailer s).offset
  before_p = rw (trailer-behind p s whole) at in_front

  before_q : length q ≤ (trailer s).offset
  before_q = omega (arith, before_p)

  same-trailer : trailer (p ++ s) ≡ trailer (q ++ s)
  same-trailer = trailer-behind p s whole ∙ sym (trailer-behind q s whole)

  same-entry : (k : ℕ) → entry_of (p ++ s) k ≡ entry_of (q ++ s) k
  same-entry k = entry_of_behind p s whole before_p k ∙ rw e (sym (entry_of_behind q s whole before_q k))

  same-valid : valid (p ++ s) ≡ valid (q ++ s)
  unfolding valid
  same-valid =
      rw (
        trailer-behind p s whole,
        trailer-behind q s whole,
        index-behind p s whole before_p (trailer s).count,
        index-behind q s whole before_q (trailer s).count,
        length-append p s,
        length-append q s,
        e,
      )

  pub check_alike : check (p ++ s) ≡ check (q ++ s)
  unfolding check
  check_alike = rw same-valid

  pub record_alike : (k : ℕ) → found (p ++ s) k ≡ found (q ++ s) k
  unfolding found
  record_alike k = rw (same-valid, same-entry k, same-trailer)

  pub disposable_alike : (k today : ℕ) → disposable (p ++ s) k today ≡ disposable (q ++ s) k today
  unfolding disposable
  disposable_alike k today = rw (same-valid, same-entry k, same-trailer)

  -- adding, of two records of one length
  pub add_alike : (a b : List ℕ) → length a ≡ length b → (term today room : ℕ) → add (p ++ s) a term today room ≡ add (q ++ s) b term today room
  add_alike a b l term today room =
      let n : length (p ++ s) ≡ length (q ++ s) = simp length-append (omega arith) in
      add_by (p ++ s) a term today room ∙ rw (same-valid, same-trailer, n, l) (sym (add_by (q ++ s) b term today room))
