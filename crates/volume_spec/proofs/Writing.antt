-- What writing a volume answers, and the output after it: the empty volume, and one with one more record.
use mathlib.Core.List.{List, [], ◌∷◌}
use mathlib.Core.Bool.{true}
use mathlib.Core.Path.{◌≡◌}
use Prim.Native.Nat.{ℕ, ◌+◌, ◌≤◌, ◌<◌}
use native.Mathlib.Omega.{arith}
use lib.Dec.{lit<}
use lib.ListN.{length}
use borrow.Author.Tests.{not-false, ltb-false, le-ltb, ne_eqb}
use Rattle.octets.specs.Answers.{Row, answer}
use Rattle.octets.specs.Bytes.{placed}
use Rattle.octets.proofs.Answers.{done_head, done_tail, Refusals, none as no_more, more, room_short, room_enough, room_fits, size_fits}
use Rattle.volume_spec.specs.Volume.{trailer, trailer_bytes, valid, not_valid, written, output_after, none, empty_rows, set_back, add_rows, added, add}
use Rattle.volume_spec.proofs.Fields.{length_fields}
use Rattle.volume_spec.proofs.Valid.{valid_has}
use Rattle.volume_spec.proofs.Adding.{length-added}

-- ---- Any table, and any volume to be written.

module _ (rows : List Row) (new out : List ℕ) where
  -- refused: 0 for the length, and the output as it was
  pub written-refused : (n : ℕ) → answer rows ≡ n → (n ≡ 0 → ⊥)
      → (record { answer = n; length = 0 } ≡ written rows new) × (out ≡ output_after rows new out)
  written-refused n e h = (rw (e, ne_eqb n 0 h), rw (e, ne_eqb n 0 h))

  -- done: its length, and the output with it in front
  pub written_done : answer rows ≡ 0
      → (record { answer = 0; length = length new } ≡ written rows new) × (placed out 0 new ≡ output_after rows new out)
  written_done e = (rw e, rw e)

-- ---- The empty volume.

pub length_none : length none ≡ 24
unfolding trailer_bytes
length_none = length_fields 0 0 0 0

module _ (room : ℕ) where
  -- the length answered is at most the output's
  pub empty_within : (written (empty_rows room) none).length ≤ room
  empty_within = size_fits no_more 53 room (length none) (omega arith)

-- ---- One more record.

-- the rows before the one on the output's room
abbrev first : List ℕ → ℕ → List Row
first v today = not_valid v ∷ set_back v today ∷ []

first_refusals : (v : List ℕ) (today : ℕ) → Refusals (first v today)
first_refusals v today = more (lit< tt) (more (lit< tt) no_more)

-- What an accepted addition says.
pub record Accepted (v contents : List ℕ) (term today room : ℕ) : Type 0 where
  pub is_valid : valid v ≡ true
  pub in_time : (trailer v).latest ≤ today
  pub fits : length (added v contents term today) ≤ room

module _ (v contents : List ℕ) (term today room : ℕ) where
  abbrev size : ℕ
  size = length (added v contents term today)

  pub accepted_says : answer (add_rows v contents term today room) ≡ 0 → Accepted v contents term today room
  accepted_says h =
      record {
        is_valid = not-false (valid v) (done_head 50 _ _ (omega arith) h);
        in_time = ltb-false _ _ (done_head 52 _ _ (omega arith) (done_tail 50 _ _ (omega arith) h));
        fits = room_fits (first_refusals v today) 53 room size (omega arith) h;
      }

  -- the length answered is at most the output's
  pub add_within : (add v contents term today room).length ≤ room
  unfolding add
  add_within = size_fits (first_refusals v today) 53 room size (omega arith)

  module _ (h : valid v ≡ true) where
    module _ (b : (trailer v).latest ≤ today) where
      first_done : answer (first v today) ≡ 0
      unfolding answer
      first_done = rw (h, le-ltb today (trailer v).latest b)

      pub add-short : room < length v + length contents + 24 → answer (add_rows v contents term today room) ≡ 53
      add-short l =
          room_short (first_refusals v today) 53 room size (omega arith) first_done
          (omega (arith, length-added v contents term today (valid_has v h)))

      pub add_enough : length v + length contents + 24 ≤ room → answer (add_rows v contents term today room) ≡ 0
      add_enough l =
          room_enough (first_refusals v today) 53 room size (omega arith) first_done
          (omega (arith, length-added v contents term today (valid_has v h)))
