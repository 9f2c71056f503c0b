-- A feeding's answer and output, case by case in the order of its table.
use mathlib.Core.Bool.{true, false, not}
use mathlib.Core.List.{List, [], ◌∷◌, ◌++◌}
use mathlib.Core.Path.{◌≡◌, sym, ap, ◌∙◌}
use Prim.Native.Nat.{ℕ, ◌+◌, ◌-◌, ◌≤◌, ◌<◌}
use native.Mathlib.Omega.{arith}
use lib.Dec.{ltb, eqb, lit<}
use lib.ListN.{length, drop}
use borrow.Author.Tests.{lt-ltb, le-ltb, ne_eqb}
use Rattle.octets.specs.Answers.{row, answer}
use Rattle.octets.proofs.Answers.{Refusals, none, more, room_fits, size_fits}
use Rattle.scheme.specs.Machine.{feed as feed_machine, feed_sample}
use Rattle.scheme.specs.Part.{feed_under}
use Rattle.stream_spec.specs.declared.Stream.{Stream}
use Rattle.stream_spec.specs.Stream.{Checked}
use Rattle.stream_spec.specs.Stream.{Fed}
use Rattle.stream_spec.specs.Stream.{sound, kept, due, feed_rows, check, machine, fed_by, after_piece, feed, output_after}
use Rattle.stream_spec.proofs.Rules.{done_sound, done_within, empty_piece, none_due, position_within}

-- ---- The table.

abbrev pub refused : ℕ → Checked
refused answer = record { answer = answer; due = 0; kept = 0 }

module _ (t : Stream) (n room : ℕ) where
  pub unsound : sound t ≡ false → refused 13 ≡ check t n room
  unfolding check feed_rows answer
  unsound s = rw s

  module _ (s : sound t ≡ true) where
    pub past : t.declared.length - t.progress.position < n → refused 14 ≡ check t n room
    unfolding check feed_rows answer
    past l = rw (s, lt-ltb t.declared.length (t.progress.position + n) (omega (arith, position_within t s)))

    module _ (l : t.progress.position + n ≤ t.declared.length) where
      pub short : room < due t n → refused 15 ≡ check t n room
      unfolding check feed_rows answer
      short h = rw (s, le-ltb t.declared.length (t.progress.position + n) l, lt-ltb room (due t n) h)

      pub enough : due t n ≤ room → record { answer = 0; due = due t n; kept = kept t n } ≡ check t n room
      unfolding check feed_rows answer
      enough h = rw (s, le-ltb t.declared.length (t.progress.position + n) l, le-ltb room (due t n) h)

-- the first two rows, which refuse
before_room : (t : Stream) (n : ℕ)
    → Refusals (row 13 (not (sound t)) ∷ row 14 (ltb t.declared.length (t.progress.position + n)) ∷ [])
before_room t n = more (lit< tt) (more (lit< tt) none)

-- what an accepted piece says
module _ (t : Stream) (n room : ℕ) (c : Checked) (e : c ≡ check t n room) (z : c.answer ≡ 0) where
  accepted : answer (feed_rows t n room) ≡ 0
  unfolding check
  accepted = sym (ap (λ (c : Checked). c.answer) e) ∙ z

  pub checked_sound : sound t ≡ true
  checked_sound = done_sound t n room accepted

  pub checked_within : t.progress.position + n ≤ t.declared.length
  checked_within = done_within t n room accepted

  pub checked_due : c.due ≡ due t n
  unfolding check
  checked_due = ap (λ (c : Checked). c.due) e ∙ rw accepted

  pub checked_kept : c.kept ≡ kept t n
  unfolding check
  checked_kept = ap (λ (c : Checked). c.kept) e ∙ rw accepted

  pub checked_fits : c.due ≤ room
  unfolding feed_rows
  checked_fits = rw checked_due (room_fits (before_room t n) 15 room (due t n) (omega arith) accepted)

-- ---- The feeding.

abbrev pub unchanged : ℕ → Stream → Fed
unchanged answer t = record { answer = answer; released = 0; stream = t }

-- what a feeding hands back and leaves in the output
abbrev pub Answers : Stream → List ℕ → List ℕ → Fed → List ℕ → Type 0
Answers t piece out fed after = (fed ≡ feed t piece (length out)) × (after ≡ output_after t piece out)

module _ (t : Stream) (piece out : List ℕ) (c : Checked) (e : c ≡ check t (length piece) (length out)) where
  by_table : c.answer ≡ answer (feed_rows t (length piece) (length out))
  unfolding check
  by_table = ap (λ (c : Checked). c.answer) e

  pub feed-refused : (c.answer ≡ 0 → ⊥) → Answers t piece out (unchanged c.answer t) out
  unfolding feed output_after
  feed-refused h =
      let f : eqb c.answer 0 ≡ false = ne_eqb c.answer 0 h in
      (rw (sym by_table, f), rw (sym by_table, f))

  module _ (z : c.answer ≡ 0) where
    s : sound t ≡ true
    s = checked_sound t (length piece) (length out) c e z

    pub feed_nothing : length piece ≡ 0 → Answers t piece out (unchanged 0 t) out
    unfolding output_after machine feed_under feed_sample feed_machine
    feed_nothing l = go piece l (accepted t (length piece) (length out) c e z)
      where
        go : (piece : List ℕ) → length piece ≡ 0 → answer (feed_rows t (length piece) (length out)) ≡ 0
            → Answers t piece out (unchanged 0 t) out
        go [] l a = (sym (empty_piece t (length out) s), rw (a, none_due t s))
        go (b ∷ piece) l a = absurd (omega arith)

    pub feed_done : (length piece ≡ 0 → ⊥)
        → Answers t piece out (record { answer = 0; released = c.due; stream = after_piece t piece })
        ((fed_by t piece).released ++ drop c.due out)
    unfolding feed output_after
    feed_done n =
        let a = accepted t (length piece) (length out) c e z in
        let d = checked_due t (length piece) (length out) c e z in
        (rw (a, d, ne_eqb (length piece) 0 n), rw (a, d))

-- no more is released than the output has room for
pub released_fits : (f : Fed) (t : Stream) (piece : List ℕ) (room : ℕ) → f ≡ feed t piece room → f.released ≤ room
unfolding feed feed_rows
released_fits f t piece room e =
    rw e (size_fits (before_room t (length piece)) 15 room (due t (length piece)) (omega arith))
