-- The record that accepted pieces lead to: it is sound, and a piece moves it as the machine goes.
use mathlib.Core.Bool.{true, ◌||◌}
use mathlib.Core.List.{List, [], ◌++◌}
use mathlib.Core.Path.{◌≡◌, refl, sym, ap, ◌∙◌}
use Prim.Native.Nat.{ℕ, ◌+◌, ◌≤◌}
use native.Mathlib.Nat.{zero-add}
use native.Mathlib.Omega.{arith}
use lib.Dec.{eqb}
use lib.ListN.{length, drop, replicate}
use lib.Seq.{take_at}
use borrow.Author.Tests.{eq-eqb, le-leb}
use Rattle.octets.specs.Answers.{answer}
use Rattle.octets.proofs.Bytes.{filled-short}
use Rattle.aes.specs.Block.{encipher_length, decipher_length}
use Rattle.track_spec.specs.Track.{parameter_rows}
use Rattle.subsample_spec.specs.declared.Entry.{Entry}
use Rattle.subsample_spec.specs.Auxiliary.{longest, map_rows}
use Rattle.scheme.specs.declared.Mode.{Mode}
use Rattle.scheme.specs.declared.Mode.TheVariants.{Counter, Chain}
use Rattle.scheme.specs.declared.Pattern.{Pattern}
use Rattle.scheme.specs.declared.Scheme.{Scheme}
use Rattle.scheme.specs.Layout.{scheme_of, pattern_of, mask, count}
use Rattle.scheme.specs.Machine.{State, Stepped, free, mode_of, feed_sample}
use Rattle.scheme.specs.Held.{held_at}
use Rattle.scheme.specs.Part.{entries_of, held_under, feed_under}
use Rattle.scheme.proofs.Pieces.{held_after, Added, feed-append, feed-append_state, feed_position, feed_adds}
use Rattle.scheme.proofs.Positions.{held_at_is}
use Rattle.scheme.proofs.Holding.{held_small, held_low}
use Rattle.stream_spec.specs.declared.Declared.{Declared}
use Rattle.stream_spec.specs.declared.Stream.{Stream}
use Rattle.stream_spec.specs.Stream.{held_by, sound_declared, sound, state_of, progress_of, machine, fed_by, after_piece}

-- The rules of what was declared, one by one.
pub record Rules (q : Declared) : Type 0 where
  pub parameters : answer (parameter_rows q.parameters) ≡ 0
  pub short : q.length ≤ longest
  pub entries : answer (map_rows q.parameters.code q.map q.length) ≡ 0
  pub unprotected : (eqb q.parameters.protected 1 || eqb q.map.count 0) ≡ true

-- nothing is held at the start
pub held_at_start : (pattern : Pattern) (es : List Entry) (s : Scheme) → 0 ≡ held_at pattern es s 0
unfolding held_after count
held_at_start pattern es s = go (mode_of s) ∙ held_at_is pattern es s 0
  where
    go : (k : Mode) → 0 ≡ held_after k (count [])
    go Counter = refl
    go Chain = refl

module _ (q : Declared) where
  abbrev n : ℕ
  n = q.length

  abbrev H : ℕ → ℕ
  H x = held_by q x

  abbrev s : Scheme
  s = scheme_of q.parameters.code

  abbrev pattern : Pattern
  pattern = pattern_of q.parameters

  abbrev es : List Entry
  es = entries_of q.parameters q.map n

  -- at most 15 bytes are held, and no more than there are
  pub few : (x : ℕ) → H x ≤ 15
  unfolding held_under
  few x = held_small _ _ _ x

  pub low : (x : ℕ) → H x ≤ x
  unfolding held_under
  low x = held_low _ _ _ x

  abbrev Fits : State → Type 0
  Fits t = length t.held ≡ H t.position

  -- the machine's laws under what was declared
  pub machine_position : (t : State) (xs : List ℕ) → (machine q t xs).state.position ≡ t.position + length xs
  unfolding machine feed_under feed_sample
  machine_position t xs = feed_position _ _ _ _ _ _ _ t xs

  machine_adds : (t : State) (xs : List ℕ) → Fits t → Added (mode_of s) (mask s pattern es) (length t.held + length xs) (machine q t xs)
  unfolding machine feed_under feed_sample held_under
  machine_adds t xs h =
      feed_adds _ _ (λ b l. encipher_length _ b) (λ b l. decipher_length _ b) q.direction _ _ _ _ t xs
      (h ∙ sym (held_at_is pattern es s t.position))

  pub machine_held : (t : State) (xs : List ℕ) → Fits t → length (machine q t xs).state.held ≡ H (t.position + length xs)
  unfolding held_under
  machine_held t xs h =
      (machine_adds t xs h).sound ∙ held_at_is pattern es s (machine q t xs).state.position ∙ ap H (machine_position t xs)

  pub machine-sum : (t : State) (xs : List ℕ) → Fits t
      → length (machine q t xs).released + H (t.position + length xs) ≡ length t.held + length xs
  machine-sum t xs h =
      ap (λ (y : ℕ). length (machine q t xs).released + y) (sym (machine_held t xs h)) ∙ (machine_adds t xs h).sum

  machine-append_state : (t : State) (xs ys : List ℕ)
      → (machine q t (xs ++ ys)).state ≡ (machine q (machine q t xs).state ys).state
  unfolding machine feed_under feed_sample
  machine-append_state t xs ys = feed-append_state _ _ _ _ _ _ _ t xs ys

  machine-append : (t : State) (xs ys : List ℕ)
      → (machine q t (xs ++ ys)).released ≡ (machine q t xs).released ++ (machine q (machine q t xs).state ys).released
  unfolding machine feed_under feed_sample
  machine-append t xs ys = feed-append _ _ _ _ _ _ _ t xs ys

  -- what was declared keeps its rules
  pub rules_sound : Rules q → sound_declared q ≡ true
  unfolding sound_declared
  rules_sound r = rw (eq-eqb _ 0 r.parameters, le-leb n longest r.short, eq-eqb _ 0 r.entries, r.unprotected)

-- ---- After the pieces a, from an IV on.

module _ (q : Declared) (iv : List ℕ) where
  -- the machine from the start
  abbrev pub fed : List ℕ → Stepped
  fed a = machine q (free 0 iv) a

  -- the record that they lead to
  unfoldable pub at : List ℕ → Stream
  at a = record { declared = q; progress = progress_of (fed a).state }

  start_fits : Fits q (free 0 iv)
  unfolding held_under
  start_fits = held_at_start (pattern q) (es q) (s q)

  module _ (a : List ℕ) where
    pub at_position : (fed a).state.position ≡ length a
    at_position = machine_position q (free 0 iv) a ∙ zero-add (length a)

    pub at_held : length (fed a).state.held ≡ H q (length a)
    at_held = machine_held q (free 0 iv) a start_fits ∙ ap (H q) (zero-add (length a))

    pub fits_at : Fits q (fed a).state
    fits_at = at_held ∙ ap (H q) (sym at_position)

    pub at_sum : length (fed a).released + H q (length a) ≡ length a
    at_sum = omega (arith, (machine_adds q (free 0 iv) a start_fits).sum, at_held)

    pub position_at : (at a).progress.position ≡ length a
    unfolding at
    position_at = at_position

    pub length_at : (at a).declared.length ≡ n q
    unfolding at
    length_at = refl

    state_at : state_of (at a).progress ≡ (fed a).state
    unfolding at
    state_at =
        let h : List ℕ = (fed a).state.held in
        rw (filled-short 16 h (omega (arith, at_held, few q (length a))), take_at h (drop (length h) (replicate 16 0)) (length h) refl)

    pub at_sound : Rules q → length a ≤ n q → sound (at a) ≡ true
    unfolding sound at
    at_sound r l = rw (rules_sound q r, at_position, le-leb (length a) (n q) l, eq-eqb _ _ at_held)

    module _ (piece : List ℕ) where
      pub fed_by_lem : fed_by (at a) piece ≡ machine q (fed a).state piece
      unfolding at
      fed_by_lem = ap (λ (t : State). machine q t piece) state_at

      pub at_next : after_piece (at a) piece ≡ at (a ++ piece)
      unfolding at
      at_next = rw (fed_by_lem, machine-append_state q (free 0 iv) a piece)

      pub next-released : (fed a).released ++ (fed_by (at a) piece).released ≡ (fed (a ++ piece)).released
      next-released = rw fed_by_lem (sym (machine-append q (free 0 iv) a piece))
