-- The record's rules: a started record is sound, a sound one stays so, and accepts an empty piece.
use mathlib.Core.Bool.{Bool, true, false, cond, not, ◌&&◌, ◌||◌}
use mathlib.Core.List.{List, []}
use mathlib.Core.Path.{◌≡◌, refl, ◌∙◌}
use Prim.Native.Nat.{ℕ, ◌+◌, ◌≤◌}
use native.Mathlib.Nat.{add-zero}
use native.Mathlib.Omega.{arith}
use lib.Dec.{eqb, leb}
use lib.ListN.{length, replicate, length-replicate}
use lib.Seq.{length-take-le}
use borrow.Author.Tests.{eqb-true, eq-eqb, leb-true, le-leb, le-ltb, ltb-false, not-false}
use Rattle.octets.specs.Answers.{answer}
use Rattle.octets.specs.Bytes.{same}
use Rattle.octets.proofs.Answers.{done_head, done_tail}
use Rattle.octets.proofs.OfBytes.{filled-length}
use Rattle.octets.proofs.Tests.{&&_left, &&_right}
use Rattle.modes_spec.specs.declared.Direction.{Direction}
use Rattle.track_spec.specs.Track.{known, allowed_fields, allowed, parameter_rows}
use Rattle.subsample_spec.specs.Auxiliary.{longest, some, sum, map_rows}
use Rattle.scheme.specs.Layout.{scheme_of, pattern_of}
use Rattle.scheme.specs.Held.{held_at}
use Rattle.scheme.specs.Part.{entries_of, held_under}
use Rattle.sample_spec.specs.Sample.{Inputs, iv_of, sample_rows}
use Rattle.stream_spec.specs.declared.Declared.{Declared}
use Rattle.stream_spec.specs.declared.Progress.{Progress}
use Rattle.stream_spec.specs.declared.Stream.{Stream}
use Rattle.stream_spec.specs.Stream.{held_by, sound_declared, sound, begun, idle, declared_by, start, state_of, kept, due, feed_rows, fed_by, after_piece, feed}
use Rattle.stream_spec.proofs.Reached.{Rules, held_at_start, few, low, rules_sound, machine_position, machine_held, machine-sum}
use Rattle.stream_spec.proofs.Accepted.{rules}

-- ---- What was declared.

module _ (q : Declared) where
  declared_rules : sound_declared q ≡ true → Rules q
  unfolding sound_declared
  declared_rules ok =
      let a : Bool = eqb (answer (parameter_rows q.parameters)) 0 in
      let b : Bool = leb q.length longest in
      let c : Bool = eqb (answer (map_rows q.parameters.code q.map q.length)) 0 in
      let d : Bool = eqb q.parameters.protected 1 || eqb q.map.count 0 in
      let h = &&_left (a && b && c) d ok in
      record {
        parameters = eqb-true (answer (parameter_rows q.parameters)) 0 (&&_left a b (&&_left (a && b) c h));
        short = leb-true q.length longest (&&_right a b (&&_left (a && b) c h));
        entries = eqb-true (answer (map_rows q.parameters.code q.map q.length)) 0 (&&_right (a && b) c h);
        unprotected = &&_right (a && b && c) d ok;
      }

-- ---- A sound record.

module _ (t : Stream) (ok : sound t ≡ true) where
  abbrev q : Declared
  q = t.declared

  abbrev g : Progress
  g = t.progress

  -- the three rules as they stand in the definition
  abbrev within : Bool
  within = leb g.position q.length

  abbrev counted : Bool
  counted = eqb g.held_count (held_by q g.position)

  declared_is : sound_declared q ≡ true
  unfolding sound
  declared_is = &&_left (sound_declared q) within (&&_left (sound_declared q && within) counted ok)

  pub sound_rules : Rules q
  sound_rules = declared_rules q declared_is

  pub position_within : g.position ≤ q.length
  unfolding sound
  position_within =
      leb-true g.position q.length (&&_right (sound_declared q) within (&&_left (sound_declared q && within) counted ok))

  pub held_is : g.held_count ≡ held_by q g.position
  unfolding sound
  held_is = eqb-true g.held_count (held_by q g.position) (&&_right (sound_declared q && within) counted ok)

  pub held_most : g.held_count ≤ 15
  held_most = omega (arith, held_is, few q g.position)

  pub held_below : g.held_count ≤ g.position
  held_below = omega (arith, held_is, low q g.position)

  -- with all 16 held places, as a record of the code has them: where a piece leads
  module _ (w : length g.held ≡ 16) (piece : List ℕ) where
    pub held_fits : length (state_of g).held ≡ held_by q g.position
    held_fits = length-take-le g.held_count g.held (omega (arith, held_is, few q g.position)) ∙ held_is

    pub next_position : (fed_by t piece).state.position ≡ g.position + length piece
    next_position = machine_position q (state_of g) piece

    pub next_held : length (fed_by t piece).state.held ≡ held_by q (g.position + length piece)
    next_held = machine_held q (state_of g) piece held_fits

    pub kept_few : kept t (length piece) ≤ g.held_count + length piece
    kept_few = omega (arith, machine-sum q (state_of g) piece held_fits, held_fits, held_is)

    pub next_places : length (after_piece t piece).progress.held ≡ 16
    next_places = filled-length 16 (fed_by t piece).state.held

    next-sound : g.position + length piece ≤ q.length → sound (after_piece t piece) ≡ true
    unfolding sound
    next-sound l = rw (declared_is, next_position, le-leb (g.position + length piece) q.length l, eq-eqb _ _ next_held)

-- a piece of n bytes leaves no more to be held than there are
pub kept_within : (t : Stream) → sound t ≡ true → length t.progress.held ≡ 16 → (n : ℕ) → kept t n ≤ t.progress.held_count + n
kept_within t ok w n = rw (length-replicate {A = ℕ} n 0) at (kept_few t ok w (replicate n 0))

-- ---- Feeding.

module _ (t : Stream) (n room : ℕ) (h : answer (feed_rows t n room) ≡ 0) where
  pub done_sound : sound t ≡ true
  unfolding feed_rows
  done_sound = not-false (sound t) (done_head 13 (not (sound t)) _ (omega arith) h)

  pub done_within : t.progress.position + n ≤ t.declared.length
  unfolding feed_rows
  done_within =
      ltb-false t.declared.length (t.progress.position + n)
      (done_head 14 _ _ (omega arith) (done_tail 13 (not (sound t)) _ (omega arith) h))

-- what feeding hands back is sound again
pub feed-sound : (t : Stream) (piece : List ℕ) (room : ℕ)
    → length t.progress.held ≡ 16 → sound t ≡ true → sound (feed t piece room).stream ≡ true
unfolding feed
feed-sound t piece room w ok = go (eqb (answer (feed_rows t (length piece) room)) 0) (not (eqb (length piece) 0)) refl
  where
    go : (b c : Bool) → eqb (answer (feed_rows t (length piece) room)) 0 ≡ b → sound (cond (b && c) (after_piece t piece) t) ≡ true
    go true true e =
        next-sound t ok w piece (done_within t (length piece) room (eqb-true (answer (feed_rows t (length piece) room)) 0 e))
    go true false e = ok
    go false c e = ok

pub none_due : (t : Stream) → sound t ≡ true → due t 0 ≡ 0
unfolding due
none_due t ok = rw (held_is t ok, add-zero t.progress.position) (omega arith)

-- With a sound record an empty piece is accepted and changes nothing.
pub empty_piece : (t : Stream) (room : ℕ) → sound t ≡ true → feed t [] room ≡ record { answer = 0; released = 0; stream = t }
unfolding feed feed_rows answer
empty_piece t room ok =
    rw (
      ok,
      add-zero t.progress.position,
      le-ltb t.declared.length t.progress.position (position_within t ok),
      none_due t ok,
      le-ltb room 0 (omega arith),
    )

-- ---- The start.

begun-sound : (q : Declared) (iv : List ℕ) → Rules q → sound (record { declared = q; progress = begun iv }) ≡ true
unfolding sound held_under
begun-sound q iv r =
    let z : 0 ≡ held_by q 0 =
    held_at_start (pattern_of q.parameters) (entries_of q.parameters q.map q.length) (scheme_of q.parameters.code) in
    rw (rules_sound q r, le-leb 0 q.length (omega arith), eq-eqb _ _ z)

idle-sound : sound idle ≡ true
unfolding sound sound_declared answer known same allowed allowed_fields map_rows some sum held_under held_at scheme_of
idle-sound = refl

-- what a start hands out is sound, refused or not
pub start-sound : (d : Direction) (i : Inputs) (n : ℕ) → sound (start d i n).stream ≡ true
unfolding start
start-sound d i n = go (eqb (answer (sample_rows i n)) 0) refl
  where
    go : (b : Bool) → eqb (answer (sample_rows i n)) 0 ≡ b
        → sound (cond b (record { declared = declared_by d i n; progress = begun (iv_of i) }) idle) ≡ true
    go true e = begun-sound (declared_by d i n) (iv_of i) (rules i n (eqb-true (answer (sample_rows i n)) 0 e) d)
    go false e = idle-sound
