-- What start, feeding and end answer depends on: not on key or IV bytes, nor on the counter or chain, the held bytes or the piece's.
use mathlib.Core.Bool.{Bool, true, false, cond, not, ◌&&◌}
use mathlib.Core.List.{List, ◌∷◌}
use mathlib.Core.Path.{◌≡◌, refl, sym, ap, ap₂, ◌∙◌}
use Prim.Native.Nat.{ℕ, ◌+◌}
use lib.Dec.{eqb}
use lib.ListN.{length}
use borrow.Author.Tests.{eqb-true}
use Rattle.octets.specs.Answers.{answer}
use Rattle.modes_spec.specs.declared.Direction.{Direction}
use Rattle.track_spec.specs.declared.Parameters.{Parameters}
use Rattle.track_spec.specs.Track.{parameter_rows}
use Rattle.track_spec.specs.Depends.{AlikeParameters}
use Rattle.track_spec.proofs.Depends.{check_alike}
use Rattle.track_spec.proofs.Depends as track
use Rattle.subsample_spec.specs.declared.SubsampleMap.{SubsampleMap}
use Rattle.scheme.specs.Layout.{pattern_of}
use Rattle.scheme.specs.Part.{entries_of, held_under}
use Rattle.sample_spec.specs.Sample.{Inputs, parameters_of, iv_of, sample_rows}
use Rattle.sample_spec.specs.Depends.{AlikeInputs}
use Rattle.sample_spec.proofs.Depends.{boxes_alike, maps_alike, inputs_alike}
use Rattle.stream_spec.specs.declared.Declared.{Declared}
use Rattle.stream_spec.specs.declared.Stream.{Stream}
use Rattle.stream_spec.specs.Stream.{held_by, sound_declared, sound, begun, idle, declared_by, start, feed_rows, after_piece, feed, end}
use Rattle.stream_spec.specs.Demand3.{Call, Reply, reply, make, run, replies}
use Rattle.stream_spec.specs.Depends.{AlikeDeclared, AlikeStreams, AlikeRecords, AlikeCalls, none, feeding, ending}
use Rattle.stream_spec.proofs.SameRules.{SameRules, same-sound, same_rows, same-reply, same_end}
use Rattle.stream_spec.proofs.Rules.{next_position, next_held, next_places, done_sound}

-- ---- Parameters.

module _ {p q : Parameters} (s : AlikeParameters p q) where
  parameters_alike : eqb (answer (parameter_rows p)) 0 ≡ eqb (answer (parameter_rows q)) 0
  parameters_alike = ap (λ (n : ℕ). eqb n 0) (check_alike p q s)

  held_alike : (m : SubsampleMap) (n x : ℕ) → held_under p m n x ≡ held_under q m n x
  unfolding held_under entries_of pattern_of
  held_alike m n x = rw (s.code, s.crypt, s.skip, s.protected)

-- ---- Records.

module _ {q r : Declared} (s : AlikeDeclared q r) where
  rules_alike : sound_declared q ≡ sound_declared r
  unfolding sound_declared
  rules_alike =
      rw (parameters_alike s.parameters, s.parameters.code, s.parameters.protected, s.length, s.map)

  held_by_lem : (x : ℕ) → held_by q x ≡ held_by r x
  held_by_lem x = rw (s.map, s.length) (held_alike s.parameters r.map r.length x)

module _ {t u : Stream} (s : AlikeStreams t u) where
  same_rules : SameRules t u
  same_rules =
      record {
        rules = rules_alike s.declared;
        length = s.declared.length;
        held = held_by_lem s.declared;
        position = s.position;
        held_count = s.held_count;
      }

  -- pieces of one length and outputs of one length: the same answer, and as many bytes released
  module _ (piece piece' : List ℕ) (room room' : ℕ) (l : length piece ≡ length piece') (e : room ≡ room') where
    pub feed_alike : (feed t piece room).answer ≡ (feed u piece' room').answer
    feed_alike = ap (λ (r : Reply). r.answer) (same-reply same_rules piece piece' room room' l e)

    pub released_alike : (feed t piece room).released ≡ (feed u piece' room').released
    released_alike = ap (λ (r : Reply). r.released) (same-reply same_rules piece piece' room room' l e)

  pub end_alike : (end t).answer ≡ (end u).answer
  end_alike = same_end same_rules

-- ---- A list of calls.

module _ {t u : Stream} (s : AlikeRecords t u) (piece piece' : List ℕ) (l : length piece ≡ length piece') where
  next_alike : sound t ≡ true → AlikeRecords (after_piece t piece) (after_piece u piece')
  next_alike ok =
      let k : sound u ≡ true = sym (same-sound (same_rules s.streams)) ∙ ok in
      record {
        streams = record {
          declared = s.streams.declared;
          position = next_position t ok s.left piece ∙ rw (s.streams.position, l) (sym (next_position u k s.right piece'));
          held_count = next_held t ok s.left piece
              ∙ rw (s.streams.position, l)
              (held_by_lem s.streams.declared (u.progress.position + length piece') ∙ sym (next_held u k s.right piece'));
        };
        left = next_places t ok s.left piece;
        right = next_places u k s.right piece';
      }

  module _ (room room' : ℕ) (e : room ≡ room') where
    stream_alike : AlikeRecords (feed t piece room).stream (feed u piece' room').stream
    unfolding feed
    stream_alike =
        rw (← l, ← e, ← (same_rows (same_rules s.streams) (length piece) room))
        (go (eqb (answer (feed_rows t (length piece) room)) 0) (not (eqb (length piece) 0)) refl)
      where
        go : (b c : Bool) → eqb (answer (feed_rows t (length piece) room)) 0 ≡ b
            → AlikeRecords (cond (b && c) (after_piece t piece) t) (cond (b && c) (after_piece u piece') u)
        go true true f = next_alike (done_sound t (length piece) room (eqb-true (answer (feed_rows t (length piece) room)) 0 f))
        go true false f = s
        go false c f = s

-- they get the same replies
pub run_alike : {cs cs' : List Call} → AlikeCalls cs cs' → {t u : Stream} → AlikeRecords t u
    → replies (run t cs) ≡ replies (run u cs')
unfolding run replies make
run_alike none s = refl
run_alike (feeding piece piece' out out' l e c) s =
    ap₂ (λ (y : Reply) (ys : List Reply). y ∷ ys)
    (same-reply (same_rules s.streams) piece piece' (length out) (length out') l e)
    (run_alike c (stream_alike s piece piece' l (length out) (length out') e))
run_alike (ending c) s =
    ap₂ (λ (y : Reply) (ys : List Reply). y ∷ ys) (ap (λ (n : ℕ). reply n 0) (end_alike s.streams)) (run_alike c s)

-- ---- From the start on.

-- a record is alike itself
alike_itself : (t : Stream) → AlikeStreams t t
alike_itself t =
    record {
      declared = record {
        parameters = record {
          code = refl;
          version = refl;
          crypt = refl;
          skip = refl;
          protected = refl;
          iv_size = refl;
          kid = λ e. refl;
          constant = λ e. refl;
        };
        length = refl;
        map = refl;
      };
      position = refl;
      held_count = refl;
    }

-- Two starts with inputs that differ at most in key and IV bytes, in either direction.
module _ {i j : Inputs} (s : AlikeInputs i j) (d d' : Direction) (n : ℕ) where
  -- the same answer
  pub start_alike : (start d i n).answer ≡ (start d' j n).answer
  unfolding start
  start_alike = inputs_alike s n

  declared_alike : AlikeDeclared (declared_by d i n) (declared_by d' j n)
  unfolding parameters_of
  declared_alike =
      record {
        parameters = rw s.code (track.parameters_alike (boxes_alike s) j.code);
        length = refl;
        map = maps_alike s;
      }

  -- and alike records; after a refusal both are idle
  pub stream_started_alike : AlikeRecords (start d i n).stream (start d' j n).stream
  unfolding start
  stream_started_alike = rw (← (inputs_alike s n)) (go (eqb (answer (sample_rows i n)) 0))
    where
      go : (b : Bool)
          → AlikeRecords (cond b (record { declared = declared_by d i n; progress = begun (iv_of i) }) idle)
          (cond b (record { declared = declared_by d' j n; progress = begun (iv_of j) }) idle)
      go true =
          record { streams = record { declared = declared_alike; position = refl; held_count = refl }; left = refl; right = refl }
      go false = record { streams = alike_itself idle; left = refl; right = refl }

  -- so the answers and released counts of a whole run depend neither on key and IV bytes nor on what the pieces hold
  pub answers_alike : {cs cs' : List Call} → AlikeCalls cs cs'
      → ((start d i n).answer ≡ (start d' j n).answer)
      × (replies (run (start d i n).stream cs) ≡ replies (run (start d' j n).stream cs'))
  answers_alike c = (start_alike, run_alike c stream_started_alike)
