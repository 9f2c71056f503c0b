-- Document 01, "Pieces": the record of a stream and its rules, start, feeding and end.
use Rattle.std.specs.Prelude.{Bool, cond, not, ◌&&◌, ◌||◌, List, [], ◌∷◌, ◌++◌, ℕ, ◌+◌, ◌-◌, eqb, leb, ltb, length, take, drop}
use Rattle.std.specs.declared.result.Result.{Result}
use Rattle.std.specs.declared.result.Result.TheVariants.{Ok, Err}
use Rattle.refusals.specs.declared.Refusal.{Refusal}
use Rattle.refusals.specs.Refusals.{refusal_number, answer_of}
use Rattle.octets.specs.Answers.{Row, row, answer}
use Rattle.octets.specs.Bytes.{filled}
use Rattle.aes.specs.Block.{round_keys, encipher, decipher}
use Rattle.modes_spec.specs.declared.Direction.{Direction}
use Rattle.modes_spec.specs.declared.Direction.TheVariants.{Open}
use Rattle.track_spec.specs.Track.{zeros, unprotected, parameter_rows}
use Rattle.subsample_spec.specs.Auxiliary.{longest, empty_map, map_rows}
use Rattle.scheme.specs.Machine.{State, Stepped}
use Rattle.scheme.specs.Part.{held_under, feed_under, transformed}
use Rattle.sample_spec.specs.Sample.{Inputs, parameters_of, key_of, map_of, iv_of, sample_rows}
use Rattle.stream_spec.specs.declared.Declared.{Declared}
use Rattle.stream_spec.specs.declared.Progress.{Progress}
use Rattle.stream_spec.specs.declared.Stream.{Stream}
use Rattle.stream_spec.specs.declared.Checked.{Checked as Counts}
use Rattle.stream_spec.specs.declared.Fed.{Fed as Accepted}

-- What starting a stream answers.
pub record Started : Type 0 where
  pub answer : ℕ
  pub stream : Stream

-- What a piece is answered before it is fed, and if accepted how many bytes it makes due and how many are held after it.
pub record Checked : Type 0 where
  pub answer : ℕ
  pub due : ℕ
  pub kept : ℕ

-- What feeding a piece answers: how many bytes were released, and the record after it.
pub record Fed : Type 0 where
  pub answer : ℕ
  pub released : ℕ
  pub stream : Stream

-- What ending a stream answers.
pub record Ended : Type 0 where
  pub answer : ℕ

-- ---- The record.

-- The bytes that position x of the declared sample calls to be held.
abbrev pub held_by : Declared → ℕ → ℕ
held_by q x = held_under q.parameters q.map q.length x

-- The rules of what was declared: the parameters meet 1, 3 and 4, map and declared length meet 7 and 9 to 12, with no entries if
-- unprotected.
unfoldable pub sound_declared : Declared → Bool
sound_declared q =
    eqb (answer (parameter_rows q.parameters)) 0 && leb q.length longest
    && eqb (answer (map_rows q.parameters.code q.map q.length)) 0
    && (eqb q.parameters.protected 1 || eqb q.map.count 0)

-- And of what moves: the position is at most the length, and the held count is what the position calls for. All other contents
-- are free.
unfoldable pub sound : Stream → Bool
sound t =
    sound_declared t.declared && leb t.progress.position t.declared.length
    && eqb t.progress.held_count (held_by t.declared t.progress.position)

-- The progress of a stream that nothing was fed to.
abbrev pub begun : List ℕ → Progress
begun iv = record { position = 0; block = record { 0 = iv }; held = zeros; held_count = 0 }

-- The record of a start with an IV.
abbrev pub begun_with : Declared → List ℕ → Stream
begun_with q iv = record { declared = q; progress = begun iv }

-- The record of a refused start: that of an empty unprotected cenc track in version 0, set to open, all else zero.
abbrev pub idle : Stream
idle =
    begun_with (record { direction = Open; parameters = unprotected; length = 0; map = empty_map; key = record { 0 = zeros } }) zeros

-- ---- The start: 1 to 12, with a declared length in place of the sample.

abbrev pub declared_by : Direction → Inputs → ℕ → Declared
declared_by d i n =
    record { direction = d; parameters = parameters_of i; length = n; map = map_of i; key = record { 0 = key_of i } }

-- The answer of a start as a number and a record; a refusal has that of an empty unprotected track.
abbrev pub as_started : Result Stream Refusal → Started
as_started (Ok s) = record { answer = 0; stream = s }
as_started (Err r) = record { answer = refusal_number r; stream = idle }

unfoldable pub start : Direction → Inputs → ℕ → Started
start d i n =
    record {
      answer = answer (sample_rows i n);
      stream = cond (eqb (answer (sample_rows i n)) 0) (begun_with (declared_by d i n) (iv_of i)) idle;
    }

-- ---- Feeding a piece: 13 to 15.

-- What the machine keeps of the progress, and the progress that it leaves; free held places become zero.
abbrev pub state_of : Progress → State
state_of g = record { position = g.position; block = g.block.0; held = take g.held_count g.held }

abbrev pub progress_of : State → Progress
progress_of s =
    record {
      position = s.position;
      block = record { 0 = s.block };
      held = filled 16 s.held;
      held_count = length s.held;
    }

-- After a piece of n bytes: how many bytes are held, and how many it makes due.
abbrev pub kept : Stream → ℕ → ℕ
kept t n = held_by t.declared (t.progress.position + n)

unfoldable pub due : Stream → ℕ → ℕ
due t n = t.progress.held_count + n - kept t n

-- An output of some room.
unfoldable pub feed_rows : Stream → ℕ → ℕ → List Row
feed_rows t n room =
    row 13 (not (sound t)) ∷ row 14 (ltb t.declared.length (t.progress.position + n)) ∷ row 15 (ltb room (due t n)) ∷ []

-- The answer of a check as a number and counts, 0 for a refusal.
abbrev pub as_checked : Result Counts Refusal → Checked
as_checked (Ok c) = record { answer = 0; due = c.due; kept = c.kept }
as_checked (Err r) = record { answer = refusal_number r; due = 0; kept = 0 }

-- The answer, and if it is 0 what is due and what is held after it.
unfoldable pub check : Stream → ℕ → ℕ → Checked
check t n room =
    record {
      answer = answer (feed_rows t n room);
      due = cond (eqb (answer (feed_rows t n room)) 0) (due t n) 0;
      kept = cond (eqb (answer (feed_rows t n room)) 0) (kept t n) 0;
    }

-- The machine under what was declared.
unfoldable pub machine : Declared → State → List ℕ → Stepped
machine q s xs =
    feed_under (encipher (round_keys q.key.0)) (decipher (round_keys q.key.0)) q.direction q.parameters q.map q.length s
    xs

-- A part of the declared sample, ciphered where it lies: from position x on, with the counter or chain block c before it.
unfoldable pub transformed_by : Declared → ℕ → List ℕ → List ℕ → Stepped
transformed_by q x c xs =
    transformed (encipher (round_keys q.key.0)) (decipher (round_keys q.key.0)) q.direction q.parameters q.map q.length x c
    xs

-- The machine over a piece, and the record after it.
abbrev pub fed_by : Stream → List ℕ → Stepped
fed_by t piece = machine t.declared (state_of t.progress) piece

abbrev pub after_piece : Stream → List ℕ → Stream
after_piece t piece = record { declared = t.declared; progress = progress_of (fed_by t piece).state }

-- The answer of a feeding as a number, a count and a record; a refusal releases nothing and leaves the record as it was.
abbrev pub as_fed : Stream → Result Accepted Refusal → Fed
as_fed t (Ok f) = record { answer = 0; released = f.released; stream = f.stream }
as_fed t (Err r) = record { answer = refusal_number r; released = 0; stream = t }

-- The same over a record that is lent, from the count and the record after the call.
abbrev pub as_fed_in_place : Result ℕ Refusal → Stream → Fed
as_fed_in_place (Ok n) t = record { answer = 0; released = n; stream = t }
as_fed_in_place (Err r) t = record { answer = refusal_number r; released = 0; stream = t }

-- The answer; a refused or an empty piece leaves the record as it was.
unfoldable pub feed : Stream → List ℕ → ℕ → Fed
feed t piece room =
    record {
      answer = answer (feed_rows t (length piece) room);
      released = cond (eqb (answer (feed_rows t (length piece) room)) 0) (due t (length piece)) 0;
      stream = cond (eqb (answer (feed_rows t (length piece) room)) 0 && not (eqb (length piece) 0)) (after_piece t piece) t;
    }

-- The output after feeding: what is released, in front, and nothing else changed.
unfoldable pub output_after : Stream → List ℕ → List ℕ → List ℕ
output_after t piece out =
    cond (eqb (answer (feed_rows t (length piece) (length out))) 0)
    ((fed_by t piece).released ++ drop (due t (length piece)) out) out

-- ---- The end: 13 and 16.

unfoldable pub end_rows : Stream → List Row
end_rows t = row 13 (not (sound t)) ∷ row 16 (not (eqb t.progress.position t.declared.length)) ∷ []

-- The answer of an end as a number.
abbrev pub as_ended : Result (Unit {0}) Refusal → Ended
as_ended r = record { answer = answer_of r }

unfoldable pub end : Stream → Ended
end t = record { answer = answer (end_rows t) }
