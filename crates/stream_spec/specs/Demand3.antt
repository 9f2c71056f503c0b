-- Document 01, "Pieces": "In demand 3, x is the length of all accepted pieces together ..": one claim about a list of calls.
use Rattle.std.specs.Prelude.{cond, List, [], ◌∷◌, ◌++◌, ◌≡◌, ℕ, ◌+◌, ◌-◌, ◌≤◌, eqb, ltb, length, take}
use Rattle.modes_spec.specs.declared.Direction.{Direction}
use Rattle.scheme.specs.Part.{held_under}
use Rattle.sample_spec.specs.Sample.{Inputs, parameters_of, map_of, sample_after}
use Rattle.stream_spec.specs.declared.Stream.{Stream}
use Rattle.stream_spec.specs.Stream.{start, feed, output_after, end}

-- Feeding with a piece and the output lent for it, or ending.
pub data Call : Type 0 where
  Feeding : List ℕ → List ℕ → Call
  Ending : Call

-- The output lent for a call; an end is lent none.
unfoldable pub lent : Call → List ℕ
lent (Feeding piece out) = out
lent Ending = []

-- What a call reports: the answer, and how many bytes it released.
pub record Reply : Type 0 where
  pub answer : ℕ
  pub released : ℕ

abbrev pub reply : ℕ → ℕ → Reply
reply answer released = record { answer = answer; released = released }

-- ---- The account: what document 01 says of each call, from the lengths alone.

-- Of a sample whose position x calls for held x bytes to be held.
module _ (held : ℕ → ℕ) where
  -- What has been released at x: x, less the bytes held.
  unfoldable pub count_at : ℕ → ℕ
  count_at x = x - held x

  -- What k bytes more make due: the count at x + k, less that at x.
  unfoldable pub due_at : ℕ → ℕ → ℕ
  due_at x k = count_at (x + k) - count_at x

-- And whose declared length is n.
module _ (held : ℕ → ℕ) (n : ℕ) where
  -- A feeding of k bytes: 14 if x + k passes the declared length, 15 if the output's room is shorter than what is due, else 0.
  unfoldable pub feeding : ℕ → ℕ → ℕ → Reply
  feeding x k room =
      cond (ltb n (x + k)) (reply 14 0) (cond (ltb room (due_at held x k)) (reply 15 0) (reply 0 (due_at held x k)))

  -- An end: 0 if x is the declared length, else 16.
  unfoldable pub ending : ℕ → Reply
  ending x = cond (eqb x n) (reply 0 0) (reply 16 0)

  unfoldable pub reply_at : ℕ → Call → Reply
  reply_at x (Feeding piece out) = feeding x (length piece) (length out)
  reply_at x Ending = ending x

  -- The piece that a call adds to the accepted ones; a refused call adds none.
  unfoldable pub piece_at : ℕ → Call → List ℕ
  piece_at x (Feeding piece out) = cond (eqb (feeding x (length piece) (length out)).answer 0) piece []
  piece_at x Ending = []

  -- The replies to a list of calls from x on.
  unfoldable pub account : ℕ → List Call → List Reply
  account x [] = []
  account x (c ∷ cs) = reply_at x c ∷ account (x + length (piece_at x c)) cs

  -- The accepted pieces, joined.
  unfoldable pub accepted : ℕ → List Call → List ℕ
  accepted x [] = []
  accepted x (c ∷ cs) = piece_at x c ++ accepted (x + length (piece_at x c)) cs

-- ---- The run: the calls made, by the definitions that the code's contracts cite.

-- A call made: its reply, the record after it and the lent output after it.
pub record Made : Type 0 where
  pub reply : Reply
  pub stream : Stream
  pub output : List ℕ

unfoldable pub make : Stream → Call → Made
make t (Feeding piece out) =
    record {
      reply = reply (feed t piece (length out)).answer (feed t piece (length out)).released;
      stream = (feed t piece (length out)).stream;
      output = output_after t piece out;
    }
make t Ending = record { reply = reply (end t).answer 0; stream = t; output = [] }

-- The calls made one after the other, each on the record that the call before handed back or left.
unfoldable pub run : Stream → List Call → List Made
run t [] = []
run t (c ∷ cs) = make t c ∷ run (make t c).stream cs

-- The record after them.
unfoldable pub record_after : Stream → List Call → Stream
record_after t [] = t
record_after t (c ∷ cs) = record_after (make t c).stream cs

unfoldable pub replies : List Made → List Reply
replies [] = []
replies (m ∷ ms) = m.reply ∷ replies ms

-- All released bytes, joined: of each output as many of its first bytes as were reported.
unfoldable pub released : List Made → List ℕ
released [] = []
released (m ∷ ms) = take m.reply.released m.output ++ released ms

-- ---- The claim.

-- What a refused call leaves: the record equal, the lent output as it was, and nothing released.
pub record Unchanged (t : Stream) (c : Call) : Type 0 where
  pub stream : (make t c).stream ≡ t
  pub output : (make t c).output ≡ lent c
  pub none : (make t c).reply.released ≡ 0

-- The bytes held at position x under a start's parameters and map.
abbrev pub held_from : Inputs → ℕ → ℕ → ℕ
held_from i n x = held_under (parameters_of i) (map_of i) n x

-- The accepted pieces of a list of calls on a started stream, joined, and x, their length.
abbrev pub pieces : Inputs → ℕ → List Call → List ℕ
pieces i n calls = accepted (held_from i n) n 0 calls

abbrev pub reached : Inputs → ℕ → List Call → ℕ
reached i n calls = length (pieces i n calls)

-- Of a list of calls on a started stream:
pub record Demand3 (d : Direction) (i : Inputs) (n : ℕ) (calls : List Call) : Type 0 where
  -- the replies are those of the account;
  pub replies : replies (run (start d i n).stream calls) ≡ account (held_from i n) n 0 calls
  -- for every sample of the declared length that begins with the accepted pieces, the released bytes are the first x - held x of
  -- what the whole-sample call with the start's inputs makes of it;
  pub bytes : (xs rest : List ℕ) → xs ≡ pieces i n calls ++ rest → length xs ≡ n
      → released (run (start d i n).stream calls) ≡ take (count_at (held_from i n) (reached i n calls)) (sample_after d i xs)
  -- they are that many; the record's held count is held x, at most 15;
  pub count : length (released (run (start d i n).stream calls)) ≡ count_at (held_from i n) (reached i n calls)
  pub held_count : (record_after (start d i n).stream calls).progress.held_count ≡ held_from i n (reached i n calls)
  pub held_within : held_from i n (reached i n calls) ≤ reached i n calls
  pub held_few : held_from i n (reached i n calls) ≤ 15
  -- an end after the list is answered 0 exactly when x is the declared length, and then all of the sample has been released;
  pub end_done : reached i n calls ≡ n → (end (record_after (start d i n).stream calls)).answer ≡ 0
  pub end_only : (end (record_after (start d i n).stream calls)).answer ≡ 0 → reached i n calls ≡ n
  pub all : (end (record_after (start d i n).stream calls)).answer ≡ 0
      → released (run (start d i n).stream calls) ≡ sample_after d i (pieces i n calls)
  -- a refused call, on any record, leaves it equal and the lent output as it was.
  pub refused : (t : Stream) (c : Call) → ((make t c).reply.answer ≡ 0 → ⊥) → Unchanged t c
