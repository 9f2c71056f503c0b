-- How far a sample opened in pieces has come: the loop's invariant, its beginning, one piece more, and its end.
use mathlib.Core.List.{List, [], ◌∷◌, ◌++◌, append_assoc, append-nil}
use mathlib.Core.Path.{◌≡◌, refl, sym, ap, ◌∙◌}
use Prim.Native.Nat.{ℕ, ◌+◌, ◌-◌, ◌^◌, ◌≤◌, ◌<◌}
use native.Mathlib.Omega.{arith}
use lib.ListN.{length, take, drop, length-append, length-drop, take-append-drop}
use lib.Seq.{length-take-le, take_all, take_at, drop_at, drop-drop}
use borrow.Author.Tests.{eq-eqb, ne_eqb, lt-ltb, le-ltb}
use Rattle.octets.specs.Answers.{answer}
use Rattle.modes_spec.specs.declared.Direction.TheVariants.{Open}
use Rattle.sample_spec.specs.Sample.{Inputs, OfBytes, iv_of, sample_rows}
use Rattle.sample_spec.proofs.RoundTrip.{length-after}
use Rattle.stream_spec.specs.declared.Declared.{Declared}
use Rattle.stream_spec.specs.declared.Stream.{Stream}
use Rattle.stream_spec.specs.Stream.{Started}
use Rattle.stream_spec.specs.Stream.{held_by, declared_by, start, due, fed_by, feed, output_after, end}
use Rattle.stream_spec.specs.Demand3.{Feeding, Ending, Reply, count_at, due_at, feeding, ending, reply_at, piece_at, make}
use Rattle.stream_spec.proofs.Accepted.{rules}
use Rattle.stream_spec.proofs.Reached.{Rules, fed, at, at_sum, position_at}
use Rattle.stream_spec.proofs.Feeding.{released_fits}
use Rattle.stream_spec.proofs.Demand3.{Moves, moves, accepts, begun, all_of_it}
use Rattle.pieces.specs.Pieces.{answered, output}

none : (l : List ℕ) → length l ≡ 0 → l ≡ []
none [] e = refl
none (x ∷ l) e = absurd (omega arith)

-- what an accepted feeding does not release stays
rest_stays : (t : Stream) (piece out o : List ℕ) → o ≡ output_after t piece out → length o ≡ length out
    → (feed t piece (length out)).answer ≡ 0
    → drop (feed t piece (length out)).released o ≡ drop (feed t piece (length out)).released out
unfolding feed output_after
rest_stays t piece out o e l z =
    let f : o ≡ (fed_by t piece).released ++ drop (due t (length piece)) out = rw z at e in
    let r : due t (length piece) ≤ length out = rw z at (released_fits (feed t piece (length out)) t piece (length out) refl) in
    let a : length (fed_by t piece).released ≡ due t (length piece) = omega (arith, l, simp (length-append, length-drop) at (ap length f)) in
    rw (z, f) (drop_at (fed_by t piece).released (drop (due t (length piece)) out) (due t (length piece)) a)

-- A call: its inputs, the sample, and the output as it was lent.
pub record Call : Type 0 where
  pub inputs : Inputs
  pub contents : List ℕ
  pub output : List ℕ

module _ (c : Call) where
  abbrev i : Inputs
  i = c.inputs

  abbrev xs : List ℕ
  xs = c.contents

  abbrev out₀ : List ℕ
  out₀ = c.output

  abbrev n : ℕ
  n = length xs

  abbrev q : Declared
  q = declared_by Open i n

  abbrev iv : List ℕ
  iv = iv_of i

  abbrev held : ℕ → ℕ
  held x = held_by q x

  -- the record after the bytes of some pieces, and the bytes released
  abbrev record_at : List ℕ → Stream
  record_at seen = at q iv seen

  abbrev released_at : List ℕ → List ℕ
  released_at seen = (fed q iv seen).released

  -- What a call says that isn't refused, and what holds of any: bytes are below 256, lengths fit 64 bits.
  pub record Accepted : Type 0 where
    pub bytes : OfBytes i
    pub started : (start Open i n).answer ≡ 0
    pub room : n ≤ length out₀
    pub output_fits : length out₀ < 2 ^ 64

  -- All but the rest was fed, and what that releases, d bytes, stands in front of the output.
  pub record Progress (out : List ℕ) (t : Stream) (rest : List ℕ) (d : ℕ) : Type 0 where
    pub call : Accepted
    pub seen : List ℕ
    pub whole : xs ≡ seen ++ rest
    pub stream : t ≡ record_at seen
    pub done : d ≡ length (released_at seen)
    pub output : out ≡ released_at seen ++ drop d out₀

  module _ (k : Accepted) where
    done_rows : answer (sample_rows i n) ≡ 0
    done_rows = accepts Open i n k.bytes k.started

    allowed : Rules q
    allowed = rules i n done_rows Open

    pub begin : Progress out₀ (start Open i n).stream xs 0
    begin =
        let z = none (released_at []) (omega (arith, at_sum q iv [])) in
        record {
          call = k;
          seen = [];
          whole = refl;
          stream = begun Open i n k.bytes k.started;
          done = sym (ap length z);
          output = rw z;
        }

    answer_is : answered i xs out₀ ≡ 0
    unfolding answered
    answer_is = rw (eq-eqb (answer (sample_rows i n)) 0 done_rows, le-ltb (length out₀) n k.room)

    all_released : released_at xs ++ drop (length (released_at xs)) out₀ ≡ output i xs out₀
    unfolding output
    all_released = rw (all_of_it Open i n k.bytes k.started xs refl, length-after i Open xs, answer_is)

    end_answer : (end (record_at xs)).answer ≡ 0
    unfolding make reply_at ending
    end_answer =
        ap (λ (y : Reply). y.answer) (moves q iv xs allowed (omega arith) Ending).reply ∙ rw (eq-eqb n n refl)

  module _ {out : List ℕ} {t : Stream} {rest : List ℕ} {d : ℕ} (g : Progress out t rest d) where
    abbrev seen : List ℕ
    seen = g.seen

    within : length seen + length rest ≡ n
    within = sym (ap length g.whole ∙ length-append seen rest)

    -- what is released is no more than was fed, and that fits
    pub room : d ≤ length out₀
    room = omega (arith, at_sum q iv seen, g.done, within, g.call.room)

    -- nor is it more than was fed
    pub released_within : d ≤ t.progress.position
    released_within =
        omega (arith, at_sum q iv seen, g.done, ap (λ (t : Stream). t.progress.position) g.stream ∙ position_at q iv seen)

    -- the output keeps its length
    pub length_out : length out ≡ length out₀
    length_out = ap length g.output ∙ simp (length-append, length-drop) (omega (arith, g.done, room))

    -- ---- One piece more.

    module _ (piece left : List ℕ) (split : rest ≡ piece ++ left) where
      abbrev lent : List ℕ
      lent = take (length out - d) (drop d out)

      lent_is : lent ≡ drop d out₀
      lent_is =
          let a : drop d out ≡ drop d out₀ = ap (drop d) g.output ∙ drop_at (released_at seen) (drop d out₀) d (sym g.done) in
          rw a (take_all (length out - d) (drop d out₀) (simp length-drop (omega (arith, length_out))))

      room_is : length lent ≡ length out₀ - d
      room_is = rw lent_is (simp length-drop)

      piece_within : length seen + length piece ≤ n
      piece_within = omega (arith, within, ap length split, length-append piece left)

      whole_next : xs ≡ (seen ++ piece) ++ left
      whole_next = g.whole ∙ ap (λ (y : List ℕ). seen ++ y) split ∙ sym (append_assoc seen piece left)

      move : Moves q iv seen (Feeding piece lent)
      move = moves q iv seen (allowed g.call) (omega (arith, piece_within)) (Feeding piece lent)

      -- there is room for what the piece makes due
      due_fits : due_at held (length seen) (length piece) ≤ length out₀ - d
      unfolding due_at count_at
      due_fits = omega (arith, at_sum q iv seen, piece_within, g.done, g.call.room)

      accepted : (feeding held n (length seen) (length piece) (length lent)).answer ≡ 0
      unfolding feeding
      accepted =
          rw (
            room_is,
            le-ltb n (length seen + length piece) piece_within,
            le-ltb (length out₀ - d) (due_at held (length seen) (length piece)) due_fits,
          )

      pub answer_done : (feed t piece (length lent)).answer ≡ 0
      unfolding make reply_at
      answer_done = rw g.stream (ap (λ (y : Reply). y.answer) move.reply ∙ accepted)

      stream_next : (feed t piece (length lent)).stream ≡ record_at (seen ++ piece)
      unfolding make piece_at
      stream_next = ap (λ (t : Stream). (feed t piece (length lent)).stream) g.stream ∙ rw accepted at move.stream

      module _ (o : List ℕ) (eo : o ≡ output_after t piece lent) (lo : length o ≡ length lent) where
        released-next : released_at seen ++ take (feed t piece (length lent)).released o ≡ released_at (seen ++ piece)
        unfolding make piece_at
        released-next =
            rw eo
            (ap (λ (t : Stream). released_at seen ++ take (feed t piece (length lent)).released (output_after t piece lent)) g.stream
            ∙ rw accepted at move.released)

        rest_next : drop (feed t piece (length lent)).released o ≡ drop (d + (feed t piece (length lent)).released) out₀
        rest_next =
            rest_stays t piece lent o eo lo answer_done ∙ ap (drop (feed t piece (length lent)).released) lent_is
            ∙ drop-drop (feed t piece (length lent)).released d out₀

        done_next : d + (feed t piece (length lent)).released ≡ length (released_at (seen ++ piece))
        done_next =
            let f = released_fits (feed t piece (length lent)) t piece (length lent) refl in
            let a = length-take-le (feed t piece (length lent)).released o (omega arith) in
            sym (ap length (sym released-next) ∙ length-append (released_at seen) (take (feed t piece (length lent)).released o) ∙ rw (a, ← g.done))

        -- the output after it: what was there before the lent part, and the lent part
        pub further : (after : List ℕ) → after ≡ take d out ++ o
            → Progress after (feed t piece (length lent)).stream left (d + (feed t piece (length lent)).released)
        further after ea =
            let r = (feed t piece (length lent)).released in
            let b : take d out ≡ released_at seen = ap (take d) g.output ∙ take_at (released_at seen) (drop d out₀) d (sym g.done) in
            let c : o ≡ take r o ++ drop (d + r) out₀ = sym (take-append-drop r o) ∙ ap (λ (y : List ℕ). take r o ++ y) rest_next in
            record {
              call = g.call;
              seen = seen ++ piece;
              whole = whole_next;
              stream = stream_next;
              done = done_next;
              output = ea ∙ rw b (ap (λ (y : List ℕ). released_at seen ++ y) c ∙ sym (append_assoc (released_at seen) (take r o) (drop (d + r) out₀)) ∙ ap (λ (y : List ℕ). y ++ drop (d + r) out₀) released-next);
            }

    -- ---- The end.

    pub ended : length rest ≡ 0 → ((end t).answer ≡ answered i xs out₀) × (out ≡ output i xs out₀)
    ended l =
        let q : seen ≡ xs = sym (rw (none rest l, append-nil) at g.whole) in (
          ap (λ (y : Stream). (end y).answer) g.stream ∙ rw q (end_answer g.call) ∙ sym (answer_is g.call),
          g.output ∙ rw (g.done, q) (all_released g.call),
        )

-- ---- Refused: the start, or an output that is too short.

module _ (i : Inputs) (xs out : List ℕ) where
  refused-answer : (k : ℕ) → answered i xs out ≡ k → (k ≡ 0 → ⊥)
      → (k ≡ answered i xs out) × (out ≡ output i xs out)
  unfolding output
  refused-answer k e z = (sym e, rw (e, ne_eqb k 0 z))

  module _ (b : Started) (e : b ≡ start Open i (length xs)) where
    pub start-refused : (b.answer ≡ 0 → ⊥)
        → (b.answer ≡ answered i xs out) × (out ≡ output i xs out)
    unfolding start answered
    start-refused z =
        refused-answer b.answer (rw (e, ne_eqb (answer (sample_rows i (length xs))) 0 (λ k. z (rw e k)))) z

    pub output_short : b.answer ≡ 0 → length out < length xs
        → (15 ≡ answered i xs out) × (out ≡ output i xs out)
    unfolding start answered
    output_short z l =
        let q : answer (sample_rows i (length xs)) ≡ 0 = rw e at z in
        refused-answer 15 (rw (eq-eqb _ 0 q, lt-ltb (length out) (length xs) l)) (λ k. absurd (omega (arith, k)))
