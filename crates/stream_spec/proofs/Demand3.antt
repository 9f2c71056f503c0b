-- Demand 3, of every started stream and every list of calls.
use mathlib.Core.Bool.{Bool, true, false, cond, not, ◌&&◌, true≢false}
use mathlib.Core.List.{List, [], ◌∷◌, ◌++◌, append_assoc, append-nil}
use mathlib.Core.Path.{◌≡◌, refl, sym, ap, ap₂, ◌∙◌}
use Prim.Native.Nat.{ℕ, suc, ◌+◌, ◌-◌, ◌≤◌}
use native.Mathlib.Omega.{arith}
use lib.Dec.{eqb, ltb}
use lib.ListN.{length, take, drop, length-append}
use lib.Seq.{take_at, take-append_seam}
use borrow.Author.Tests.{eq-eqb, ne_eqb, eqb-true, ltb-false}
use Rattle.octets.specs.Answers.{answer}
use Rattle.octets.specs.Bytes.{filled}
use Rattle.aes.specs.Block.{round_keys, encipher, decipher, encipher_length, decipher_length}
use Rattle.modes_spec.specs.declared.Direction.{Direction}
use Rattle.modes_spec.specs.Modes.{Cipher}
use Rattle.scheme.specs.Layout.{total}
use Rattle.scheme.specs.Machine as sample
use Rattle.scheme.specs.Part.{entries_of, feed_under}
use Rattle.scheme.proofs.Under.{fed_released, fed_whole}
use Rattle.sample_spec.specs.Sample.{Inputs, OfBytes, parameters_of, key_of, map_of, iv_of, sample_rows, ciphered_by, sample_after}
use Rattle.sample_spec.proofs.Accepted.{accepted-length, begins}
use Rattle.stream_spec.specs.declared.Declared.{Declared}
use Rattle.stream_spec.specs.declared.Stream.{Stream}
use Rattle.stream_spec.specs.Stream.{held_by, declared_by, start, due, feed_rows, machine, fed_by, after_piece, feed, output_after, end_rows, end}
use Rattle.stream_spec.specs.Demand3.{Call, Feeding, Ending, lent, Reply, reply, count_at, due_at, feeding, ending, reply_at, piece_at, account, accepted, make, run, record_after, replies, released, Unchanged, held_from, pieces, Demand3}
use Rattle.stream_spec.proofs.Accepted.{rules}
use Rattle.stream_spec.proofs.Reached.{Rules, few, machine-sum, fed, at, at_position, at_held, fits_at, at_sum, position_at, length_at, at_sound, fed_by_lem, at_next, next-released}

-- an end's answer makes its reply
end_reply : (b : Bool) → reply (cond (not b) 16 0) 0 ≡ cond b (reply 0 0) (reply 16 0)
end_reply true = refl
end_reply false = refl

-- a feeding's answer and count make its reply
feeding-reply : (b c : Bool) (k : ℕ)
    → reply (cond b 14 (cond c 15 0)) (cond (eqb (cond b 14 (cond c 15 0)) 0) k 0)
    ≡ cond b (reply 14 0) (cond c (reply 15 0) (reply 0 k))
feeding-reply true c k = refl
feeding-reply false true k = refl
feeding-reply false false k = refl

-- From the record that the pieces a lead to.

module _ (q : Declared) (iv : List ℕ) where
  abbrev H : ℕ → ℕ
  H x = held_by q x

  abbrev n : ℕ
  n = q.length

  -- ---- One call more.

  module _ (a : List ℕ) where
    -- what is due at a piece is what the account says
    at_due : (k : ℕ) → due (at q iv a) k ≡ due_at H (length a) k
    unfolding due due_at count_at at
    at_due k =
        let e : H ((fed q iv a).state.position + k) ≡ H (length a + k) = rw (at_position q iv a) in
        omega (arith, e, at_held q iv a, at_sum q iv a)

    -- and so many bytes come out of the machine
    module _ (piece : List ℕ) where
      next-size : length (fed_by (at q iv a) piece).released ≡ due_at H (length a) (length piece)
      unfolding due_at count_at
      next-size =
          rw (fed_by_lem q iv a piece)
          (omega (
            arith,
            rw (at_position q iv a) at (machine-sum q (fed q iv a).state piece (fits_at q iv a)),
            at_sum q iv a,
            at_held q iv a,
          ))

    -- what a call does to the record, and what it reports and releases
    pub record Moves (c : Call) : Type 0 where
      pub reply : (make (at q iv a) c).reply ≡ reply_at H n (length a) c
      pub stream : (make (at q iv a) c).stream ≡ at q iv (a ++ piece_at H n (length a) c)
      pub released : (fed q iv a).released ++ take (make (at q iv a) c).reply.released (make (at q iv a) c).output
          ≡ (fed q iv (a ++ piece_at H n (length a) c)).released
      pub within : length (a ++ piece_at H n (length a) c) ≤ n

    module _ (r : Rules q) (l : length a ≤ n) where
      at_answer : (k room : ℕ)
          → answer (feed_rows (at q iv a) k room)
          ≡ cond (ltb n (length a + k)) 14 (cond (ltb room (due_at H (length a) k)) 15 0)
      unfolding feed_rows answer
      at_answer k room =
          let b : ltb (at q iv a).declared.length ((at q iv a).progress.position + k) ≡ ltb n (length a + k) =
          rw (length_at q iv a, position_at q iv a) in
          let c : ltb room (due (at q iv a) k) ≡ ltb room (due_at H (length a) k) = rw (at_due k) in
          rw (at_sound q iv a r l) (ap₂ (λ (b c : Bool). cond b 14 (cond c 15 0)) b c)

      module _ (piece out : List ℕ) where
        abbrev k : ℕ
        k = length piece

        abbrev room : ℕ
        room = length out

        abbrev N : ℕ
        N = answer (feed_rows (at q iv a) k room)

        fed_reply : reply N (cond (eqb N 0) (due (at q iv a) k) 0) ≡ feeding H n (length a) k room
        unfolding feeding
        fed_reply =
            rw (at_answer k room, at_due k)
            (feeding-reply (ltb n (length a + k)) (ltb room (due_at H (length a) k)) (due_at H (length a) k))

        by_answer : (feeding H n (length a) k room).answer ≡ N
        by_answer = sym (ap (λ (y : Reply). y.answer) fed_reply)

      next_stream : (piece : List ℕ) (w : Bool)
          → cond (w && not (eqb (length piece) 0)) (after_piece (at q iv a) piece) (at q iv a)
          ≡ at q iv (a ++ cond w piece [])
      next_stream piece false = ap (at q iv) (sym (append-nil a))
      next_stream [] true = ap (at q iv) (sym (append-nil a))
      next_stream (x ∷ piece) true = rw (ne_eqb (suc (length piece)) 0 (omega arith)) (at_next q iv a (x ∷ piece))

      next_bytes : (piece out : List ℕ) (w : Bool)
          → (fed q iv a).released
          ++ take (cond w (due (at q iv a) (length piece)) 0)
          (cond w ((fed_by (at q iv a) piece).released ++ drop (due (at q iv a) (length piece)) out) out)
          ≡ (fed q iv (a ++ cond w piece [])).released
      next_bytes piece out true =
          let v : ℕ = due_at H (length a) (length piece) in
          rw (at_due (length piece), take_at (fed_by (at q iv a) piece).released (drop v out) v (next-size piece)) (next-released q iv a piece)
      next_bytes piece out false = rw (append-nil, append-nil)

      next_within : (piece : List ℕ) (b c w : Bool) → ltb n (length a + length piece) ≡ b
          → eqb (cond b 14 (cond c 15 0)) 0 ≡ w → length (a ++ cond w piece []) ≤ n
      next_within piece b c false e f = rw append-nil l
      next_within piece true true true e f = absurd (true≢false (sym f))
      next_within piece true false true e f = absurd (true≢false (sym f))
      next_within piece false c true e f = simp length-append (omega (arith, ltb-false n (length a + length piece) e))

      moves_fed : (piece out : List ℕ) → Moves (Feeding piece out)
      unfolding make feed output_after reply_at piece_at
      moves_fed piece out =
          record {
            reply = fed_reply piece out;
            stream = rw (by_answer piece out) (next_stream piece (eqb (N piece out) 0));
            released = rw (by_answer piece out) (next_bytes piece out (eqb (N piece out) 0));
            within = rw (by_answer piece out, at_answer (length piece) (length out))
                (next_within piece (ltb n (length a + length piece))
                (ltb (length out) (due_at H (length a) (length piece))) _ refl refl);
          }

      moves_end : Moves Ending
      unfolding make end end_rows reply_at piece_at ending answer
      moves_end =
          record {
            reply = rw (at_sound q iv a r l, length_at q iv a, position_at q iv a) (end_reply (eqb (length a) n));
            stream = ap (at q iv) (sym (append-nil a));
            released = rw (append-nil, append-nil);
            within = rw append-nil l;
          }

      pub moves : (c : Call) → Moves c
      moves (Feeding piece out) = moves_fed piece out
      moves Ending = moves_end

  -- ---- A list of calls.

  record Runs (a : List ℕ) (calls : List Call) : Type 0 where
    replies : replies (run (at q iv a) calls) ≡ account H n (length a) calls
    last : record_after (at q iv a) calls ≡ at q iv (a ++ accepted H n (length a) calls)
    released : (fed q iv a).released ++ released (run (at q iv a) calls) ≡ (fed q iv (a ++ accepted H n (length a) calls)).released
    within : length (a ++ accepted H n (length a) calls) ≤ n

  module _ (r : Rules q) where
    runs_none : (a : List ℕ) → length a ≤ n → Runs a []
    unfolding run record_after replies released account accepted
    runs_none a l =
        record { replies = refl; last = rw append-nil; released = rw (append-nil, append-nil); within = rw append-nil l }

    runs_more : (c : Call) (cs : List Call) (a : List ℕ) → Moves a c → Runs (a ++ piece_at H n (length a) c) cs → Runs a (c ∷ cs)
    unfolding run record_after replies released account accepted
    runs_more c cs a s t =
        let p : List ℕ = piece_at H n (length a) c in
        let u : List ℕ = take (make (at q iv a) c).reply.released (make (at q iv a) c).output in
        let e : length (a ++ p) ≡ length a + length p = length-append a p in
        let w : a ++ (p ++ accepted H n (length a + length p) cs) ≡ (a ++ p) ++ accepted H n (length (a ++ p)) cs =
        rw e (sym (append_assoc a p (accepted H n (length a + length p) cs))) in
        record {
          replies = rw (s.stream, ← e) (ap₂ (λ (y : Reply) (ys : List Reply). y ∷ ys) s.reply t.replies);
          last = rw (s.stream, w) t.last;
          released = rw (s.stream, w)
              (sym (append_assoc (fed q iv a).released u (released (run (at q iv (a ++ p)) cs)))
              ∙ ap (λ (y : List ℕ). y ++ released (run (at q iv (a ++ p)) cs)) s.released ∙ t.released);
          within = rw w t.within;
        }

    runs : (calls : List Call) (a : List ℕ) → length a ≤ n → Runs a calls
    runs [] a l = runs_none a l
    runs (c ∷ cs) a l =
        let s = moves a r l c in
        runs_more c cs a s (runs cs (a ++ piece_at H n (length a) c) s.within)

-- ---- A refused call.

module _ (t : Stream) where
  unchanged_fed : (piece out : List ℕ)
      → ((make t (Feeding piece out)).reply.answer ≡ 0 → ⊥) → Unchanged t (Feeding piece out)
  unfolding make feed output_after lent
  unchanged_fed piece out h =
      let e : eqb (answer (feed_rows t (length piece) (length out))) 0 ≡ false =
      ne_eqb (answer (feed_rows t (length piece) (length out))) 0 h in
      record { stream = rw e; output = rw e; none = rw e }

  unchanged : (c : Call) → ((make t c).reply.answer ≡ 0 → ⊥) → Unchanged t c
  unfolding make lent
  unchanged (Feeding piece out) h = unchanged_fed piece out h
  unchanged Ending h = record { stream = refl; output = refl; none = refl }

-- ---- From a start.

module _ (d : Direction) (i : Inputs) (n : ℕ) (ok : OfBytes i) (h : (start d i n).answer ≡ 0) where
  abbrev q : Declared
  q = declared_by d i n

  abbrev iv : List ℕ
  iv = iv_of i

  abbrev E : Cipher
  E = encipher (round_keys (key_of i))

  abbrev D : Cipher
  D = decipher (round_keys (key_of i))

  pub accepts : answer (sample_rows i n) ≡ 0
  unfolding start
  accepts = h

  -- the record of the start is the one after no pieces
  pub begun : (start d i n).stream ≡ at q iv []
  unfolding start at filled machine feed_under sample.feed_sample sample.feed
  begun = rw (eq-eqb (answer (sample_rows i n)) 0 accepts)

  fed_none : (fed q iv []).released ≡ []
  unfolding machine feed_under sample.feed_sample sample.feed
  fed_none = refl

  module _ (xs : List ℕ) (l : length xs ≡ n) where
    whole_is : sample_after d i xs ≡ ciphered_by d i xs
    unfolding sample_after
    whole_is = rw (l, eq-eqb (answer (sample_rows i n)) 0 accepts)

    adds_up : length xs ≡ total (entries_of (parameters_of i) (map_of i) (length xs))
    adds_up = rw l (sym (accepted-length i n accepts))

    -- what the pieces a of a sample release is the beginning of what the whole-sample call makes of it
    begins_with : (a rest : List ℕ) → xs ≡ a ++ rest
        → (fed q iv a).released ≡ take (length a - held_from i n (length a)) (sample_after d i xs)
    unfolding machine ciphered_by
    begins_with a rest e =
        let t : take (length a) xs ≡ a = ap (take (length a)) e ∙ take-append_seam a rest in
        let u : length a ≤ length xs = omega (arith, ap length e, length-append a rest) in
        rw whole_is
        (rw (t, l) at
        (fed_released E D (λ b k. encipher_length _ b) (λ b k. decipher_length _ b) d (parameters_of i) (map_of i) iv
        (begins i n accepts ok) xs adds_up (length a) u))

    -- all of it releases all of that
    pub all_of_it : (fed q iv xs).released ≡ sample_after d i xs
    unfolding machine ciphered_by
    all_of_it =
        rw whole_is
        (rw l at
        (fed_whole E D (λ b k. encipher_length _ b) (λ b k. decipher_length _ b) d (parameters_of i) (map_of i) iv
        (begins i n accepts ok) xs adds_up))

  -- ---- And any list of calls.

  module _ (calls : List Call) where
    abbrev a : List ℕ
    a = pieces i n calls

    abbrev x : ℕ
    x = length a

    ran : Runs q iv [] calls
    ran = runs q iv (rules i n accepts d) calls [] (omega arith)

    joined : released (run (start d i n).stream calls) ≡ (fed q iv a).released
    joined = rw begun (rw fed_none at ran.released)

    ended : (end (record_after (start d i n).stream calls)).answer ≡ (ending (held_from i n) n x).answer
    unfolding make reply_at
    ended =
        rw (begun, ran.last) (ap (λ (y : Reply). y.answer) (moves q iv a (rules i n accepts d) ran.within Ending).reply)

    end_at : (b : Bool) → eqb x n ≡ b → (ending (held_from i n) n x).answer ≡ 0 → x ≡ n
    unfolding ending
    end_at true e z = eqb-true x n e
    end_at false e z = absurd (omega (arith, rw e at z))

    end_zero : x ≡ n → (ending (held_from i n) n x).answer ≡ 0
    unfolding ending
    end_zero e = rw (eq-eqb x n e)

    end_only : (end (record_after (start d i n).stream calls)).answer ≡ 0 → x ≡ n
    end_only z = end_at (eqb x n) refl (sym ended ∙ z)

    counted : (record_after (start d i n).stream calls).progress.held_count ≡ held_from i n x
    unfolding at
    counted = rw (begun, ran.last) (at_held q iv a)

    holds : Demand3 d i n calls
    unfolding count_at
    holds =
        record {
          replies = rw begun ran.replies;
          bytes = λ xs rest e l. joined ∙ begins_with xs l a rest e;
          count = ap length joined ∙ omega (arith, at_sum q iv a);
          held_count = counted;
          held_within = omega (arith, at_sum q iv a);
          held_few = few q x;
          end_done = λ e. ended ∙ end_zero e;
          end_only = end_only;
          all = λ z. joined ∙ all_of_it a (end_only z);
          refused = unchanged;
        }

-- For every direction, all inputs and every declared length that a start accepts, and every list of calls.
pub demand3 : (d : Direction) (i : Inputs) (n : ℕ) → OfBytes i → (start d i n).answer ≡ 0 → (calls : List Call) → Demand3 d i n calls
demand3 = holds
