-- A sample in pieces under 0:0 gets the replies and the bytes that it gets under 1:0.
use mathlib.Core.Bool.{Bool, true, false, cond, not, ◌&&◌}
use mathlib.Core.List.{List, [], ◌∷◌}
use mathlib.Core.Path.{◌≡◌, refl, ap, ap₂}
use Prim.Native.Nat.{ℕ}
use lib.Dec.{eqb}
use lib.ListN.{length}
use borrow.Author.Tests.{eqb-true}
use Rattle.octets.specs.Answers.{answer}
use Rattle.modes_spec.specs.declared.Direction.{Direction}
use Rattle.track_spec.specs.declared.Parameters.{Parameters}
use Rattle.scheme.specs.Machine.{State}
use Rattle.scheme.proofs.SamePattern.{held_same, fed_same}
use Rattle.sample_spec.specs.Sample.{Inputs, parameters_of, key_of, map_of, iv_of, sample_rows}
use Rattle.sample_spec.specs.WholeBlocks.{one_to_zero, under_one_to_zero, WholeBlocks}
use Rattle.sample_spec.proofs.WholeBlocks.{one_to_zero_checked, one_to_zero_parameters, same_key, same_map, same_iv, same_blocks, as_one_to_zero_holds}
use Rattle.stream_spec.specs.declared.Declared.{Declared}
use Rattle.stream_spec.specs.declared.Progress.{Progress}
use Rattle.stream_spec.specs.declared.Stream.{Stream}
use Rattle.stream_spec.specs.Stream.{held_by, sound_declared, begun, begun_with, idle, declared_by, start, state_of, progress_of, feed_rows, machine, fed_by, after_piece, feed, output_after}
use Rattle.stream_spec.specs.Demand3.{Call, Feeding, Ending, Reply, reply, make, run, replies}
use Rattle.stream_spec.specs.WholeBlocks.{outputs, PiecesAsOneToZero}
use Rattle.stream_spec.proofs.Accepted.{rules}
use Rattle.stream_spec.proofs.SameRules.{SameRules, same_due, same_rows, same-reply, same_end}

-- ---- Two declared samples that keep the same rules, hold the same bytes and are fed alike.

pub record SameDeclared (q r : Declared) : Type 0 where
  pub rules : sound_declared q ≡ sound_declared r
  pub length : q.length ≡ r.length
  pub held : (x : ℕ) → held_by q x ≡ held_by r x
  pub fed : (s : State) (xs : List ℕ) → machine q s xs ≡ machine r s xs

abbrev at : Declared → Progress → Stream
at q g = record { declared = q; progress = g }

-- the progress after a piece, with some room
abbrev next : Declared → Progress → List ℕ → ℕ → Progress
next q g piece room =
    cond (eqb (answer (feed_rows (at q g) (length piece) room)) 0 && not (eqb (length piece) 0)) (progress_of (fed_by (at q g) piece).state) g

next_is : (q : Declared) (g : Progress) (piece : List ℕ) (room : ℕ) → (feed (at q g) piece room).stream ≡ at q (next q g piece room)
unfolding feed
next_is q g piece room = go (eqb (answer (feed_rows (at q g) (length piece) room)) 0 && not (eqb (length piece) 0))
  where
    go : (b : Bool) → cond b (after_piece (at q g) piece) (at q g) ≡ at q (cond b (progress_of (fed_by (at q g) piece).state) g)
    go true = refl
    go false = refl

module _ (q r : Declared) (s : SameDeclared q r) where
  module _ (g : Progress) where
    same_rules : SameRules (at q g) (at r g)
    same_rules = record { rules = s.rules; length = s.length; held = s.held; position = refl; held_count = refl }

    module _ (piece : List ℕ) where
      same_next : (room : ℕ) → next q g piece room ≡ next r g piece room
      same_next room = rw (same_rows same_rules (length piece) room, s.fed (state_of g) piece)

      same_output : (out : List ℕ) → output_after (at q g) piece out ≡ output_after (at r g) piece out
      unfolding output_after
      same_output out =
          rw (same_rows same_rules (length piece) (length out), same_due same_rules (length piece), s.fed (state_of g) piece)

  pub same_run : (g : Progress) (cs : List Call)
      → (replies (run (at q g) cs) ≡ replies (run (at r g) cs)) × (outputs (run (at q g) cs) ≡ outputs (run (at r g) cs))
  unfolding run replies outputs make
  same_run g [] = (refl, refl)
  same_run g (Feeding piece out ∷ cs) =
      let room = length out in
      let h = same_run (next r g piece room) cs in (
        ap₂ (λ (y : Reply) (ys : List Reply). y ∷ ys) (same-reply (same_rules g) piece piece room room refl refl)
            (rw (next_is q g piece room, next_is r g piece room, same_next g piece room) h.0),
        ap₂ (λ (y : List ℕ) (ys : List (List ℕ)). y ∷ ys) (same_output g piece out)
            (rw (next_is q g piece room, next_is r g piece room, same_next g piece room) h.1),
      )
  same_run g (Ending ∷ cs) =
      let h = same_run g cs in (
        ap₂ (λ (y : Reply) (ys : List Reply). y ∷ ys) (ap (λ (n : ℕ). reply n 0) (same_end (same_rules g))) h.0,
        ap (λ (ys : List (List ℕ)). [] ∷ ys) h.1,
      )

-- ---- Such are what a start with 0:0 and one with 1:0 declare.

module _ (d : Direction) (i : Inputs) (n : ℕ) (w : WholeBlocks i) where
  abbrev p : Parameters
  p = parameters_of i

  abbrev j : Inputs
  j = under_one_to_zero i

  abbrev other : Declared
  other = record { direction = d; parameters = one_to_zero p; length = n; map = map_of i; key = record { 0 = key_of i } }

  other_is : declared_by d j n ≡ other
  other_is = rw (one_to_zero_parameters i w, same_map i w, same_key i w)

  same_declared : answer (sample_rows i n) ≡ 0 → SameDeclared (declared_by d i n) other
  unfolding sound_declared machine
  same_declared h =
      record {
        rules = rw ((rules i n h d).parameters, one_to_zero_checked i w);
        length = refl;
        held = λ x. held_same p (one_to_zero p) refl refl (same_blocks i w) (map_of i) n x;
        fed = λ t xs. fed_same p (one_to_zero p) refl refl (same_blocks i w) refl _ _ d (map_of i) n t xs;
      }

  module _ (calls : List Call) where
    abbrev Same : Stream → Stream → Type 0
    Same t u = (replies (run t calls) ≡ replies (run u calls)) × (outputs (run t calls) ≡ outputs (run u calls))

    same_answer : answer (sample_rows i n) ≡ answer (sample_rows j n)
    same_answer = (as_one_to_zero_holds i w).answer n

    same-started : Same (start d i n).stream (start d j n).stream
    unfolding start
    same-started = rw (← same_answer, other_is, same_iv i w) (go (eqb (answer (sample_rows i n)) 0) refl)
      where
        go : (b : Bool) → eqb (answer (sample_rows i n)) 0 ≡ b
            → Same (cond b (begun_with (declared_by d i n) (iv_of i)) idle) (cond b (begun_with other (iv_of i)) idle)
        go true e = same_run (declared_by d i n) other (same_declared (eqb-true _ _ e)) (begun (iv_of i)) calls
        go false e = (refl, refl)

    pub pieces_as_one_to_zero : PiecesAsOneToZero d i n calls
    unfolding start
    pieces_as_one_to_zero = record { answer = same_answer; replies = same-started.0; outputs = same-started.1 }
