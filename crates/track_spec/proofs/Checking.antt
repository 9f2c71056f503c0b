-- The rows of the reader and of the writer; the writer's answer is that of its parameters, and then 17.
use mathlib.Core.Bool.{true}
use mathlib.Core.List.{List}
use mathlib.Core.Path.{◌≡◌}
use Prim.Native.Nat.{ℕ, ◌≤◌, ◌<◌}
use native.Mathlib.Omega.{arith}
use lib.Dec.{lit<}
use borrow.Author.Tests.{not-false}
use Rattle.octets.specs.Answers.{answer}
use Rattle.octets.proofs.Answers.{Refusals, none, more, done_head, done_tail, room_refused, room_short, room_enough, size_fits}
use Rattle.track_spec.specs.declared.Parameters.{Parameters}
use Rattle.track_spec.specs.Track.{allowed, box_length, read_rows, parameter_rows, write_rows, write_box}

pub read_refusals : (code box : List ℕ) → Refusals (read_rows code box)
unfolding read_rows
read_refusals code box = more (lit< tt) (more (lit< tt) (more (lit< tt) (more (lit< tt) none)))

module _ (p : Parameters) where
  pub parameter_refusals : Refusals (parameter_rows p)
  parameter_refusals = more (lit< tt) (more (lit< tt) (more (lit< tt) none))

  pub check-allowed : answer (parameter_rows p) ≡ 0 → allowed p ≡ true
  check-allowed h = not-false _ (done_head 4 _ _ (omega arith) (done_tail 3 _ _ (omega arith) (done_tail 1 _ _ (omega arith) h)))

  module _ (room : ℕ) where
    abbrev long : ℕ
    long = box_length p.protected p.iv_size

    pub write_refused : (n : ℕ) → n ≡ answer (parameter_rows p) → (n ≡ 0 → ⊥) → answer (write_rows p room) ≡ n
    unfolding write_rows
    write_refused = room_refused parameter_refusals 17 room long (lit< tt)

    pub write_short : answer (parameter_rows p) ≡ 0 → room < long → answer (write_rows p room) ≡ 17
    unfolding write_rows
    write_short = room_short parameter_refusals 17 room long (lit< tt)

    pub write_done : answer (parameter_rows p) ≡ 0 → long ≤ room → answer (write_rows p room) ≡ 0
    unfolding write_rows
    write_done = room_enough parameter_refusals 17 room long (lit< tt)

    -- a box that is written fits the output
    pub written_fits : (write_box p room).length ≤ room
    unfolding write_box write_rows
    written_fits = size_fits parameter_refusals 17 room long (lit< tt)
