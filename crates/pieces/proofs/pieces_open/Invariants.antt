use Rattle.sample_spec.specs.Sample.{inputs}
use Rattle.pieces.proofs.Progress.{Progress}
use Rattle.std.specs.Slice.Iter.{chunks_rest}
use Rattle.pieces.proofs.pieces_open.Given as goal

abbrev pub invariant-loop-piece : goal.invariant-loop-piece
invariant-loop-piece l =
    Progress (record { inputs = inputs l.scheme l.track_box l.auxiliary l.key_record; contents = l.«data»; output = l.initial.out }) l.out l.stream (chunks_rest l.piece-iterator) l.done
