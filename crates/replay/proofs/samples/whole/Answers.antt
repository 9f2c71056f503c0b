use Rattle.text.specs.Text.{bytes_of}
use Rattle.text.proofs.Pairs.{end_inside}
use Rattle.std.proofs.Common.{arith}
use Rattle.replay.proofs.samples.whole.Goals as goal

pub slice_bounds-sample-end : goal.slice_bounds-sample-end
slice_bounds-sample-end c =
    omega (arith, c.read_bytes-end.ensures.1, end_inside c.args.lent.now 0 (bytes_of c.word.result.now) (omega arith))
