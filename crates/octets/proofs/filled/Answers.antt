use Rattle.std.proofs.Common.{◌++◌, drop, replicate, ap, ◌∙◌}
use Rattle.octets.proofs.Fill.{fill-zeros}
use Rattle.octets.proofs.filled.Goals as goal

pub returns : goal.returns
returns g c = ap (λ l. l ++ drop c.min-n.result (replicate g.row.N 0)) c.copy_from_slice.ensures.after ∙ fill-zeros _ _ _ c.min-n.ensures
