use Rattle.std.proofs.Common.{sym, arith}
use Rattle.octets.proofs.Bytes.{filled-short}
use lib.ListN.{drop_of_length-le}
use Rattle.octets.proofs.filled_at.Goals as goal

pub returns-then-s-at : goal.returns-then-s-at
returns-then-s-at g c = rw (drop_of_length-le _ c.if-s-at.true) (sym (filled-short _ _ (omega arith)))
