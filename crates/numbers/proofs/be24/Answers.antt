use Rattle.std.proofs.Common.{◌∙◌}
use Rattle.octets.proofs.BigEndian.{be-3}
use Rattle.numbers.proofs.be24.Goals as goal

pub returns : goal.returns
returns c = c.from_be_bytes.ensures ∙ be-3 _ _ _ c.filled_at.ensures
