use Rattle.std.proofs.Common.{ap, ◌∙◌}
use Rattle.std.specs.Int.{w16, from_be_bytes}
use Rattle.octets.proofs.BigEndian.{be-2}
use Rattle.numbers.proofs.be16.Goals as goal

pub returns : goal.returns
returns c = c.from_be_bytes.ensures ∙ ap (from_be_bytes w16) c.filled_at.ensures ∙ be-2 _ _
