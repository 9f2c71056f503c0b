use Rattle.std.proofs.Common.{ap, ◌∙◌}
use Rattle.std.specs.Int.{w32, from_be_bytes}
use Rattle.octets.proofs.BigEndian.{be-4}
use Rattle.numbers.proofs.be32.Goals as goal

pub returns : goal.returns
returns c = c.from_be_bytes.ensures ∙ ap (from_be_bytes w32) c.filled_at.ensures ∙ be-4 _ _
