use Rattle.std.proofs.Common.{ap, ◌∙◌}
use Rattle.std.specs.Int.{w64, from_be_bytes}
use Rattle.octets.proofs.BigEndian.{be-8}
use Rattle.numbers.proofs.be64.Goals as goal

pub returns : goal.returns
returns c = c.from_be_bytes.ensures ∙ ap (from_be_bytes w64) c.filled_at.ensures ∙ be-8 _ _
