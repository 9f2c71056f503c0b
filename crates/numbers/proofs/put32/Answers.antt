use Rattle.std.proofs.Common.{ap, ◌∙◌}
use Rattle.octets.specs.Bytes.{placed}
use Rattle.octets.proofs.BigEndian.{to_be-4}
use Rattle.numbers.proofs.put32.Goals as goal

pub returns : goal.returns
returns c = c.copy.ensures ∙ ap (placed _ _) (c.to_be_bytes.ensures ∙ to_be-4 _ c.ranges.n.fits)
