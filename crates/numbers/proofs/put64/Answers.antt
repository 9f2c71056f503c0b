use Rattle.std.proofs.Common.{ap, ◌∙◌}
use Rattle.octets.specs.Bytes.{placed}
use Rattle.octets.proofs.BigEndian.{to_be-8}
use Rattle.numbers.proofs.put64.Goals as goal

pub returns : goal.returns
returns c = c.copy.ensures ∙ ap (placed _ _) (c.to_be_bytes.ensures ∙ to_be-8 _ c.ranges.n.fits)
