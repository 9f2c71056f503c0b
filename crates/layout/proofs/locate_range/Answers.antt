use Rattle.scheme.proofs.Locating.{locate_inside, locate_past}
use Rattle.layout.proofs.locate_range.Goals as goal

pub returns-then-x-length : goal.returns-then-x-length
returns-then-x-length c = locate_inside _ _ c.if-x-length.true

pub returns-else-x-length : goal.returns-else-x-length
returns-else-x-length c = locate_past _ _ c.if-x-length.false
