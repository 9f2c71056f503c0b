use borrow.Author.Tests.{eq-eqb, ne_eqb}
use Rattle.scheme.specs.Part.{protected_entries}
use Rattle.layout.proofs.locate.Goals as goal

pub returns-then-map-eq0 : goal.returns-then-map-eq0
unfolding protected_entries
returns-then-map-eq0 c = rw (eq-eqb c.args.map.count 0 c.if-map-eq0.true) c.locate_range.ensures

pub returns : goal.returns
unfolding protected_entries
returns c = rw (ne_eqb c.args.map.count 0 c.if-map-eq0.false) (rw c.used.ensures.first at c.locate_entry.ensures)
