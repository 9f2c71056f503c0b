use mathlib.Core.Path.{◌∙◌}
use native.Mathlib.Nat.{add-zero, zero-add}
use borrow.Author.Tests.{eq-eqb, ne_eqb}
use Rattle.scheme.specs.Layout.{total}
use Rattle.scheme.specs.Part.{protected_entries}
use Rattle.scheme.proofs.SampleParts.{total_by}
use Rattle.layout.proofs.total_length.Goals as goal

pub returns-then-map-eq0 : goal.returns-then-map-eq0
unfolding protected_entries total
returns-then-map-eq0 c = rw (eq-eqb c.args.map.count 0 c.if-map-eq0.true, add-zero, zero-add)

pub returns : goal.returns
unfolding protected_entries
returns c =
    rw (ne_eqb c.args.map.count 0 c.if-map-eq0.false)
    (c.total.ensures ∙ total_by _)
