use Rattle.scheme.proofs.Locating.{Locating}
use Rattle.layout.proofs.locate_entry.Given as goal

abbrev pub invariant-loop-entry : goal.invariant-loop-entry
invariant-loop-entry l = Locating l.fn.entries l.x l.entry-index l.y l.before
