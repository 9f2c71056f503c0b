use mathlib.Core.Path.{sym}
use borrow.Author.Tests.{eq-eqb, ne_eqb}
use Rattle.scheme.specs.Part.{held_under, entries_of}
use Rattle.scheme.proofs.Unprotected.{held_clear}
use Rattle.layout.proofs.held_at.Goals as goal

pub returns-then-parameters-ne1 : goal.returns-then-parameters-ne1
unfolding held_under entries_of
returns-then-parameters-ne1 c = rw (ne_eqb c.args.parameters.protected 1 c.if-parameters-ne1.true) (sym (held_clear _ _ _ _))

pub returns : goal.returns
unfolding held_under entries_of
returns c =
    rw (eq-eqb c.args.parameters.protected 1 c.if-parameters-ne1.false, sym c.of.ensures, sym c.of-2.ensures) c.held_in.ensures
