use mathlib.Core.Bool.{◌&&◌}
use lib.Dec.{eqb}
use borrow.Author.Tests.{ne_eqb}
use Rattle.std.proofs.Common.{arith, ◌∙◌}
use Rattle.subsample_spec.specs.declared.Entry.{Entry}
use Rattle.subsample_spec.proofs.Counting.{some_used}
use Rattle.subsample_map.proofs.bad_entry.Goals as goal

pub returns-then-length-ne0 : goal.returns-then-length-ne0
returns-then-length-ne0 c =
    rw (ne_eqb c.args.«length» 0 (omega (arith, c.if-length-ne0.true)))
    (c.some_empty.ensures
    ∙ some_used c.args.map.now c.used.result.now c.used.ensures.first c.used.ensures.size c.requires (λ (e : Entry). eqb e.clear 0 && eqb e.protected 0))
