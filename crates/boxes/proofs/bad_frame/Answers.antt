use mathlib.Core.Path.{◌≡◌, refl, sym, ◌∙◌}
use lib.ListN.{length}
use borrow.Author.Tests.{le-ltb, ltb-false}
use Rattle.boxes.specs.Box.{bad_frame}
use Rattle.boxes.proofs.Frame.{type_compared}
use Rattle.boxes.proofs.bad_frame.Goals.{then-slice-least, else-slice-least}
use borrow.Author.Rules.{rules}
use native.Mathlib.Omega.{arith}
use Rattle.boxes.proofs.bad_frame.Goals as goal

pub returns-else-be32-slice : goal.returns-else-be32-slice
unfolding bad_frame
returns-else-be32-slice c =
    let n : length c.args.kind ≡ 4 = search rules in
    elim c.if-slice-least.branch [
      | then-slice-least w ↦
          absurd (omega (arith, w.if-slice-least.true, ltb-false _ _ (sym w.value-is ∙ c.if-be32-slice.false)))
      | else-slice-least w ↦
          rw (
            le-ltb _ _ w.if-slice-least.false,
            ← w.be32.ensures,
            sym w.value-is ∙ c.if-be32-slice.false,
            ← type_compared c.args.least c.args.kind c.args.slice.now n c.get.result _ c.get.ensures.lookup refl,
          )
          c.ne.ensures
    ]
