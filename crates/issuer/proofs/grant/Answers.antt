use mathlib.Core.Path.{sym, ◌∙◌}
use Rattle.issuer_spec.proofs.Granting.{advance-some, count-some}
use Rattle.issuer.proofs.grant.Goals as goal

pub overflow_sub-past : goal.overflow_sub-past
overflow_sub-past c = rw c.advance-past.ensures (advance-some _ _ (count-some _ (sym c.bad_count.ensures ∙ c.if-bad_count.false)))
