use mathlib.Core.Path.{sym, ◌∙◌}
use Rattle.scheme.proofs.Locating.{held_none, held_some}
use Rattle.layout.proofs.held_in.Goals as goal

pub returns-in-Counter : goal.returns-in-Counter
returns-in-Counter c = held_none _ _ c.args.scheme _ (sym c.mode.ensures ∙ c.in-Counter.is)

pub returns-in-Chain : goal.returns-in-Chain
returns-in-Chain c = c.used_at.ensures ∙ held_some _ _ c.args.scheme _ (sym c.mode.ensures ∙ c.in-Chain.is)
