use Rattle.scheme.proofs.Runs.{run_whole, run_last1}
use Rattle.part.proofs.runs.whole_run.Goals as goal

pub returns-then-o-whole : goal.returns-then-o-whole
returns-then-o-whole c = λ pattern. run_whole pattern _ _ c.if-o-whole.true

pub returns-else-o-whole : goal.returns-else-o-whole
returns-else-o-whole c = λ pattern. run_last1 pattern _ _ c.requires c.if-o-whole.false
