use Rattle.scheme.proofs.Runs.{run_cenc}
use Rattle.part.proofs.runs.run_at.Goals as goal

pub returns-in-Cenc : goal.returns-in-Cenc
returns-in-Cenc c = rw c.in-Cenc.is (run_cenc _ _ _ c.requires.0)

pub returns-in-Cbc1 : goal.returns-in-Cbc1
returns-in-Cbc1 c = rw c.in-Cbc1.is (c.whole_run.ensures _)
