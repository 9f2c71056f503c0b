use Rattle.modes_spec.specs.Modes.{block_out, block_chain}
use Rattle.modes.proofs.chained.Goals as goal

pub returns-in-Lock : goal.returns-in-Lock
unfolding block_out block_chain
returns-in-Lock c = (cc, cc)

pub returns-in-Open : goal.returns-in-Open
unfolding block_out block_chain
returns-in-Open c = (cc, cc)
