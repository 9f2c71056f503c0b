use Rattle.std.proofs.Common.{arith}
use Rattle.std.proofs.lemmas.Grind.{common_steps}
use Rattle.octets.specs.Answers.{answer}
use Rattle.subsample_spec.specs.Auxiliary.{map_rows, map_read, auxiliary_rows, handed_out, read_under}
use Rattle.subsample_spec.proofs.Tables.{size_iv}
use Rattle.subsample.proofs.read_under.Goals as goal

pub returns-then-count-gt-LIMIT : goal.returns-then-count-gt-LIMIT
unfolding read_under handed_out auxiliary_rows map_rows map_read answer
returns-then-count-gt-LIMIT c = grind (arith, common_steps)

pub read_iv-requires : goal.read_iv-requires
read_iv-requires c = grind (arith, size_iv)
