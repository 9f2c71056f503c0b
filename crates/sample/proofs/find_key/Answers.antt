use Rattle.std.proofs.Common.{arith}
use Rattle.std.proofs.lemmas.Grind.{common_steps}
use Rattle.octets.specs.Answers.{answer}
use Rattle.octets.proofs.Equal.{eq-same}
use Rattle.sample_spec.specs.Sample.{key_rows, key_in, find_key}
use Rattle.sample.proofs.find_key.Goals as goal

pub returns-then-ne : goal.returns-then-ne
unfolding find_key key_rows key_in answer
returns-then-ne c = grind (arith, common_steps, eq-same)

pub returns : goal.returns
unfolding find_key key_rows key_in answer
returns c = grind (arith, common_steps, eq-same)
