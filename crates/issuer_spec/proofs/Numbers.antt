-- The number that the start and the grant answer is the one that document 02 says.
use mathlib.Core.Path.{refl}
use Rattle.octets.specs.Answers.{answer}
use Rattle.octets.specs.Cases.{all_made, all_said, Hold}
use Rattle.issuer_spec.specs.Issuer.{start_rows, start, advance, last_counter, grant_rows, grant}
use Rattle.issuer_spec.specs.Numbers.{numbers}

pub numbers_hold : Hold numbers
unfolding all_made all_said numbers answer start_rows start advance last_counter grant_rows grant
numbers_hold = refl
