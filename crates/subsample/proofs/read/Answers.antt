use Rattle.std.proofs.Common.{◌≡◌, rules, arith, Err}
use Rattle.refusals.proofs.Numbers.{number_positive}
use Rattle.subsample_spec.proofs.Tables.{box_refused, box_accepted, box_answer}
use Rattle.subsample.proofs.read.Goals as goal

pub returns-in_err-parameters : goal.returns-in_err-parameters
returns-in_err-parameters c =
    let e : c.from_residual.result ≡ Err c.in_err-parameters.field-0.0 = search rules in
    rw e (grind (arith, box_refused, box_answer, number_positive))

pub returns : goal.returns
returns c = grind (arith, box_accepted, box_answer)
