use Rattle.std.proofs.Common.{◌≡◌, refl, ◌∙◌, rules, arith, Err}
use Rattle.refusals.proofs.Numbers.{number_positive}
use Rattle.sample_spec.specs.Sample.{lent, OfBytes}
use Rattle.sample_spec.proofs.Accepted.{inputs-answer, after-refused, after_done}
use Rattle.sample.proofs.process.Goals as goal

pub returns-in_err-read-clause-answer : goal.returns-in_err-read-clause-answer
returns-in_err-read-clause-answer c =
    let e : c.from_residual.result ≡ Err c.in_err-read.field-0.0 = search rules in
    rw e (inputs-answer (lent c.args.inputs) c.args.sample.now _ c.in_err-read.ensures)

pub returns-in_err-read-clause-output : goal.returns-in_err-read-clause-output
returns-in_err-read-clause-output c =
    after-refused (lent c.args.inputs) c.args.sample.now _ c.in_err-read.ensures c.args.direction
    (λ z. omega (arith, z, number_positive c.in_err-read.field-0.0))

pub returns-clause-answer : goal.returns-clause-answer
returns-clause-answer c = inputs-answer (lent c.args.inputs) c.args.sample.now _ c.in_ok-read.ensures

pub returns-clause-output : goal.returns-clause-output
returns-clause-output c =
    let of_bytes : OfBytes (lent c.args.inputs) = record { box = c.known_bytes.ensures; auxiliary = c.known_bytes-2.ensures } in
    c.transform.ensures ∙ after_done (lent c.args.inputs) c.args.sample.now _ c.in_ok-read.ensures c.args.direction refl of_bytes
