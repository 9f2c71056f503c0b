use Rattle.std.proofs.Common.{◌≡◌, refl, rules, arith, Err}
use Rattle.refusals.proofs.Numbers.{number_positive}
use Rattle.stream_spec.proofs.Starting.{start-refused, start-accepted}
use Rattle.stream.proofs.start.Goals as goal

pub returns-in_err-read : goal.returns-in_err-read
returns-in_err-read c =
    let e : c.from_residual.result ≡ Err c.in_err-read.field-0.0 = search rules in
    rw e (start-refused _ _ _ _ c.in_err-read.ensures (λ z. omega (arith, z, number_positive c.in_err-read.field-0.0)))

pub returns : goal.returns
returns c = rw c.begun.ensures (start-accepted _ _ _ _ c.in_ok-read.ensures refl)
