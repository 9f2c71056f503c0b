use Rattle.std.proofs.Common.{◌≡◌, ◌≢◌, refl, sym, rules, arith, Err}
use Rattle.refusals.specs.declared.Refusal.{Refusal}
use Rattle.refusals.specs.Refusals.{refusal_number}
use Rattle.refusals.proofs.Numbers.{number_positive}
use Rattle.sample_spec.specs.Sample.{lent}
use Rattle.sample_spec.proofs.Tables.{refused_box, refused_key, refused_data, read_done}
use Rattle.sample.proofs.read_inputs.Goals as goal

not_done : (r : Refusal) → refusal_number r ≢ 0
not_done r = λ z. omega (arith, z, number_positive r)

pub returns-in_err-parameters : goal.returns-in_err-parameters
returns-in_err-parameters c =
    let e : c.from_residual.result ≡ Err c.in_err-parameters.field-0.0 = search rules in
    rw e (sym (refused_box (lent c.args.inputs) c.args.sample_length _ c.in_err-parameters.ensures (not_done _)))

pub returns-in_err-key : goal.returns-in_err-key
returns-in_err-key c =
    let e : c.from_residual-in_err-key.result ≡ Err c.in_err-key.field-0.0 = search rules in
    rw e (sym (refused_key (lent c.args.inputs) c.args.sample_length _ c.in_ok-parameters.ensures refl _ c.in_err-key.ensures (not_done _)))

pub returns-in_err-data : goal.returns-in_err-data
returns-in_err-data c =
    let e : c.from_residual-in_err-data.result ≡ Err c.in_err-data.field-0.0 = search rules in
    rw e (sym (refused_data (lent c.args.inputs) c.args.sample_length _ c.in_ok-parameters.ensures refl _ c.in_ok-key.ensures refl _ c.in_err-data.ensures (not_done _)))

pub returns : goal.returns
returns c =
    read_done (lent c.args.inputs) c.args.sample_length _ c.in_ok-parameters.ensures refl _ c.in_ok-key.ensures refl _ c.in_ok-data.ensures refl
