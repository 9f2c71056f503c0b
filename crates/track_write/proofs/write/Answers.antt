use Rattle.std.proofs.Common.{◌≡◌, ◌≢◌, ◌≤◌, ◌<◌, sym, rules, arith, length, Err}
use borrow.Author.Tests.{ne_eqb}
use Rattle.octets.specs.Answers.{answer}
use Rattle.refusals.specs.Refusals.{refusal_number}
use Rattle.refusals.proofs.Numbers.{number_positive}
use Rattle.track_spec.specs.Track.{box_length, parameter_rows, write_rows, write_box, after_writing}
use Rattle.track_spec.proofs.Checking.{check-allowed, write_refused, write_short, write_done}
use Rattle.track_write.proofs.write.Goals as goal

not_done : (c : goal.After-from_residual) → refusal_number c.in_err-check.field-0.0 ≢ 0
not_done c = λ z. omega (arith, z, number_positive c.in_err-check.field-0.0)

refused : (c : goal.After-from_residual)
    → answer (write_rows c.args.parameters (length c.args.out.now)) ≡ refusal_number c.in_err-check.field-0.0
refused c = write_refused c.args.parameters _ _ c.in_err-check.ensures (not_done c)

pub returns-in_err-check-clause-answer : goal.returns-in_err-check-clause-answer
unfolding write_box
returns-in_err-check-clause-answer c =
    let e : c.from_residual.result ≡ Err c.in_err-check.field-0.0 = search rules in
    rw (e, refused c, ne_eqb _ 0 (not_done c))

pub returns-in_err-check-clause-output : goal.returns-in_err-check-clause-output
unfolding after_writing
returns-in_err-check-clause-output c = rw (refused c, ne_eqb _ 0 (not_done c))

short : (c : goal.Then-out-length) → answer (write_rows c.args.parameters (length c.args.out.now)) ≡ 17
short c =
    let l : length c.args.out.now < box_length c.args.parameters.protected c.args.parameters.iv_size = omega (arith, c.if-out-length.true, c.box_length-length.ensures) in
    write_short c.args.parameters _ (sym c.in_ok-check.ensures) l

pub returns-then-out-length-clause-answer : goal.returns-then-out-length-clause-answer
unfolding write_box
returns-then-out-length-clause-answer c = rw (short c)

pub returns-then-out-length-clause-output : goal.returns-then-out-length-clause-output
unfolding after_writing
returns-then-out-length-clause-output c = rw (short c)

pub store-requires : goal.store-requires
store-requires c =
    (check-allowed c.args.parameters (sym c.in_ok-check.ensures), c.box_length-length.ensures, c.if-out-length.false)

pub returns-clause-answer : goal.returns-clause-answer
unfolding write_box
returns-clause-answer c =
    let l : box_length c.args.parameters.protected c.args.parameters.iv_size ≤ length c.args.out.now = omega (arith, c.if-out-length.false, c.box_length-length.ensures) in
    let accepted : answer (parameter_rows c.args.parameters) ≡ 0 = sym c.in_ok-check.ensures in
    rw (write_done c.args.parameters _ accepted l, c.box_length-length.ensures)

pub returns-clause-output : goal.returns-clause-output
unfolding after_writing
returns-clause-output c =
    let l : box_length c.args.parameters.protected c.args.parameters.iv_size ≤ length c.args.out.now = omega (arith, c.if-out-length.false, c.box_length-length.ensures) in
    let accepted : answer (parameter_rows c.args.parameters) ≡ 0 = sym c.in_ok-check.ensures in
    rw (write_done c.args.parameters _ accepted l) c.store.ensures
