use Rattle.std.proofs.Common.{◌≡◌, sym, refl, ◌∙◌, rules, arith, length, Err}
use borrow.Author.Tests.{eqb-true, eqb-false}
use lib.ListN.{length-take}
use Rattle.refusals.specs.Refusals.{refusal_number}
use Rattle.refusals.proofs.Numbers.{number_positive}
use Rattle.stream_spec.specs.Stream.{feed, output_after}
use Rattle.stream_spec.proofs.Feeding.{checked_sound, checked_within, checked_due, checked_kept, checked_fits, feed-refused, feed_nothing, feed_done}
use Rattle.stream.proofs.feed.Goals as goal

-- a refused check
refused : (c : goal.After-from_residual) → let a = c.args in
    (record { answer = refusal_number c.in_err-checked.field-0.0; released = 0; stream = a.stream } ≡ feed a.stream a.piece.now (length a.out.now))
    × (a.out.now ≡ output_after a.stream a.piece.now a.out.now)
refused c =
    feed-refused c.args.stream c.args.piece.now c.args.out.now _ c.in_err-checked.ensures
    (λ z. omega (arith, z, number_positive c.in_err-checked.field-0.0))

pub returns-in_err-checked-clause-answer : goal.returns-in_err-checked-clause-answer
returns-in_err-checked-clause-answer c =
    let e : c.from_residual.result ≡ Err c.in_err-checked.field-0.0 = search rules in
    rw e (refused c).0

pub returns-in_err-checked-clause-output : goal.returns-in_err-checked-clause-output
returns-in_err-checked-clause-output c = (refused c).1

pub returns-then-is_empty : goal.returns-then-is_empty
returns-then-is_empty c =
    let a = c.args in
    let f = feed_nothing a.stream a.piece.now a.out.now _ c.in_ok-checked.ensures refl (eqb-true _ 0 (sym c.is_empty.ensures ∙ c.if-is_empty.true)) in
    record { answer = f.0; output = f.1 }

pub slice_bounds-release-end : goal.slice_bounds-release-end
slice_bounds-release-end c = checked_fits c.args.stream _ _ _ c.in_ok-checked.ensures refl

pub slice_bounds-release-end-2 : goal.slice_bounds-release-end-2
slice_bounds-release-end-2 c =
    simp length-take (omega (arith, checked_fits c.args.stream _ _ _ c.in_ok-checked.ensures refl))

pub release-progress-requires : goal.release-progress-requires
release-progress-requires c =
    let t = c.args.stream in
    let k = c.in_ok-checked.ensures in
    let fits = checked_fits t _ _ _ k refl in (
      checked_sound t _ _ _ k refl,
      checked_within t _ _ _ k refl,
      checked_kept t _ _ _ k refl,
      simp length-take (omega (arith, fits, checked_due t _ _ _ k refl)),
    )

pub returns : goal.returns
returns c =
    let a = c.args in
    let f = feed_done a.stream a.piece.now a.out.now _ c.in_ok-checked.ensures refl (eqb-false _ 0 (sym c.is_empty.ensures ∙ c.if-is_empty.false)) in
    record { answer = rw c.release-progress.ensures.0 f.0; output = rw c.release-progress.ensures.1 f.1 }
