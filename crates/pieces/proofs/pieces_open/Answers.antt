use Rattle.std.proofs.Common.{◌≡◌, ℕ, refl, sym, ap, ◌∙◌, rules, arith}
use Rattle.std.specs.declared.result.Result.{Result}
use Rattle.std.specs.declared.result.Result.TheVariants.{Ok, Err}
use Rattle.std.specs.Result.{result_unwrap_or}
use lib.ListN.{length-take, length-drop}
use Rattle.refusals.specs.declared.Refusal.{Refusal}
use Rattle.refusals.proofs.Numbers.{number_positive}
use Rattle.stream_spec.specs.declared.Stream.{Stream}
use Rattle.stream_spec.specs.Stream.{Started, Fed, Ended, as_fed_in_place}
use Rattle.stream_spec.proofs.Feeding.{released_fits}
use Rattle.pieces.proofs.LentEnd.{put_end}
use Rattle.pieces.proofs.Progress.{room, released_within, length_out, begin, further, ended, start-refused, output_short}
use Rattle.pieces.proofs.pieces_open.Goals as goal

-- what a feeding releases, none if it is refused; and the record after it
count-fed : (r : Result ℕ Refusal) (t : Stream) → result_unwrap_or r 0 ≡ (as_fed_in_place r t).released
count-fed (Ok n) t = refl
count-fed (Err r) t = refl

record-fed : (r : Result ℕ Refusal) (t : Stream) → t ≡ (as_fed_in_place r t).stream
record-fed (Ok n) t = refl
record-fed (Err r) t = refl

pub returns-in-Err : goal.returns-in-Err
returns-in-Err c =
    let s = start-refused _ _ _ _ c.in-Err.ensures (λ z. omega (arith, z, number_positive c.in-Err.refusal)) in
    (c.number.ensures ∙ s.0, s.1)

pub returns-then-out-data : goal.returns-then-out-data
returns-then-out-data c =
    let s = output_short _ _ _ _ c.in-Ok.ensures refl c.if-out-data.true in
    (c.number-then-out-data.ensures ∙ s.0, s.1)

pub loop-piece-init : goal.loop-piece-init
loop-piece-init c =
    rw (c.into_iter-piece-iterator.ensures.into_iter_gives, c.chunks-piece-items.ensures.rest, ap (λ (s : Started). s.stream) c.in-Ok.ensures)
    (begin _
    (record {
      bytes = record { box = λ k. search rules; auxiliary = λ k. search rules };
      started = sym (ap (λ (s : Started). s.answer) c.in-Ok.ensures);
      room = omega (arith, c.if-out-data.false);
      output_fits = search rules;
    }))

pub overflow_add-done : goal.overflow_add-done
overflow_add-done c =
    let l = c.loop-piece in
    let r = simp (length-take, length-drop) at (released_fits (as_fed_in_place c.feed.result c.feed.new.stream) _ _ _ c.feed.ensures.answer) in
    let n = c.unwrap_or-done.ensures ∙ count-fed c.feed.result c.feed.new.stream in
    record { fits = omega (arith, r, n, length_out _ l.invariant, room _ l.invariant, released_within _ l.invariant, l.invariant.call.output_fits) }

pub loop-piece-preserved : goal.loop-piece-preserved
loop-piece-preserved c =
    let f = c.feed in
    let l = c.loop-piece in
    let o = f.new.out in
    let n = c.unwrap_or-done.ensures ∙ count-fed f.result f.new.stream ∙ ap (λ (y : Fed). y.released) f.ensures.answer in
    let t = record-fed f.result f.new.stream ∙ ap (λ (y : Fed). y.stream) f.ensures.answer in
    rw (n, t)
    (further _ l.invariant _ _ c.in-Some.ensures.steps.1.0 o f.ensures.output f.auto.out _ (put_end l.out o l.done))

pub returns : goal.returns
returns c =
    let s = ended _ c.loop-piece.invariant c.in-None.ensures.steps.1.0 in
    (c.number-2.ensures ∙ ap (λ (y : Ended). y.answer) c.end.ensures ∙ s.0, s.1)
