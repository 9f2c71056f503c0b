use mathlib.Core.Path.{sym, ap, ◌∙◌}
use lib.Seq.{length-take-le}
use Rattle.scheme.specs.Machine.{Stepped}
use Rattle.joined.proofs.Joining.{joined_full}
use Rattle.stream_spec.specs.Stream.{due}
use Rattle.stream_spec.proofs.Rules.{held_most, held_below}
use Rattle.stream_spec.proofs.Releasing.{Places, fed_is, released_progress}
use borrow.Author.Rules.{rules}
use native.Mathlib.Omega.{arith}
use Rattle.stream.proofs.release.Goals as goal

pub take_due-rest-requires : goal.take_due-rest-requires
take_due-rest-requires c =
    omega (arith, held_most c.args.stream c.requires.0)

pub overflow_sub-progress : goal.overflow_sub-progress
overflow_sub-progress c =
    omega (arith, held_below c.args.stream c.requires.0)

pub returns : goal.returns
unfolding due
returns c =
    let t = c.args.stream in
    let piece = c.args.piece.now in
    let places : Places t = record { held = search rules; entries = search rules } in
    let l = length-take-le t.progress.held_count t.progress.held (omega (arith, held_most t c.requires.0, places.held)) in
    let e = rw c.requires.3 at (c.take_due-rest.ensures.1 ∙ joined_full _ _ _ (omega (arith, c.requires.3, l))) in
    let f = rw e at c.transform-next.ensures in (
      released_progress t c.requires.0 places piece c.requires.1 _ _ _ f.1 (rw c.requires.3 at c.take_due-rest.ensures.0) c.requires.2,
      f.0 ∙ sym (ap (λ (f : Stepped). f.released) (fed_is t c.requires.0 places piece c.requires.1)),
    )
