use Prim.Native.Nat.{◌<◌}
use mir.Val.{Fits}
use mir.Syntax.{w32}
use lib.ListN.{length, drop_of_length-le}
use Rattle.octets.proofs.Fill.{fill_length}
use Rattle.scheme.proofs.SampleParts.{entry_next, walk_start, walk_asks, walk_turned, walk_skipped, walk_over, walk_end}
use Rattle.subsample_spec.specs.Auxiliary.{entry}
use Rattle.std.proofs.Common.{slice_index_or}
use borrow.Author.Rules.{rules}
use native.Mathlib.Omega.{arith}
use Rattle.part.proofs.walk.sample_part.Goals as goal
use Rattle.part.proofs.walk.sample_part.Goals.{then-o-size, else-o-size}

pub loop-entry-init : goal.loop-entry-init
loop-entry-init c = walk_start _ _ _ _ _ _ _ _ _ _ _ c.requires

pub entry_part-state-requires : goal.entry_part-state-requires
entry_part-state-requires c =
    let l = c.loop-entry in
    let within : l.at < length c.args.part.now = omega (arith, c.if-at-part.false, l.invariant.filled.fits, fill_length l.invariant.filled) in
    let here = entry_next c.args.entries.now l.entry-index c.loop-entry-test.true in
    let protects : Fits w32 (slice_index_or c.args.entries.now l.entry-index (entry 0 0)).protected = search rules in
    walk_asks _ _ _ _ _ _ _ _ _ _ _ c.requires l.invariant within _ _ here c.if-o-size.true c.min.result c.min.ensures protects.fits

pub loop-entry-preserved : goal.loop-entry-preserved
loop-entry-preserved c =
    let l = c.loop-entry in
    let within : l.at < length c.args.part.now = omega (arith, c.if-at-part.false, l.invariant.filled.fits, fill_length l.invariant.filled) in
    let here = entry_next c.args.entries.now l.entry-index c.loop-entry-test.true in
    elim c.if-o-size.branch [
      | then-o-size w ↦
          rw (w.part-is, w.state-is, w.at-is, w.o-is)
          (walk_turned _ _ _ _ _ _ _ _ _ _ _ c.requires l.invariant within _ _ here w.if-o-size.true w.min.result w.min.ensures _ _
          w.entry_part-state.new.part w.entry_part-state.auto.part w.entry_part-state.ensures)
      | else-o-size w ↦
          rw (w.part-is, w.state-is, w.at-is, w.o-is)
          (walk_skipped _ _ _ _ _ _ _ _ _ _ _ c.requires l.invariant within _ _ here w.if-o-size.false)
    ]

pub returns-after-loop-entry : goal.returns-after-loop-entry
returns-after-loop-entry c =
    let l = c.loop-entry in
    walk_end _ _ _ _ _ _ _ _ _ _ _ c.requires l.invariant
    (walk_over _ _ _ _ _ _ _ _ _ _ _ l.invariant (drop_of_length-le c.args.entries.now (omega (arith, c.loop-entry-test.false))))

pub returns-then-at-part : goal.returns-then-at-part
returns-then-at-part c =
    walk_end _ _ _ _ _ _ _ _ _ _ _ c.requires c.loop-entry.invariant
    (omega (arith, c.if-at-part.true, fill_length c.loop-entry.invariant.filled))
