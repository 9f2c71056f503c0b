use mir.Val.{Fits}
use mir.Syntax.{w32}
use lib.ListN.{drop_of_length-le}
use Rattle.scheme.proofs.Locating.{locate_clear, locate_in, locate_next, locate_none}
use Rattle.scheme.proofs.SampleParts.{entry_next}
use Rattle.subsample_spec.specs.Auxiliary.{entry}
use Rattle.std.proofs.Common.{slice_index_or}
use native.Mathlib.Omega.{arith}
use borrow.Author.Rules.{rules}
use Rattle.layout.proofs.locate_entry.Goals as goal

pub returns-then-y-a : goal.returns-then-y-a
returns-then-y-a c =
    let l = c.loop-entry in
    locate_clear l.invariant _ _ (entry_next c.args.entries.now l.entry-index c.loop-entry-test.true) c.if-y-a.true

pub returns-then-o-n : goal.returns-then-o-n
returns-then-o-n c =
    let l = c.loop-entry in
    locate_in l.invariant _ _ (entry_next c.args.entries.now l.entry-index c.loop-entry-test.true) c.if-y-a.false c.if-o-n.true

pub loop-entry-preserved : goal.loop-entry-preserved
loop-entry-preserved c =
    let l = c.loop-entry in
    let protects : Fits w32 (slice_index_or c.args.entries.now l.entry-index (entry 0 0)).protected = search rules in
    locate_next l.invariant _ _ (entry_next c.args.entries.now l.entry-index c.loop-entry-test.true) c.if-y-a.false c.if-o-n.false
    protects.fits

pub returns-after-loop-entry : goal.returns-after-loop-entry
returns-after-loop-entry c = locate_none c.loop-entry.invariant (drop_of_length-le c.args.entries.now (omega (arith, c.loop-entry-test.false)))
