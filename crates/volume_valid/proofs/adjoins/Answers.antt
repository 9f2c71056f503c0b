use mathlib.Core.List.{[]}
use mathlib.Core.Path.{sym, ◌∙◌}
use Rattle.std.proofs.lemmas.List.{drop_more, drop_all}
use Rattle.volume_spec.specs.Volume.{adjoining}
use Rattle.volume_spec.proofs.Entries.{adjoining_elsewhere, adjoining_past, adjoining-next}
use native.Mathlib.Omega.{arith}
use Rattle.volume_valid.proofs.adjoins.Goals.{then-entry-end-via-then-entry-end, then-entry-end-via-else-entry-end+then-to-end}
use Rattle.volume_valid.proofs.adjoins.Goals as goal

-- it begins elsewhere, or ends past the index
pub returns-then-entry-end : goal.returns-then-entry-end
returns-then-entry-end c =
    let l = c.loop-bytes in
    let first = drop_more c.args.index.now l.bytes-index [] c.loop-bytes-test.true in
    let e = c.read_entry-entry.ensures in
    sym (l.invariant.1 ∙ rw (first, ← e)
    (elim c.then-entry-end.branch [
      | then-entry-end-via-then-entry-end w ↦ adjoining_elsewhere _ _ _ _ w.if-entry-end.true
      | then-entry-end-via-else-entry-end+then-to-end w ↦ adjoining_past _ _ _ _ (omega (arith, w.if-to-end.true))
    ]))

pub loop-bytes-preserved : goal.loop-bytes-preserved
loop-bytes-preserved c =
    let l = c.loop-bytes in
    let first = drop_more c.args.index.now l.bytes-index [] c.loop-bytes-test.true in
    let e = c.read_entry-entry.ensures in
    (omega arith, l.invariant.1 ∙ rw (first, ← e) (adjoining-next _ _ _ _ c.if-entry-end.false))

pub returns : goal.returns
unfolding adjoining
returns c =
    let l = c.loop-bytes in
    let none = drop_all l.bytes-index c.args.index.now c.loop-bytes-test.false in
    sym (l.invariant.1 ∙ rw none)
