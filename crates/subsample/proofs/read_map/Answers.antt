use mathlib.Core.Path.{◌∙◌}
use native.Mathlib.Omega.{arith}
use Rattle.std.proofs.Common.{◌<◌, length, length-take-le, length-set, take-append-drop}
use Rattle.std.proofs.lemmas.List.{set-append_left}
use Rattle.subsample_spec.proofs.Counting.{taken_none, taken_next, taken_all}
use Rattle.subsample_spec.specs.Auxiliary.{map_read, empty_map}
use Rattle.subsample.proofs.read_map.Goals as goal

pub loop-i-init : goal.loop-i-init
loop-i-init c =
    let es = empty_map.entries in
    rw (c.empty-empty.ensures, take-append-drop c.args.count es) (length-take-le c.args.count es (omega (arith, c.requires.1)), taken_none _ _)

pub loop-i-preserved : goal.loop-i-preserved
loop-i-preserved c =
    let l = c.loop-i in
    let xs = l.slot-items in
    let v = l.invariant in
    let h : l.i < length xs = omega (arith, c.loop-i-test.true, v.0, length-take-le c.args.count c.empty-empty.result.entries (rw c.empty-empty.ensures (omega (arith, c.requires.1)))) in
    (length-set xs l.i _ ∙ v.0, rw (← (set-append_left xs _ l.i _ h)) (taken_next v.1 c.requires.1 (omega (arith, h, v.0)) _ (rw (c.be16.ensures, c.be32.ensures))))

pub returns : goal.returns
unfolding map_read
returns c =
    let n = length-take-le c.args.count c.empty-empty.result.entries (rw c.empty-empty.ensures (omega (arith, c.requires.1))) in
    let entries = taken_all c.loop-i.invariant.1 c.requires.1 (omega (arith, c.loop-i-test.false, n)) in
    rw (c.empty-empty.ensures, ← c.requires.0, ← entries)
