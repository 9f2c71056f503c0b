use Prim.Native.Nat.{◌<◌}
use lib.ListN.{length}
use Rattle.octets.proofs.Fill.{fill_length}
use Rattle.scheme.proofs.Ranges.{range_start, range_asked, range_kept, range_turned, range_end}
use native.Mathlib.Omega.{arith}
use Rattle.part.proofs.walk.range_part.Goals as goal

pub loop-at-init : goal.loop-at-init
loop-at-init c = range_start _ _ _ _ _ _ _ _ _ _ _ c.requires

pub cipher_run-now-requires : goal.cipher_run-now-requires
cipher_run-now-requires c =
    let left : c.loop-at.at < length c.args.part.now = omega (arith, c.loop-at-test.true, fill_length c.loop-at.invariant.filled) in (
      c.loop-at.invariant.used,
      range_asked _ _ _ _ _ _ _ _ _ _ _ c.requires c.loop-at.invariant left c.run_at-run.ensures c.min.result c.min.ensures c.if-run.true,
    )

pub loop-at-preserved-then-run : goal.loop-at-preserved-then-run
loop-at-preserved-then-run c =
    let left : c.loop-at.at < length c.args.part.now = omega (arith, c.loop-at-test.true, fill_length c.loop-at.invariant.filled) in
    range_turned _ _ _ _ _ _ _ _ _ _ _ c.requires c.loop-at.invariant left c.run_at-run.ensures c.min.result c.min.ensures c.if-run.true
    c.cipher_run-now.new.part c.cipher_run-now.result.0 c.cipher_run-now.auto.part
    (rw (c.restarts-restart.ensures c.args.n) at c.cipher_run-now.ensures)

pub loop-at-preserved : goal.loop-at-preserved
loop-at-preserved c =
    let left : c.loop-at.at < length c.args.part.now = omega (arith, c.loop-at-test.true, fill_length c.loop-at.invariant.filled) in
    range_kept _ _ _ _ _ _ _ _ _ _ _ c.requires c.loop-at.invariant left c.run_at-run.ensures c.min.result c.min.ensures c.if-run.false

pub returns : goal.returns
returns c =
    range_end _ _ _ _ _ _ _ _ _ _ _ c.requires c.loop-at.invariant (omega (arith, fill_length c.loop-at.invariant.filled))
