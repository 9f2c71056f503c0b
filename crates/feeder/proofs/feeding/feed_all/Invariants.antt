use Rattle.std.proofs.Common.{◌*◌, ◌≤◌}
use Rattle.feeder.proofs.feeding.feed_all.Given as goal

-- a turn writes an output's bytes at most
abbrev pub invariant-loop : goal.invariant-loop
invariant-loop g l = l.written ≤ 65552 * l.counter
