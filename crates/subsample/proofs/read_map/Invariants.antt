use Rattle.std.proofs.Common.{◌≡◌, ◌++◌, drop, length}
use Rattle.subsample_spec.specs.Auxiliary.{entry_written, empty_map}
use Rattle.subsample_spec.proofs.Counting.{Taken}
use Rattle.subsample.proofs.read_map.Given as goal

-- The entries that the loop writes stand before the empty ones.
abbrev pub invariant-loop-i : goal.invariant-loop-i
invariant-loop-i l =
    (length l.slot-items ≡ l.count)
    × Taken (entry_written l.fn.p l.auxiliary) l.count (l.slot-items ++ drop l.count empty_map.entries) l.i
