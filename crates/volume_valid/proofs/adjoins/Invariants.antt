use mathlib.Core.Path.{◌≡◌}
use Prim.Native.Nat.{◌≤◌}
use lib.ListN.{drop}
use Rattle.std.specs.Prelude.{map}
use Rattle.volume_spec.specs.Volume.{adjoining}
use Rattle.volume_valid.proofs.Index.{read}
use Rattle.volume_valid.proofs.adjoins.Given as goal

-- the entries that are left adjoin from where the last record ended
abbrev pub invariant-loop-bytes : goal.invariant-loop-bytes
invariant-loop-bytes l =
    (l.end ≤ l.to) × (adjoining 0 (map read l.index) l.to ≡ adjoining l.end (map read (drop l.bytes-index l.index)) l.to)
