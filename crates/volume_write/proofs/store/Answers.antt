use Prim.Native.Nat.{◌-◌}
use mathlib.Core.Path.{◌≡◌, sym}
use lib.Seq.{length-take-le}
use Rattle.volume_spec.specs.Volume.{entry_bytes, trailer_bytes}
use Rattle.volume_spec.proofs.Valid.{valid_has, filled_by}
use Rattle.volume_spec.proofs.Placing.{added-stored}
use native.Mathlib.Omega.{arith}
use Rattle.volume_write.proofs.store.Goals as goal

pub slice_bounds-copy-end : goal.slice_bounds-copy-end
slice_bounds-copy-end c =
    sym (length-take-le _ _ (omega (arith, filled_by _ _ c.read_trailer-old.ensures c.requires.0)))

pub returns : goal.returns
unfolding entry_bytes trailer_bytes
returns c =
    let offset = c.read_trailer-old.result.offset in
    let front : offset - 0 ≡ offset = omega arith in
    let filled = filled_by _ _ c.read_trailer-old.ensures c.requires.0 in
    added-stored _ _ _ _ (valid_has _ c.requires.0) _ c.requires.1 _ c.read_trailer-old.ensures
    (rw front c.copy.ensures) c.copy-2.ensures c.copy-3.ensures c.store_entry.ensures c.store_trailer.ensures
    (omega arith) (omega arith) (omega arith) (omega (arith, filled))
