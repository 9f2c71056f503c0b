use Rattle.aes.specs.Block.{encipher, decipher}
use Rattle.scheme.proofs.EntryParts.{entry-asked, entry_turned}
use Rattle.part.proofs.walk.entry_part.Goals as goal

pub range_part-requires : goal.range_part-requires
range_part-requires c =
    let a = c.args in
    entry-asked (encipher a.how.keys.now) (decipher a.how.keys.now) a.how.direction _ _ a.how.iv.0 _ _ _ _ a.progress.block.0
    a.part.now c.requires c.min-stay.result c.saturating_sub-2.result (rw c.saturating_sub.ensures at c.min-stay.ensures) c.saturating_sub-2.ensures

pub returns : goal.returns
returns c =
    entry_turned _ _ _ _ _ _ _ _ _ _ _ _ c.requires c.min-stay.result c.saturating_sub-2.result
    (rw c.saturating_sub.ensures at c.min-stay.ensures) c.saturating_sub-2.ensures _ _ c.range_part.new.part c.range_part.ensures
