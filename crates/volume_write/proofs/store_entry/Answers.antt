use Rattle.volume_spec.specs.Volume.{entry_bytes}
use Rattle.volume_spec.proofs.Placing.{fields-stored}
use Rattle.volume_write.proofs.store_entry.Goals as goal

pub returns : goal.returns
unfolding entry_bytes
returns c = fields-stored _ _ _ _ _ _ c.requires c.put64.ensures c.put64-2.ensures c.put32.ensures c.put32-2.ensures
