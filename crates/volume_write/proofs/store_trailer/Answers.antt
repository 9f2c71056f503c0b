use Rattle.volume_spec.specs.Volume.{entry_bytes, trailer_bytes}
use Rattle.volume_write.proofs.store_trailer.Goals as goal

pub returns : goal.returns
unfolding entry_bytes trailer_bytes
returns c = c.store_entry.ensures
