use Rattle.volume_spec.specs.Volume.{entry_at, trailer}
use Rattle.volume_valid.proofs.read_trailer.Goals as goal

pub returns : goal.returns
unfolding entry_at trailer
returns c = rw (c.read_entry-last.ensures, c.saturating_sub.ensures)
