use Rattle.volume_spec.specs.Volume.{entry_at}
use Rattle.volume_valid.proofs.Index.{entry_rest}
use Rattle.volume_valid.proofs.read_entry.Goals as goal

pub returns : goal.returns
unfolding entry_at
returns c =
    rw (c.be32-2.ensures, c.be32.ensures, c.be64-2.ensures, c.be64.ensures) (entry_rest _ _ _ c.min.ensures)
