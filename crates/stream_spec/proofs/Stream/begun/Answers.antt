use Rattle.stream_spec.proofs.Stream.begun.Goals as goal

pub returns : goal.returns
returns c = rw (c.begun.ensures, c.first_block.ensures)
