use Rattle.std.proofs.Common.{◌≡◌, ◌∙◌}
use Rattle.octets.proofs.Bytes.{filled_all}
use Rattle.modes.proofs.chain_block.Goals as goal

pub returns : goal.returns
returns c =
    let block : c.filled.result ≡ c.args.part.now = c.filled.ensures ∙ filled_all 16 c.args.part.now c.requires in
    let e = rw block at c.chained.ensures in
    (c.copy_from_slice.ensures.after ∙ e.0, e.1)
