use Rattle.aes.specs.Block.{encipher_is}
use Rattle.aes.proofs.Block.encipher.Goals as goal

pub returns : goal.returns
returns c =
    rw (encipher_is, c.store.ensures, c.cipher.ensures, c.load.ensures)
