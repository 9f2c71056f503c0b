use Rattle.aes.specs.Block.{decipher_is}
use Rattle.aes.proofs.Block.decipher.Goals as goal

pub returns : goal.returns
returns c =
    rw (decipher_is, c.store.ensures, c.inv_cipher.ensures, c.load.ensures)
