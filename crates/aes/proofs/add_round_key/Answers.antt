use Rattle.fips197.proofs.Lists.{same}
use Rattle.aes.proofs.add_round_key.Goals as goal

pub returns : goal.returns
returns c =
    same c.add_word.ensures c.add_word-2.ensures c.add_word-3.ensures c.add_word-4.ensures
