use Rattle.fips197.proofs.Lists.{same}
use Rattle.aes.proofs.sub_bytes.Goals as goal

pub returns : goal.returns
returns c = λ f t.
    same (c.sub_word.ensures f t) (c.sub_word-2.ensures f t) (c.sub_word-3.ensures f t) (c.sub_word-4.ensures f t)
