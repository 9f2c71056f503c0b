use Rattle.fips197.specs.KeyExpansion.{next_key}
use Rattle.aes.proofs.next_key.Goals as goal

pub returns : goal.returns
unfolding next_key
returns c =
    rw (
      c.add_word-d.ensures,
      c.add_word-c.ensures,
      c.add_word-b.ensures,
      c.first_word-a.ensures,
    )
