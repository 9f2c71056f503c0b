use mathlib.Core.Path.{sym, ◌∙◌}
use Rattle.aes.specs.Block.{round_keys_is}
use Rattle.aes.proofs.Key.round_keys.Goals as goal

pub returns : goal.returns
returns c = c.key_expansion.ensures ∙ sym (round_keys_is _)
