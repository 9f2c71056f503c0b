use mathlib.Core.Logic.{inl, inr}
use mathlib.Core.Path.{◌∙◌}
use Rattle.scheme.specs.Layout.{is_ciphered, in_whole_block}
use Rattle.layout.proofs.ciphered_at.Goals as goal

pub returns-in-Cenc : goal.returns-in-Cenc
unfolding is_ciphered
returns-in-Cenc c = rw c.in-Cenc.is

pub returns-in-Cbc1 : goal.returns-in-Cbc1
unfolding is_ciphered in_whole_block
returns-in-Cbc1 c = rw c.in-Cbc1.is

pub returns-in-Cens : goal.returns-in-Cens
unfolding is_ciphered
returns-in-Cens c = c.in_pattern.ensures ∙ elim c.in-Cens.is [ inl e ↦ rw e | inr e ↦ rw e ]
