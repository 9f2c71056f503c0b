use mathlib.Core.Path.{refl}
use Rattle.issuer_spec.proofs.Issuer.exhausted.Goals as goal

-- used up and of size 8, all else zero
pub returns : goal.returns
returns c = refl
