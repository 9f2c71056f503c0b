-- What `==` says of two byte strings is `same`.
use Rattle.std.specs.Prelude.{List, [], ◌∷◌, ℕ, ◌≡◌, ◌&&◌, eqb}
use Rattle.std.proofs.Common.{refl, ap}
use lib.Pointwise.{pointwise}
use Rattle.octets.specs.Bytes.{same}

pub eq-same : (a b : List ℕ) → pointwise eqb a b ≡ same a b
unfolding same
eq-same [] [] = refl
eq-same [] (y ∷ ys) = refl
eq-same (x ∷ xs) [] = refl
eq-same (x ∷ xs) (y ∷ ys) = ap (λ t. eqb x y && t) (eq-same xs ys)

-- for the check's own proofs
pub ruleset equal = (eq-same)
