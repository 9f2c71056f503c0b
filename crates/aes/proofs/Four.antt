-- An array of four that `from_fn` made is known by what its four calls gave.
use mathlib.Core.List.{List, [], ◌∷◌}
use mathlib.Core.Path.{◌≡◌}
use native.Mathlib.Omega.{arith}
use lib.ListN.{length}
use Rattle.std.specs.Array.{IsElementAt}
use Rattle.fips197.proofs.Lists.{same}

pub four : {A : Type 0} (ys : List A) {a b c d : A} → length ys ≡ 4 → IsElementAt ys 0 a → IsElementAt ys 1 b
    → IsElementAt ys 2 c → IsElementAt ys 3 d → ys ≡ a ∷ b ∷ c ∷ d ∷ []
four (p ∷ q ∷ r ∷ s ∷ []) l e f g h = same e.0 f.0 g.0 h.0
four [] l e f g h = absurd (omega arith)
four (p ∷ []) l e f g h = absurd (omega arith)
four (p ∷ q ∷ []) l e f g h = absurd (omega arith)
four (p ∷ q ∷ r ∷ []) l e f g h = absurd (omega arith)
four (p ∷ q ∷ r ∷ s ∷ t ∷ u) l e f g h = absurd (omega arith)
