-- Strings added, one byte more a turn.
use mathlib.Core.List.{List, [], ◌∷◌, ◌++◌}
use mathlib.Core.Path.{◌≡◌, refl, ap}
use Prim.Native.Nat.{ℕ, zero, suc, ◌+◌, ◌<◌}
use native.Mathlib.Numerals.{add-one}
use native.Mathlib.Omega.{arith}
use lib.ListN.{length, get_or, take}
use Rattle.octets.specs.Xor.{◌⊕◌}
use Rattle.modes_spec.specs.Modes.{xors}

pub xors-none : (ks : List ℕ) → xors [] ks ≡ []
unfolding xors
xors-none ks = refl

pub xors-next : (xs ks : List ℕ) (i : ℕ) → i < length xs → i < length ks
    → xors (take (i + 1) xs) ks ≡ xors (take i xs) ks ++ (get_or xs i 0 ⊕ get_or ks i 0 ∷ [])
unfolding xors
xors-next xs ks i l k = rw add-one (go xs ks i l k)
  where
    go : (xs ks : List ℕ) (i : ℕ) → i < length xs → i < length ks
        → xors (take (suc i) xs) ks ≡ xors (take i xs) ks ++ (get_or xs i 0 ⊕ get_or ks i 0 ∷ [])
    go [] ks i l k = absurd (omega arith)
    go (x ∷ xs) [] i l k = absurd (omega arith)
    go (x ∷ xs) (y ∷ ks) zero l k = refl
    go (x ∷ xs) (y ∷ ks) (suc i) l k = ap (λ (l : List ℕ). x ⊕ y ∷ l) (go xs ks i (omega arith) (omega arith))

pub length-xors : (xs ks : List ℕ) → length (xors xs ks) ≡ length xs
unfolding xors
length-xors [] ks = refl
length-xors (x ∷ xs) [] = refl
length-xors (x ∷ xs) (y ∷ ks) = ap suc (length-xors xs ks)
