-- What is read of two strings is the same where they agree at the places that are looked at.
use mathlib.Core.List.{List, ◌∷◌}
use mathlib.Core.Path.{◌≡◌, refl, sym, ap₂, ◌∙◌}
use Prim.Native.Nat.{ℕ, zero, suc, ◌+◌, ◌*◌, ◌≤◌, ◌<◌}
use native.Mathlib.Omega.{arith}
use lib.ListN.{length, get_or, take, drop, length-take, length-drop}
use lib.Seq.{ext_get_or, get_or-take, get_or-drop}
use Rattle.octets.specs.Bytes.{list_of, number, filled}
use Rattle.octets.proofs.Bytes.{filled-list_of}

pub list_of_alike : (n : ℕ) (f g : ℕ → ℕ) → ((i : ℕ) → i < n → f i ≡ g i) → list_of n f ≡ list_of n g
list_of_alike zero f g h = refl
list_of_alike (suc n) f g h =
    ap₂ (λ (x : ℕ) (l : List ℕ). x ∷ l) (h 0 (omega arith))
    (list_of_alike n (λ i. f (suc i)) (λ i. g (suc i)) (λ i l. h (suc i) (omega arith)))

module _ (a b : List ℕ) where
  pub number_alike : (n at : ℕ) → ((i : ℕ) → at ≤ i → i < at + n → get_or a i 0 ≡ get_or b i 0) → number n a at ≡ number n b at
  unfolding number
  number_alike zero at h = refl
  number_alike (suc n) at h =
      ap₂ (λ (x y : ℕ). x * 256 + y) (number_alike n at (λ i l m. h i l (omega arith))) (h (at + n) (omega arith) (omega arith))

  -- the n bytes from a place on, of strings of one length
  pub part_alike : (n at : ℕ) → length a ≡ length b → ((i : ℕ) → at ≤ i → i < at + n → get_or a i 0 ≡ get_or b i 0)
      → take n (drop at a) ≡ take n (drop at b)
  part_alike n at e h =
      ext_get_or 0 _ _ (simp (length-take, length-drop, e))
      (λ i l.
      let k : i < n = omega (arith, length-take n (drop at a)) in
      get_or-take n (drop at a) i 0 k ∙ get_or-drop at a i 0 ∙ h (at + i) (omega arith) (omega arith)
      ∙ sym (get_or-take n (drop at b) i 0 k ∙ get_or-drop at b i 0))

  -- the same, filled out with zeros
  pub filled_alike : (n at : ℕ) → ((i : ℕ) → at ≤ i → i < at + n → get_or a i 0 ≡ get_or b i 0)
      → filled n (drop at a) ≡ filled n (drop at b)
  filled_alike n at h =
      filled-list_of n (drop at a)
      ∙ list_of_alike n _ _ (λ i l. get_or-drop at a i 0 ∙ h (at + i) (omega arith) (omega arith) ∙ sym (get_or-drop at b i 0))
      ∙ sym (filled-list_of n (drop at b))
