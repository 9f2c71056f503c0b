-- A sample of clear bytes alone, such as that of an unprotected track: nothing is ciphered and nothing held.
use mathlib.Core.Bool.{Bool, false}
use mathlib.Core.List.{List, [], ◌∷◌}
use mathlib.Core.Path.{◌≡◌, refl, ◌∙◌}
use Prim.Native.Nat.{ℕ, suc, ◌+◌}
use native.Mathlib.Nat.{add-zero}
use native.Mathlib.Omega.{arith}
use lib.ListN.{length, get_or}
use lib.Seq.{ext_get_or}
use Rattle.modes_spec.specs.declared.Direction.{Direction}
use Rattle.modes_spec.specs.Modes.{Cipher}
use Rattle.scheme.specs.declared.Pattern.{Pattern}
use Rattle.scheme.specs.declared.Scheme.{Scheme}
use Rattle.scheme.specs.declared.Scheme.TheVariants.{Cenc, Cbc1, Cens, Cbcs}
use Rattle.subsample_spec.specs.Auxiliary.{entry}
use Rattle.scheme.specs.Layout.{is_ciphered, marks, mask}
use Rattle.scheme.specs.WholeSample.{whole}
use Rattle.scheme.specs.declared.Mode.{Mode}
use Rattle.scheme.specs.Machine.{plain, step, feed}
use Rattle.scheme.specs.Held.{Place, Clear, place, in_place, in_block, held_at}
use Rattle.scheme.proofs.Positions.{place_law, marks_at}
use Rattle.scheme.proofs.Undone.{length_whole, unmarked_stay}

place_clear : (n x : ℕ) → place (entry n 0 ∷ []) x ≡ Clear
unfolding place
place_clear n x = place_law (λ (p : Place). p ≡ Clear) (entry n 0) [] x (λ u. refl) (λ u v. absurd (omega arith)) (λ u v. refl)

pub held_clear : (pattern : Pattern) (n : ℕ) (s : Scheme) (x : ℕ) → held_at pattern (entry n 0 ∷ []) s x ≡ 0
unfolding held_at in_block in_place
held_clear pattern n Cenc x = refl
held_clear pattern n Cbc1 x = rw (place_clear n x)
held_clear pattern n Cens x = refl
held_clear pattern n Cbcs x = rw (place_clear n x)

unmarked : (f : ℕ → ℕ → Bool) (n x : ℕ) → get_or (marks f (entry n 0 ∷ [])) x false ≡ false
unfolding in_place
unmarked f n x = marks_at f (entry n 0 ∷ []) x ∙ rw (place_clear n x)

pub mask_clear : (s : Scheme) (pattern : Pattern) (n x : ℕ) → get_or (mask s pattern (entry n 0 ∷ [])) x false ≡ false
unfolding mask
mask_clear s pattern n x = unmarked (is_ciphered s pattern) n x

-- a machine that meets no mark passes every byte
pub feed-unmarked : (E D : Cipher) (d : Direction) (k : Mode) (iv : List ℕ) (M F : List Bool) → ((x : ℕ) → get_or M x false ≡ false)
    → (p : ℕ) (c h xs : List ℕ)
    → feed E D d k iv M F (record { position = p; block = c; held = h }) xs
    ≡ record { state = record { position = p + length xs; block = c; held = h }; released = xs }
unfolding feed step plain
feed-unmarked E D d k iv M F e p c h [] = rw add-zero
feed-unmarked E D d k iv M F e p c h (x ∷ xs) =
    let s : p + suc (length xs) ≡ suc p + length xs = omega arith in
    rw (e p, s, feed-unmarked E D d k iv M F e (suc p) c h xs)

-- and the whole sample stays as it is
pub whole_clear : (E D : Cipher) (iv : List ℕ) (pattern : Pattern) (n : ℕ) (d : Direction) (s : Scheme) (xs : List ℕ)
    → whole E D iv pattern (entry n 0 ∷ []) d s xs ≡ xs
whole_clear E D iv pattern n d s xs =
    ext_get_or 0 (whole E D iv pattern (entry n 0 ∷ []) d s xs) xs (length_whole E D iv pattern (entry n 0 ∷ []) d s xs)
    (λ i l. unmarked_stay E D iv pattern (entry n 0 ∷ []) d s xs i (mask_clear s pattern n i))
