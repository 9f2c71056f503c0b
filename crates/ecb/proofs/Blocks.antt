-- The electronic codebook mode over a slice, one block a turn.
use mathlib.Core.List.{List, ◌++◌, append_assoc}
use mathlib.Core.Path.{◌≡◌, refl, sym, ap, ◌∙◌}
use Prim.Native.Nat.{ℕ, suc, ◌+◌, ◌-◌, ◌/◌, ◌≤◌, ◌<◌}
use native.Mathlib.Omega.{arith}
use lib.ListN.{length, take, drop, length-drop}
use lib.Seq.{drop-drop}
use borrow.Rule.Slice.PartMut.{put_mid}
use Rattle.octets.proofs.Fill.{Filled, fill_part, fill_drop}
use Rattle.ecb.specs.Ecb.{blocks, ecb}

-- i bytes of xs are done; ys is as it stands, and what is left is what ECB makes of the rest
pub record Done (f : List ℕ → List ℕ) (xs ys : List ℕ) (i : ℕ) : Type 0 where
  pub done : List ℕ
  pub filled : Filled xs ys done i
  pub left : ecb f xs ≡ done ++ ecb f (drop i xs)

module _ (f : List ℕ → List ℕ) (xs : List ℕ) where
  ecb_step : 16 ≤ length xs → ecb f xs ≡ f (take 16 xs) ++ ecb f (drop 16 xs)
  unfolding ecb blocks
  ecb_step l =
      let m : length xs / 16 ≡ suc (length (drop 16 xs) / 16) = simp length-drop (omega arith) in
      rw m

  ecb_short : length xs < 16 → ecb f xs ≡ xs
  unfolding ecb blocks
  ecb_short l =
      let m : length xs / 16 ≡ 0 = omega arith in
      rw m

module _ {f : List ℕ → List ℕ} {xs ys : List ℕ} {i : ℕ} (s : Done f xs ys i) where
  pub next : i + 16 ≤ length xs → (z : List ℕ) → length z ≡ 16 → z ≡ f (take (i + 16 - i) (drop i ys))
      → Done f xs (put_mid i (i + 16 - i) ys z) (i + 16)
  next l z n e =
      let m : i + 16 - i ≡ 16 = omega arith in
      let h : 16 ≤ length (drop i xs) = simp length-drop (omega arith) in
      let x : z ≡ f (take 16 (drop i xs)) = e ∙ rw (m, fill_drop s.filled) in
      record {
        done = s.done ++ z;
        filled = fill_part s.filled (i + 16) (omega arith) l z (s.done ++ z) (n ∙ sym m) refl;
        left = s.left ∙ rw (ecb_step f (drop i xs) h, ← x, drop-drop 16 i xs) (sym (append_assoc s.done z _));
      }

  pub end : length xs - i < 16 → ys ≡ ecb f xs
  end l = s.filled.here ∙ sym (s.left ∙ ap (λ (r : List ℕ). s.done ++ r) (ecb_short f (drop i xs) (simp length-drop (omega arith))))
