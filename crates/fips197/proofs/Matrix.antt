-- The two matrices of MixColumns and InvMixColumns undo each other.
use mathlib.Core.Path.{◌≡◌, ◌∙◌}
use Prim.Native.Nat.{ℕ, ◌<◌}
use Rattle.octets.specs.Xor.{◌⊕◌}
use Rattle.octets.proofs.Xor.{⊕_assoc, ⊕_comm, ⊕_left_comm, ⊕_zero}
use Rattle.fips197.specs.Field.{xtime, ◌·◌}
use Rattle.fips197.specs.State.{Word, IsWord, word}
use Rattle.fips197.specs.Cipher.{row, matrix}
use Rattle.fips197.proofs.Bytes.{bytes_equal}
use Rattle.fips197.proofs.Field.{·_add}
use Rattle.fips197.proofs.Lists.{same}

-- The matrix of p by that of q: what its first row takes of a byte.
abbrev product : ℕ → ℕ → ℕ → ℕ → ℕ → ℕ → ℕ → ℕ → ℕ → ℕ
product p0 p1 p2 p3 q0 q1 q2 q3 x = (p0 · (q0 · x)) ⊕ (p1 · (q1 · x)) ⊕ (p2 · (q2 · x)) ⊕ (p3 · (q3 · x))

module _ (p0 p1 p2 p3 q0 q1 q2 q3 : ℕ)
    (one : (x : ℕ) → x < 256 → product p0 p1 p2 p3 q0 q3 q2 q1 x ≡ x)
    (nil1 : (x : ℕ) → x < 256 → product p0 p1 p2 p3 q1 q0 q3 q2 x ≡ 0)
    (nil2 : (x : ℕ) → x < 256 → product p0 p1 p2 p3 q2 q1 q0 q3 x ≡ 0)
    (nil3 : (x : ℕ) → x < 256 → product p0 p1 p2 p3 q3 q2 q1 q0 x ≡ 0) where
  regroup : (a b c d : ℕ)
      → p0 · (q0 · a ⊕ q1 · b ⊕ q2 · c ⊕ q3 · d) ⊕ p1 · (q0 · b ⊕ q1 · c ⊕ q2 · d ⊕ q3 · a)
      ⊕ p2 · (q0 · c ⊕ q1 · d ⊕ q2 · a ⊕ q3 · b) ⊕ p3 · (q0 · d ⊕ q1 · a ⊕ q2 · b ⊕ q3 · c)
      ≡ product p0 p1 p2 p3 q0 q3 q2 q1 a ⊕ product p0 p1 p2 p3 q1 q0 q3 q2 b ⊕ product p0 p1 p2 p3 q2 q1 q0 q3 c
      ⊕ product p0 p1 p2 p3 q3 q2 q1 q0 d
  regroup a b c d = simp (·_add, ⊕_assoc, ⊕_comm, ⊕_left_comm)

  undone_row : {a b c d : ℕ} → a < 256 → b < 256 → c < 256 → d < 256
      → p0 · (q0 · a ⊕ q1 · b ⊕ q2 · c ⊕ q3 · d) ⊕ p1 · (q0 · b ⊕ q1 · c ⊕ q2 · d ⊕ q3 · a)
      ⊕ p2 · (q0 · c ⊕ q1 · d ⊕ q2 · a ⊕ q3 · b) ⊕ p3 · (q0 · d ⊕ q1 · a ⊕ q2 · b ⊕ q3 · c)
      ≡ a
  undone_row {a} {b} {c} {d} ha hb hc hd =
      regroup a b c d ∙ rw (one a ha, nil1 b hb, nil2 c hc, nil3 d hd) (simp ⊕_zero)

  undone : (w : Word) → IsWord w → matrix p0 p1 p2 p3 (matrix q0 q1 q2 q3 w) ≡ w
  unfolding matrix row
  undone _ (word a b c d) = same (undone_row a b c d) (undone_row b c d a) (undone_row c d a b) (undone_row d a b c)

pub inv_mix_mix : (w : Word) → IsWord w → matrix 14 11 13 9 (matrix 2 3 1 1 w) ≡ w
unfolding ◌⊕◌ ◌·◌ xtime
inv_mix_mix =
    undone 14 11 13 9 2 3 1 1
    (bytes_equal (product 14 11 13 9 2 1 1 3) (λ x. x) tt)
    (bytes_equal (product 14 11 13 9 3 2 1 1) (λ x. 0) tt)
    (bytes_equal (product 14 11 13 9 1 3 2 1) (λ x. 0) tt)
    (bytes_equal (product 14 11 13 9 1 1 3 2) (λ x. 0) tt)

pub mix_inv_mix : (w : Word) → IsWord w → matrix 2 3 1 1 (matrix 14 11 13 9 w) ≡ w
unfolding ◌⊕◌ ◌·◌ xtime
mix_inv_mix =
    undone 2 3 1 1 14 11 13 9
    (bytes_equal (product 2 3 1 1 14 9 13 11) (λ x. x) tt)
    (bytes_equal (product 2 3 1 1 11 14 9 13) (λ x. 0) tt)
    (bytes_equal (product 2 3 1 1 13 11 14 9) (λ x. 0) tt)
    (bytes_equal (product 2 3 1 1 9 13 11 14) (λ x. 0) tt)
