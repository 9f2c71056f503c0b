-- Cipher block chaining over a slice, one block a turn.
use mathlib.Core.List.{List, [], ◌++◌, append_assoc}
use mathlib.Core.Path.{◌≡◌, refl, sym, ap, ◌∙◌}
use Prim.Native.Nat.{ℕ, suc, ◌+◌, ◌-◌, ◌/◌, ◌≤◌, ◌<◌}
use native.Mathlib.Omega.{arith}
use lib.ListN.{length, take, drop, length-drop}
use lib.Seq.{drop-drop}
use borrow.Rule.Slice.PartMut.{put_mid}
use Rattle.octets.proofs.Fill.{Filled, fill_none, fill_drop, fill_part}
use Rattle.modes_spec.specs.declared.Direction.{Direction}
use Rattle.modes_spec.specs.Modes.{Cipher, block_out, block_chain, cbc_blocks, cbc, chain_blocks, chain_end}

module _ (E D : Cipher) (d : Direction) (c xs : List ℕ) where
  -- one block more
  module _ (l : 16 ≤ length xs) where
    more : length xs / 16 ≡ suc (length (drop 16 xs) / 16)
    more = simp length-drop (omega arith)

    pub cbc_step : cbc E D d c xs ≡ block_out E D d c (take 16 xs) ++ cbc E D d (block_chain E D d c (take 16 xs)) (drop 16 xs)
    unfolding cbc cbc_blocks
    cbc_step = rw more

    pub end_step : chain_end E D d c xs ≡ chain_end E D d (block_chain E D d c (take 16 xs)) (drop 16 xs)
    unfolding chain_end chain_blocks
    end_step = rw more

  -- no block more
  module _ (l : length xs < 16) where
    none : length xs / 16 ≡ 0
    none = omega arith

    pub cbc_rest : cbc E D d c xs ≡ xs
    unfolding cbc cbc_blocks
    cbc_rest = rw none

    pub end_rest : chain_end E D d c xs ≡ c
    unfolding chain_end chain_blocks
    end_rest = rw none

-- i bytes of xs are done, the chain stands at b, and what is left goes on from there
pub record Chained (E D : Cipher) (d : Direction) (c xs ys b : List ℕ) (i : ℕ) : Type 0 where
  pub done : List ℕ
  pub filled : Filled xs ys done i
  pub left : cbc E D d c xs ≡ done ++ cbc E D d b (drop i xs)
  pub last : chain_end E D d c xs ≡ chain_end E D d b (drop i xs)

pub chain_start : (E D : Cipher) (d : Direction) (c xs : List ℕ) → Chained E D d c xs xs c 0
chain_start E D d c xs = record { done = []; filled = fill_none xs [] refl; left = refl; last = refl }

module _ {E D : Cipher} {d : Direction} {c xs ys b : List ℕ} {i : ℕ} (s : Chained E D d c xs ys b i) where
  pub chain_next : i + 16 ≤ length xs → (z b' : List ℕ) → length z ≡ 16 → z ≡ block_out E D d b (take (i + 16 - i) (drop i ys))
      → b' ≡ block_chain E D d b (take (i + 16 - i) (drop i ys)) → Chained E D d c xs (put_mid i (i + 16 - i) ys z) b' (i + 16)
  chain_next l z b' n ez eb =
      let m : i + 16 - i ≡ 16 = omega arith in
      let h : 16 ≤ length (drop i xs) = simp length-drop (omega arith) in
      let x : z ≡ block_out E D d b (take 16 (drop i xs)) = ez ∙ rw (m, fill_drop s.filled) in
      let y : b' ≡ block_chain E D d b (take 16 (drop i xs)) = eb ∙ rw (m, fill_drop s.filled) in
      record {
        done = s.done ++ z;
        filled = fill_part s.filled (i + 16) (omega arith) l z (s.done ++ z) (n ∙ sym m) refl;
        left = s.left ∙ rw (cbc_step E D d b (drop i xs) h, ← x, ← y, drop-drop 16 i xs) (sym (append_assoc s.done z _));
        last = s.last ∙ rw (end_step E D d b (drop i xs) h, ← y, drop-drop 16 i xs);
      }

  module _ (l : length xs - i < 16) where
    short : length (drop i xs) < 16
    short = simp length-drop (omega arith)

    pub chain_done : ys ≡ cbc E D d c xs
    chain_done = s.filled.here ∙ sym (s.left ∙ ap (λ (r : List ℕ). s.done ++ r) (cbc_rest E D d b (drop i xs) short))

    pub chain_last : b ≡ chain_end E D d c xs
    chain_last = sym (s.last ∙ end_rest E D d b (drop i xs) short)
