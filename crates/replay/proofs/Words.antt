-- A word put at the front of other bytes, and taken from there.
use mathlib.Core.Bool.{Bool, true, false, cond}
use mathlib.Core.List.{List, []}
use mathlib.Core.Path.{◌≡◌, refl}
use Prim.Native.Nat.{ℕ, ◌+◌, ◌≤◌}
use native.Mathlib.Omega.{arith}
use lib.Dec.{leb}
use lib.ListN.{length, take, drop}
use lib.Seq.{take_at}
use borrow.Author.Tests.{leb-true, leb-false, le-leb, lt-leb}
use Rattle.octets.specs.Bytes.{placed}
use Rattle.text.specs.Text.{hex_word, end_of}
use Rattle.replay.specs.Output.{word}

module _ (s w : List ℕ) (size : length s ≡ 262144) where
  pub end_within : end_of s 0 w ≤ 262144
  unfolding end_of
  end_within = go (leb (0 + length w) (length s)) refl
    where
      go : (t : Bool) → leb (0 + length w) (length s) ≡ t → cond (leb (0 + length w) (length s)) (0 + length w) 0 ≤ 262144
      go true e = rw e (omega (arith, leb-true (0 + length w) (length s) e, size))
      go false e = rw e (omega arith)

  front : take (end_of s 0 w) (placed s 0 w) ≡ cond (leb (length w) 262144) w []
  unfolding end_of placed
  front = go (leb (0 + length w) (length s)) refl
    where
      go : (t : Bool) → leb (0 + length w) (length s) ≡ t
          → take (cond (leb (0 + length w) (length s)) (0 + length w) 0) (placed s 0 w) ≡ cond (leb (length w) 262144) w []
      go true e =
          let l = leb-true (0 + length w) (length s) e in
          rw (e, le-leb (length w) 262144 (omega (arith, l, size))) (take_at w (drop (0 + length w) s) (0 + length w) (omega arith))
      go false e =
          let l = leb-false (0 + length w) (length s) e in
          rw (e, lt-leb (length w) 262144 (omega (arith, l, size))) refl

pub word_front : (s bytes : List ℕ) → length s ≡ 262144 → take (end_of s 0 (hex_word bytes)) (placed s 0 (hex_word bytes)) ≡ word bytes
unfolding word
word_front s bytes size = front s (hex_word bytes) size
