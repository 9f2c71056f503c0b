-- Rust's big-endian bytes of a number are `digits`, and the number of such bytes is `number`.
use Rattle.std.specs.Prelude.{List, [], ◌∷◌, ℕ, ◌≡◌, ◌+◌, ◌*◌, ◌^◌, ◌<◌, ◌≤◌, get_or, drop}
use Rattle.std.proofs.Common.{zero, suc, refl, sym, ap, ap₂, ◌∙◌, arith}
use lib.Seq.{get_or-drop}
use Rattle.std.specs.Int.{w16, w32, w64, to_be_bytes, from_be_bytes}
use Rattle.std.proofs.lemmas.Nat.{be_bytes_2, be_bytes_4, be_bytes_8}
use Rattle.octets.specs.Bytes.{number, digits, filled}
use Rattle.octets.proofs.Bytes.{filled-list_of, length_digits, number_digits, get_d_list_of}
use Rattle.octets.proofs.OfBytes.{digits_bytes}

-- the number that N bytes filled out with zeros hold
pub number_filled : (n : ℕ) (s : List ℕ) (at : ℕ) → number n (filled n (drop at s)) 0 ≡ number n s at
unfolding number
number_filled n s at = go n n (omega arith)
  where
    go : (k m : ℕ) → k ≤ m → number k (filled m (drop at s)) 0 ≡ number k s at
    go zero m h = refl
    go (suc k) m h =
        ap₂ (λ (x y : ℕ). x * 256 + y) (go k m (omega arith))
        (ap (λ (i : ℕ). get_or (filled m (drop at s)) i 0) (omega arith)
        ∙ ap (λ (l : List ℕ). get_or l k 0) (filled-list_of m (drop at s))
        ∙ get_d_list_of m _ 0 k (omega arith)
        ∙ get_or-drop at s k 0)

from_be_2 : (s : List ℕ) → from_be_bytes w16 s ≡ number 2 s 0
unfolding number
from_be_2 s = omega arith

from_be_4 : (s : List ℕ) → from_be_bytes w32 s ≡ number 4 s 0
unfolding number
from_be_4 s = omega arith

-- three bytes behind a zero
from_be_3 : (s : List ℕ) → from_be_bytes w32 (0 ∷ get_or s 0 0 ∷ get_or s 1 0 ∷ get_or s 2 0 ∷ []) ≡ number 3 s 0
unfolding number
from_be_3 s = omega arith

from_be_8 : (s : List ℕ) → from_be_bytes w64 s ≡ number 8 s 0
unfolding number
from_be_8 s = omega arith

-- read
pub be-2 : (s : List ℕ) (at : ℕ) → from_be_bytes w16 (filled 2 (drop at s)) ≡ number 2 s at
be-2 s at = from_be_2 _ ∙ number_filled 2 s at

pub be-3 : (s : List ℕ) (at : ℕ) (f : List ℕ) → f ≡ filled 3 (drop at s)
    → from_be_bytes w32 (0 ∷ get_or f 0 0 ∷ get_or f 1 0 ∷ get_or f 2 0 ∷ []) ≡ number 3 s at
be-3 s at f e = from_be_3 f ∙ ap (λ l. number 3 l 0) e ∙ number_filled 3 s at

pub be-4 : (s : List ℕ) (at : ℕ) → from_be_bytes w32 (filled 4 (drop at s)) ≡ number 4 s at
be-4 s at = from_be_4 _ ∙ number_filled 4 s at

pub be-8 : (s : List ℕ) (at : ℕ) → from_be_bytes w64 (filled 8 (drop at s)) ≡ number 8 s at
be-8 s at = from_be_8 _ ∙ number_filled 8 s at

-- written
pub to_be-2 : (n : ℕ) → n < 2 ^ 16 → to_be_bytes w16 n ≡ digits 2 n
to_be-2 n h = be_bytes_2 _ n (length_digits 2 n) (digits_bytes 2 n).small (sym (number_digits 2 n h) ∙ sym (from_be_2 _))

pub to_be-4 : (n : ℕ) → n < 2 ^ 32 → to_be_bytes w32 n ≡ digits 4 n
to_be-4 n h = be_bytes_4 _ n (length_digits 4 n) (digits_bytes 4 n).small (sym (number_digits 4 n h) ∙ sym (from_be_4 _))

pub to_be-8 : (n : ℕ) → n < 2 ^ 64 → to_be_bytes w64 n ≡ digits 8 n
to_be-8 n h = be_bytes_8 _ n (length_digits 8 n) (digits_bytes 8 n).small (sym (number_digits 8 n h) ∙ sym (from_be_8 _))

-- for the check's own proofs
pub ruleset big_endian = (be-2, be-3, be-4, be-8, to_be-2, to_be-4, to_be-8)
