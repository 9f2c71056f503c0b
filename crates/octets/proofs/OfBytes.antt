-- Strings of n bytes: parts of them, two joined, zeros, and a number's bytes.
use mathlib.Core.List.{List, [], ◌∷◌, ◌++◌}
use mathlib.Core.Path.{◌≡◌, refl, ap, ◌∙◌}
use Prim.Native.Nat.{ℕ, zero, suc, ◌+◌, ◌/◌, ◌<◌}
use native.Mathlib.Omega.{arith}
use lib.ListN.{length, get_or, take, drop, replicate, length-append, length-replicate}
use lib.Seq.{get_or-drop, length-take-le}
use Rattle.octets.specs.Bytes.{Bytes, digits, filled}

pub bytes_none : Bytes 0 []
bytes_none = record { size = refl; small = λ i. omega arith }

pub bytes_cons : {n x : ℕ} {xs : List ℕ} → x < 256 → Bytes n xs → Bytes (suc n) (x ∷ xs)
bytes_cons {n} {x} {xs} h b = record { size = ap suc b.size; small = go }
  where
    go : (i : ℕ) → get_or (x ∷ xs) i 0 < 256
    go zero = h
    go (suc i) = b.small i

pub bytes_take : (m : ℕ) {n k : ℕ} (xs : List ℕ) → Bytes n xs → length (take m xs) ≡ k → Bytes k (take m xs)
bytes_take m xs b e = record { size = e; small = go m xs b.small }
  where
    go : (m : ℕ) (xs : List ℕ) → ((i : ℕ) → get_or xs i 0 < 256) → (i : ℕ) → get_or (take m xs) i 0 < 256
    go zero xs h i = omega arith
    go (suc m) [] h i = h i
    go (suc m) (x ∷ xs) h zero = h 0
    go (suc m) (x ∷ xs) h (suc i) = go m xs (λ j. h (suc j)) i

pub bytes_drop : (m : ℕ) {n k : ℕ} (xs : List ℕ) → Bytes n xs → length (drop m xs) ≡ k → Bytes k (drop m xs)
bytes_drop m xs b e = record { size = e; small = λ i. rw (get_or-drop m xs i 0) (b.small (m + i)) }

pub bytes_append : {m n k : ℕ} {xs ys : List ℕ} → Bytes m xs → Bytes n ys → m + n ≡ k → Bytes k (xs ++ ys)
bytes_append {xs = xs} {ys = ys} b c e =
    record { size = length-append xs ys ∙ omega (arith, b.size, c.size); small = go xs b.small }
  where
    go : (xs : List ℕ) → ((i : ℕ) → get_or xs i 0 < 256) → (i : ℕ) → get_or (xs ++ ys) i 0 < 256
    go [] h i = c.small i
    go (x ∷ xs) h zero = h 0
    go (x ∷ xs) h (suc i) = go xs (λ j. h (suc j)) i

pub digits_bytes : (n v : ℕ) → Bytes n (digits n v)
unfolding digits
digits_bytes zero v = bytes_none
digits_bytes (suc n) v = bytes_append (digits_bytes n (v / 256)) (bytes_cons (omega arith) bytes_none) (omega arith)

pub zeros_bytes : (n : ℕ) → Bytes n (replicate n 0)
zeros_bytes n = record { size = length-replicate n 0; small = small n }
  where
    small : (n i : ℕ) → get_or (replicate n 0) i 0 < 256
    small zero i = omega arith
    small (suc n) zero = omega arith
    small (suc n) (suc i) = small n i

-- a string filled out with zeros
pub filled-length : (n : ℕ) (s : List ℕ) → length (filled n s) ≡ n
unfolding filled
filled-length n s = length-take-le n (s ++ replicate n 0) (simp (length-append, length-replicate) (omega arith))

pub filled_bytes : (n : ℕ) (s : List ℕ) → ((i : ℕ) → get_or s i 0 < 256) → Bytes n (filled n s)
unfolding filled
filled_bytes n s h =
    bytes_take n (s ++ replicate n 0) (bytes_append {xs = s} (record { size = refl; small = h }) (zeros_bytes n) refl)
    (filled-length n s)
