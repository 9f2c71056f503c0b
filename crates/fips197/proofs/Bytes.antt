-- A claim on every byte, by one test that is computed at each of the 256.
use mathlib.Core.Path.{◌≡◌, subst}
use mathlib.Core.Bool.{Bool, true, false}
use Prim.Native.Nat.{ℕ, zero, suc, ◌+◌, ◌<◌}
use native.Mathlib.Nat.{not-suc-le-zero, le_of_suc-le-suc}
use native.Mathlib.Omega.{arith}
use lib.Dec.{T, eqb, eqb→eq, ltb, ltb→lt}

abbrev both : Bool → Bool → Bool
both true b = b
both false b = false

both_left : (a b : Bool) → T (both a b) → T a
both_left true b t = tt
both_left false b t = t

both_right : (a b : Bool) → T (both a b) → T b
both_right true b t = t
both_right false b t = absurd t

-- the test f passes at i, i + 1, .., n of them
abbrev pub each : (ℕ → Bool) → ℕ → ℕ → Bool
each f i zero = true
each f i (suc n) = both (f i) (each f (suc i) n)

each_at : (f : ℕ → Bool) (n i : ℕ) → T (each f i n) → (k : ℕ) → k < n → T (f (i + k))
each_at f zero i t k h = absurd (not-suc-le-zero h)
each_at f (suc n) i t zero h = subst (λ (m : ℕ). T (f m)) (omega arith) (both_left (f i) (each f (suc i) n) t)
each_at f (suc n) i t (suc k) h =
    subst (λ (m : ℕ). T (f m)) (omega arith) (each_at f n (suc i) (both_right (f i) (each f (suc i) n) t) k (le_of_suc-le-suc h))

each_byte : (f : ℕ → Bool) → T (each f 0 256) → (b : ℕ) → b < 256 → T (f b)
each_byte f t b h = subst (λ (m : ℕ). T (f m)) (omega arith) (each_at f 256 0 t b h)

-- an equation, by computing both sides
pub bytes_equal : (f g : ℕ → ℕ) → T (each (λ b. eqb (f b) (g b)) 0 256) → (b : ℕ) → b < 256 → f b ≡ g b
bytes_equal f g t b h = eqb→eq (f b) (g b) (each_byte (λ b. eqb (f b) (g b)) t b h)

pub bytes_below : (f : ℕ → ℕ) → T (each (λ b. ltb (f b) 256) 0 256) → (b : ℕ) → b < 256 → f b < 256
bytes_below f t b h = ltb→lt (f b) 256 (each_byte (λ b. ltb (f b) 256) t b h)
