-- Which blocks of a range a pattern ciphers, by their numbers.
use mathlib.Core.Bool.{true, false}
use mathlib.Core.Logic.{◌⊎◌, inl, inr}
use mathlib.Core.Path.{◌≡◌, refl}
use Prim.Native.Nat.{ℕ, zero, suc, ◌+◌, ◌/◌, ◌%◌, ◌≤◌}
use native.Mathlib.Nat.{zero-mod, mod-one}
use native.Mathlib.Omega.{arith}
use lib.Dec.{ltb}
use borrow.Author.Tests.{eq-eqb, ne_eqb, lt-ltb, le-ltb}
use Rattle.track_spec.specs.Track.{no_pattern}
use Rattle.scheme.specs.declared.Pattern.{Pattern}
use Rattle.scheme.specs.Layout.{period, is_crypt_block, in_crypt_run}

-- 0:0 has no period
no_period : (crypt skip : ℕ) → crypt + skip ≡ 0 → no_pattern crypt skip ≡ true
no_period crypt skip e = rw (eq-eqb crypt 0 (omega arith), eq-eqb skip 0 (omega arith))

some-period : (crypt skip : ℕ) → 1 ≤ crypt + skip → no_pattern crypt skip ≡ false
some-period zero zero l = absurd (omega arith)
some-period zero (suc skip) l = ne_eqb (suc skip) 0 (omega arith)
some-period (suc crypt) skip l = rw (ne_eqb (suc crypt) 0 (omega arith))

-- so each block is one of its crypt blocks; of another pattern those that each period begins with
module _ (pattern : Pattern) (o : ℕ) where
  pub every_block : period pattern ≡ 0 → in_crypt_run pattern o ≡ true
  unfolding in_crypt_run
  every_block e = rw (no_period pattern.crypt pattern.skip e)

  pub by_period : 1 ≤ period pattern → in_crypt_run pattern o ≡ ltb (o / 16 % period pattern) pattern.crypt
  unfolding in_crypt_run
  by_period l = rw (some-period pattern.crypt pattern.skip l)

-- the first block of a range is ciphered, or no block is
pub first_or_none : (pattern : Pattern) → (is_crypt_block pattern 0 ≡ true) ⊎ ((k : ℕ) → is_crypt_block pattern k ≡ false)
first_or_none pattern = go pattern.crypt pattern.skip
  where
    go : (c s : ℕ)
        → (is_crypt_block (record { crypt = c; skip = s }) 0 ≡ true) ⊎ ((k : ℕ) → is_crypt_block (record { crypt = c; skip = s }) k ≡ false)
    go zero zero = inl refl
    go zero (suc s) = inr (λ k. rw (ne_eqb (suc s) 0 (omega arith)) (le-ltb (k % (0 + suc s)) 0 (omega arith)))
    go (suc c) s = inl (rw (ne_eqb (suc c) 0 (omega arith), zero-mod (suc c + s)) (lt-ltb 0 (suc c) (omega arith)))

-- 0:0 ciphers the blocks that 1:0 does
pub as_one_to_zero : (o : ℕ) → in_crypt_run (record { crypt = 0; skip = 0 }) o ≡ in_crypt_run (record { crypt = 1; skip = 0 }) o
unfolding in_crypt_run
as_one_to_zero o = rw (mod-one (o / 16))
