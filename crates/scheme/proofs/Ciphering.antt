-- What a run of ciphered bytes gives, in either mode.
use mathlib.Core.Path.{◌≡◌, ◌∙◌}
use mathlib.Core.Bool.{Bool, true, false, cond}
use mathlib.Core.List.{List, ◌++◌}
use Prim.Native.Nat.{ℕ, ◌+◌, ◌-◌, ◌*◌, ◌/◌, ◌%◌, ◌<◌}
use native.Mathlib.Omega.{arith}
use lib.ListN.{length, replicate}
use Rattle.modes_spec.specs.declared.Direction.{Direction}
use Rattle.modes_spec.specs.Modes.{Cipher, counter_at, ctr, cbc, chain_end, Sized}
use Rattle.octets.specs.Bytes.{Bytes}
use Rattle.scheme.specs.declared.Mode.{Mode}
use Rattle.scheme.specs.declared.Mode.TheVariants.{Counter, Chain}
use Rattle.scheme.proofs.Passes.{passes_ctr, passes_cbc}
use Rattle.scheme.specs.Walk.{Passes, RestartsAt, Blocks}

module _ (E D : Cipher) (d : Direction) (iv : List ℕ) (a : Bool) (fs : List Bool) (u : ℕ) (c xs r ys : List ℕ) where
  abbrev Given : Mode → Type 0
  Given k = RestartsAt k a fs (length xs) → Passes E D d k iv (replicate (length xs) true) fs u c xs ((u + length xs) % 16) r ys

  pub run_counter : (k : Mode) → k ≡ Counter → Bytes 16 c → u < 16 → ys ≡ ctr E c u xs → r ≡ counter_at c ((u + length xs) / 16)
      → Given k
  unfolding RestartsAt
  run_counter k e b l ey er = rw (e, ey, er) (λ h. passes_ctr E D d iv c (omega (arith, b.size)) b fs u xs l h)

  chain_at_lem : Sized E → Sized D → (q : ℕ) → length xs ≡ 16 + q * 16 → u ≡ 0 → ys ≡ cbc E D d (cond a iv c) xs
      → r ≡ chain_end E D d (cond a iv c) xs → Given Chain
  unfolding RestartsAt
  chain_at_lem sE sD q n z ey er h =
      let m : 16 + q * 16 - 16 ≡ q * 16 = omega arith in
      let w : (0 + (16 + q * 16)) % 16 ≡ 0 = omega arith in
      let g : fs ≡ replicate 16 a ++ replicate (q * 16) false = h ∙ rw (n, m) in
      rw (g, n, z, w, ey, er) (passes_cbc E D sE sD d iv q a c xs n)

  pub run_chain : (k : Mode) → k ≡ Chain → Sized E → Sized D → Blocks u (length xs) → ys ≡ cbc E D d (cond a iv c) xs
      → r ≡ chain_end E D d (cond a iv c) xs → Given k
  run_chain k e sE sD b ey er = rw e (chain_at_lem sE sD (length xs / 16 - 1) (omega (arith, b.whole, b.some)) b.unused ey er)
