-- What one turn of a loop over the rounds adds.
use mathlib.Core.Path.{◌≡◌}
use mathlib.Core.List.{List, []}
use Prim.Native.Nat.{ℕ, zero, suc, ◌+◌, ◌-◌, ◌<◌, ◌≤◌}
use native.Mathlib.Nat.{not-suc-le-zero}
use native.Mathlib.Numerals.{add-one}
use native.Mathlib.Omega.{arith}
use lib.ListN.{get_or}
use Rattle.fips197.specs.State.{State}
use Rattle.fips197.specs.Cipher.{round, rounds}
use Rattle.fips197.specs.InvCipher.{inv_round, inv_rounds}

pub rounds-next : (w : List State) (s : State) (i : ℕ) → rounds w (i + 1) s ≡ round (rounds w i s) (get_or w (i + 1) [])
unfolding rounds
rounds-next w s i = rw add-one

pub inv_rounds-next : (w : List State) (s : State) (i : ℕ) → 0 < i
    → inv_rounds w i s ≡ inv_rounds w (i - 1) (inv_round s (get_or w i []))
unfolding inv_rounds
inv_rounds-next w s zero h = absurd (not-suc-le-zero h)
inv_rounds-next w s (suc i) h =
    let e : suc i - 1 ≡ i = omega arith in
    rw e

pub inv_rounds_end : (w : List State) (s u : State) (i : ℕ) → i ≤ 0 → inv_rounds w i s ≡ u → s ≡ u
unfolding inv_rounds
inv_rounds_end w s u zero h e = e
inv_rounds_end w s u (suc i) h e = absurd (not-suc-le-zero h)
