-- The definitions tried within a few steps of the largest counter.
use mathlib.Core.List.{List, [], ◌∷◌, ◌++◌}
use mathlib.Core.Path.{◌≡◌, refl}
use Prim.Native.Nat.{ℕ}
use lib.ListN.{replicate}
use Rattle.octets.specs.Answers.{answer}
use Rattle.octets.specs.Bytes.{number, digits, filled}
use Rattle.issuer_spec.specs.Issuer.{Granted}
use Rattle.issuer_spec.specs.Issuer.{start_rows, started, start, vector, advance, last_counter, grant_rows, after, grant}
use Rattle.issuer_spec.specs.Grants.{run}

-- The answer and the start vector of each grant.
told : List Granted → List (List ℕ)
told [] = []
told (g ∷ gs) = (g.answer ∷ g.vector.0) ∷ told gs

-- Two below the largest in size 16: a count of 4 is too large, 2 and 1 cover the three counters that are left.
sixteen : List ℕ
sixteen = replicate 15 255 ++ (253 ∷ [])

sixteen_told : told (run (start sixteen).issuer (4 ∷ 2 ∷ 2 ∷ 1 ∷ 1 ∷ []))
    ≡ (20 ∷ replicate 16 0) ∷ (0 ∷ sixteen) ∷ (20 ∷ replicate 16 0) ∷ (0 ∷ replicate 16 255) ∷ (20 ∷ replicate 16 0) ∷ []
unfolding told sixteen run start start_rows started vector advance last_counter grant_rows after grant answer number digits filled
sixteen_told = refl

-- One below the largest in size 8, where any count takes one counter.
eight : List ℕ
eight = replicate 7 255 ++ (254 ∷ [])

eight-told : told (run (start eight).issuer (0 ∷ 1048576 ∷ 1048577 ∷ 1 ∷ 1 ∷ []))
    ≡ (19 ∷ replicate 16 0) ∷ (0 ∷ eight ++ replicate 8 0) ∷ (19 ∷ replicate 16 0) ∷ (0 ∷ replicate 8 255 ++ replicate 8 0)
    ∷ (20 ∷ replicate 16 0) ∷ []
unfolding told eight run start start_rows started vector advance last_counter grant_rows after grant answer number digits filled
eight-told = refl
