-- What a conjunction or a disjunction of tests says of each.
use mathlib.Core.Bool.{Bool, true, false, ◌&&◌, ◌||◌, false≢true, true≢false}
use mathlib.Core.Logic.{◌⊎◌, inl, inr}
use mathlib.Core.Path.{◌≡◌, refl}

pub &&_left : (a b : Bool) → a && b ≡ true → a ≡ true
&&_left true b e = refl
&&_left false b e = e

pub &&_right : (a b : Bool) → a && b ≡ true → b ≡ true
&&_right true b e = e
&&_right false b e = absurd (false≢true e)

pub or_true_cases : (a b : Bool) → a || b ≡ true → (a ≡ true) ⊎ (b ≡ true)
or_true_cases true b e = inl refl
or_true_cases false b e = inr e

pub or_false_left : (a b : Bool) → a || b ≡ false → a ≡ false
or_false_left true b e = e
or_false_left false b e = refl

pub or_false_right : (a b : Bool) → a || b ≡ false → b ≡ false
or_false_right true b e = absurd (true≢false e)
or_false_right false b e = e
