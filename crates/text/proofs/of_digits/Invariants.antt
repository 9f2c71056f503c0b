use mathlib.Core.Bool.{true}
use mathlib.Core.Path.{◌≡◌}
use Prim.Native.Nat.{ℕ, ◌<◌}
use lib.ListN.{get_or, drop}
use Rattle.text.specs.Text as spec
use Rattle.text.proofs.of_digits.Given as goal

abbrev pub invariant-loop-c : goal.invariant-loop-c
invariant-loop-c l = ((k : ℕ) → k < l.c-index → spec.below 10 (spec.value (get_or l.word k 0)) ≡ true) × (spec.decimal_from l.sum (drop l.c-index l.word) ≡ spec.decimal_from 0 l.word)
