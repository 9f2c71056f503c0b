use mathlib.Core.List.{List, ◌++◌}
use mathlib.Core.Path.{◌≡◌, sym, ap, ◌∙◌}
use Prim.Native.Nat.{ℕ}
use lib.ListN.{take, drop, length, replicate, length-append}
use Rattle.std.proofs.Common.{rules, arith}
use Rattle.std.proofs.lemmas.List.{same_lists, places}
use Rattle.octets.specs.Bytes.{filled}
use Rattle.joined.specs.Joined.{joined_into}
use Rattle.joined.proofs.sixteen.Goals as goal

-- what is left of the zeros behind a string fills it out as all of them do
zeros_behind : (n : ℕ) (s : List ℕ) → take n (s ++ drop (length s) (replicate n 0)) ≡ filled n s
unfolding filled
zeros_behind n s = same_lists _ _ (search (rules, places)) (λ k d h. grind (arith, places))

pub returns : goal.returns
unfolding joined_into
returns c =
    let s = c.args.first.now ++ c.args.second.now in
    c.join.ensures
    ∙ ap (λ (k : ℕ). take 16 (s ++ drop k (replicate 16 0))) (sym (length-append c.args.first.now c.args.second.now))
    ∙ zeros_behind 16 s
