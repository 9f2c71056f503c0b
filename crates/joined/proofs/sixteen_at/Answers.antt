use mathlib.Core.List.{List, ◌++◌}
use mathlib.Core.Path.{◌≡◌}
use Prim.Native.Nat.{ℕ, ◌+◌, ◌-◌, ◌<◌}
use native.Mathlib.Omega.{arith}
use lib.ListN.{length, drop}
use lib.Seq.{drop-append-add}
use Rattle.joined.proofs.sixteen_at.Goals as goal

-- what follows a place past the first string
drop_later : (f s : List ℕ) (j : ℕ) → length f < j → drop j (f ++ s) ≡ drop (j - length f) s
drop_later f s j l =
    let e : length f + (j - length f) ≡ j = omega arith in
    rw e at (drop-append-add f s (j - length f))

pub returns-in-None : goal.returns-in-None
returns-in-None c =
    rw (drop_later c.args.first.now c.args.second.now c.args.at (grind (arith, c.in-None.ensures.lookup))) c.filled_at.ensures
