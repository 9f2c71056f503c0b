-- An output whose end was lent.
use mathlib.Core.List.{List, [], ◌++◌, append-nil}
use mathlib.Core.Path.{◌≡◌}
use Prim.Native.Nat.{ℕ, ◌-◌}
use native.Mathlib.Omega.{arith}
use lib.ListN.{length, take, drop, length-drop, drop_of_length-le}
use borrow.Rule.Slice.PartMut.{put_mid}

-- its beginning, and what the call left in the lent part
pub put_end : (ys z : List ℕ) (i : ℕ) → put_mid i (length ys - i) ys z ≡ take i ys ++ z
put_end ys z i =
    let e : drop (length ys - i) (drop i ys) ≡ [] = drop_of_length-le (drop i ys) {i = length ys - i} (simp length-drop (omega arith)) in
    rw (e, append-nil)
