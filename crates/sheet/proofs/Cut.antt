-- The lines depend on the first 4,097 bytes of the input alone, so that the program reads no more.
use mathlib.Core.Bool.{Bool, true, false, cond}
use mathlib.Core.List.{List}
use mathlib.Core.Path.{◌≡◌, refl, sym, ap, ◌∙◌}
use Prim.Native.Nat.{ℕ, ◌<◌}
use native.Mathlib.Omega.{arith}
use lib.Dec.{ltb}
use lib.ListN.{length, take}
use lib.Seq.{length-take-le, take_all, take-take}
use borrow.Author.Tests.{ltb-true, ltb-false, lt-ltb, le-ltb}
use Rattle.octets.specs.Answers.{answer}
use Rattle.track_spec.specs.Track.{known, read_rows, read_box}
use Rattle.sheet.specs.Sheet.{refused, told, lines}

-- over 4,096 bytes: 2 under a known code, and 1 under another
over : (code : Bool) (s : List ℕ) → known (take 4 s) ≡ code → 4096 < length s → lines s ≡ cond code (refused 2) (refused 1)
unfolding answer read_rows read_box told lines
over true s k h = rw (le-ltb (length s) 4 (omega arith), k, lt-ltb 4096 (length s) h)
over false s k h = rw (le-ltb (length s) 4 (omega arith), k)

pub lines_cut : (s : List ℕ) → lines (take 4097 s) ≡ lines s
lines_cut s = go (ltb 4097 (length s)) refl
  where
    go : (t : Bool) → ltb 4097 (length s) ≡ t → lines (take 4097 s) ≡ lines s
    go true e =
        let h : 4097 < length s = ltb-true 4097 (length s) e in
        over (known (take 4 s)) (take 4097 s) (ap known (take-take 4 4097 s (omega arith)))
        (omega (arith, length-take-le 4097 s (omega arith)))
        ∙ sym (over (known (take 4 s)) s refl (omega arith))
    go false e = ap lines (take_all 4097 s (ltb-false 4097 (length s) e))
