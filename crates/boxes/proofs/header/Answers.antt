use mathlib.Core.List.{List, ◌∷◌, ◌++◌}
use mathlib.Core.Path.{◌≡◌, sym, ap, ◌∙◌}
use Prim.Native.Nat.{ℕ}
use lib.ListN.{length, get_or}
use Rattle.octets.specs.Bytes.{list_of, digits}
use Rattle.octets.proofs.Bytes.{list_of_get_d}
use Rattle.octets.proofs.BigEndian.{to_be-4}
use Rattle.boxes.specs.Box.{header}
use borrow.Author.Rules.{rules}
use Rattle.boxes.proofs.header.Goals as goal

pub returns : goal.returns
unfolding header digits
returns c =
    let a = c.args in
    let n : length a.kind ≡ 4 = search rules in
    let k : list_of 4 (λ i. get_or a.kind i 0) ≡ a.kind = ap (λ (m : ℕ). list_of m (λ i. get_or a.kind i 0)) (sym n) ∙ list_of_get_d 0 a.kind in
    rw (c.to_be_bytes.ensures ∙ to_be-4 a.size c.ranges.size.fits, c.to_be_bytes-2.ensures ∙ to_be-4 a.flags c.ranges.flags.fits)
    (ap (λ (l : List ℕ). digits 4 a.size ++ (l ++ (a.version ∷ digits 3 a.flags))) k)
