use mathlib.Core.List.{List, ◌++◌, append-nil}
use mathlib.Core.Path.{◌≡◌}
use Prim.Native.Nat.{ℕ, ◌≤◌}
use lib.ListN.{length}
use lib.Seq.{take_at, drop_at}
use borrow.Author.Rules.{rules}
use borrow.Rule.Slice.PartMut.{put_mid}
use Rattle.std.proofs.lemmas.List.{drop_all}
use Rattle.issuer.proofs.joined.Goals as goal

-- what is written over the rest of a string
behind : (a b rest : List ℕ) (n m : ℕ) → length a ≡ n → length rest ≤ m → put_mid n m (a ++ rest) b ≡ a ++ b
behind a b rest n m e l = rw (take_at a rest n e, drop_at a rest n e, drop_all m rest l, append-nil b)

pub returns : goal.returns
returns c =
    let l : length c.args.a ≡ 8 = search rules in
    rw (c.copy_from_slice-2.ensures.after, c.copy_from_slice.ensures.after) (behind c.args.a c.args.b _ 8 8 l (lib.Dec.lit≤ tt))
