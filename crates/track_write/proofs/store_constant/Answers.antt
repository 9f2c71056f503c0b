use mathlib.Core.List.{[], ◌∷◌}
use mathlib.Core.Path.{◌≡◌, refl}
use Prim.Native.Nat.{◌+◌}
use lib.ListN.{length}
use Rattle.octets.proofs.Fill.{placed-next}
use borrow.Author.Rules.{rules}
use native.Mathlib.Omega.{arith}
use Rattle.track_write.proofs.store_constant.Goals as goal

pub returns : goal.returns
returns c =
    let n : length c.args.iv.0 ≡ 16 = search rules in
    let e = placed-next c.args.out.now c.args.at (16 ∷ []) c.args.iv.0 (c.args.at + 1) refl (omega (arith, c.requires)) in
    cc (c.copy-2.ensures, c.copy.ensures, e)
