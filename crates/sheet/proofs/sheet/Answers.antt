use Prim.Native.Nat.{◌≤◌}
use lib.ListN.{length}
use Rattle.sheet.proofs.Texts.{lengths}
use native.Mathlib.Omega.{arith}
use Rattle.sheet.proofs.sheet.Goals as goal

pub constant_line-requires : goal.constant_line-requires
constant_line-requires c =
    let before_kid : length c.number_line-3.new.self ≤ 61 = grind (arith, lengths) in
    grind (arith, lengths)
