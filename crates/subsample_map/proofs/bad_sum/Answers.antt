use Prim.Native.Nat.{◌+◌}
use borrow.Author.Tests.{lt-ltb}
use Rattle.std.proofs.Common.{arith, rules, refl, ◌∙◌}
use Rattle.subsample_spec.specs.declared.Entry.{Entry}
use Rattle.subsample_spec.proofs.Counting.{sum_used}
use Rattle.subsample_map.proofs.bad_sum.Goals as goal

pub returns-then-map-gt0 : goal.returns-then-map-gt0
returns-then-map-gt0 c =
    let e = c.total.ensures ∙ sum_used c.args.map _ refl (search rules) c.requires (λ (e : Entry). e.clear + e.protected) in
    rw (lt-ltb 0 c.args.map.count (omega (arith, c.if-map-gt0.true)), e)
