use mathlib.Core.Path.{◌≡◌}
use Prim.Native.Nat.{◌≤◌}
use native.Mathlib.Omega.{arith}
use Rattle.scheme.specs.Layout.{period}
use Rattle.scheme.proofs.Runs.{run_last, run_every, pattern_crypt, pattern_skip, in_both}
use Rattle.part.proofs.runs.pattern_run.Goals as goal

pub returns-then-period-eq0 : goal.returns-then-period-eq0
returns-then-period-eq0 c =
    let z : period c.args.pattern ≡ 0 = omega (arith, c.if-period-eq0.true) in
    in_both _ _ _ _ _ (run_every _ _ _ _ _ z (c.whole_run.ensures _))

pub returns-then-whole-o : goal.returns-then-whole-o
returns-then-whole-o c = in_both _ _ _ _ _ (run_last _ _ _ c.requires.0 c.if-whole-o.true)

pub returns-then-nth-crypt : goal.returns-then-nth-crypt
returns-then-nth-crypt c =
    let some : 1 ≤ period c.args.pattern = omega (arith, c.if-period-eq0.false) in
    in_both _ _ _ _ _ (λ s h. pattern_crypt _ _ _ _ some c.if-whole-o.false s h c.if-nth-crypt.true c.min.ensures)

pub returns-else-nth-crypt : goal.returns-else-nth-crypt
returns-else-nth-crypt c =
    let some : 1 ≤ period c.args.pattern = omega (arith, c.if-period-eq0.false) in
    in_both _ _ _ _ _ (λ s h. pattern_skip _ _ _ _ some c.if-whole-o.false s h c.if-nth-crypt.false c.min-else-nth-crypt.ensures)
