use borrow.Author.Tests.{lt-ltb, le-ltb}
use Rattle.scheme.specs.Layout.{in_whole_block}
use Rattle.scheme.proofs.Patterns.{every_block, by_period}
use native.Mathlib.Omega.{arith}
use Rattle.std.proofs.Common.{rules, tests}
use Rattle.layout.proofs.in_pattern.Goals as goal

pub returns-then-period-eq0 : goal.returns-then-period-eq0
unfolding in_whole_block
returns-then-period-eq0 c =
    let a = c.args in
    rw (lt-ltb _ _ c.if-block-n.true, every_block a.pattern a.o c.if-period-eq0.true) (search (rules, tests, c.if-period-eq0.true))

pub returns-else-period-eq0 : goal.returns-else-period-eq0
unfolding in_whole_block
returns-else-period-eq0 c =
    let a = c.args in
    rw (lt-ltb _ _ c.if-block-n.true, by_period a.pattern a.o (omega (arith, c.if-period-eq0.false))) (search (rules, tests))

pub returns-else-block-n : goal.returns-else-block-n
unfolding in_whole_block
returns-else-block-n c = rw (le-ltb _ _ c.if-block-n.false)
