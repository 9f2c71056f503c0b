use Rattle.std.proofs.Common.{rules, arith, drop, ◌++◌}
use native.Mathlib.Numerals.{add-one}
use lib.ListN.{length-append, length-take, length-drop}
use lib.Seq.{paste-suc}
use Rattle.std.proofs.lemmas.List.{same_lists, places}
use Rattle.joined.specs.Joined.{joined_into}
use Rattle.joined.proofs.join.Goals as goal

pub loop-i-preserved : goal.loop-i-preserved
loop-i-preserved c =
    let l = c.loop-i in
    rw (l.invariant, add-one)
    (paste-suc (c.copy_from_slice.new.self ++ drop c.min-a.result c.args.out.now) c.min-a.result c.args.second.now l.i 0
    (simp (length-append, length-drop) (omega (arith, c.min-a.ensures, c.min-b.ensures, c.copy_from_slice.ensures.len, simp length-take at c.copy_from_slice.auto.self))) (omega (arith, c.min-b.ensures)))

pub returns : goal.returns
unfolding joined_into
returns c = same_lists _ _ (search (rules, places)) (λ k d h. grind (arith, places))
