use mathlib.Core.Path.{refl, ap, ◌∙◌}
use lib.Dec.{eqb}
use Rattle.std.proofs.Common.{rules, tests}
use Rattle.std.specs.List.{slice_split}
use Rattle.std.proofs.lemmas.Iterator.Splits.{YieldsList-from_slice_split}
use Rattle.std.proofs.lemmas.Iterator.Consumers.{nth_from_yields_List}
use Rattle.text.proofs.Words.{word-part, part_or_none}
use Rattle.text.proofs.word.Goals as goal

pub returns : goal.returns
returns c =
    let a = c.args in
    let s = c.split.ensures in
    let n = nth_from_yields_List _ _ _ c.nth.ensures.ran (YieldsList-from_slice_split _ (λ x. eqb x a.parting) a.line.now s.rest s.done s.closure (λ x b q k. search (rules, tests))) in
    ap (λ r. r.now) c.unwrap_or.ensures ∙ part_or_none (slice_split (λ x. eqb x a.parting) a.line.now) a.index _ _ n refl ∙ word-part a.parting a.line.now a.index
