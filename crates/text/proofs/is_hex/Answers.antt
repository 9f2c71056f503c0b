use mathlib.Core.Path.{◌≡◌, sym, ◌∙◌}
use Rattle.std.proofs.Common.{rules, tests}
use Rattle.std.specs.Option.{is_some}
use Rattle.std.proofs.lemmas.Iterator.{YieldsList-from_slice}
use Rattle.std.proofs.lemmas.Iterator.Search.{all_from_yields_List}
use Rattle.text.specs.Text as spec
use Rattle.text.proofs.Digits.{all-digits}
use Rattle.text.proofs.is_hex.Goals as goal

pub returns-then-all : goal.returns-then-all
unfolding spec.is_hex
returns-then-all c =
    let w = c.args.word.now in
    let e : c.all.result ≡ spec.digits_below 16 w = all_from_yields_List (λ x. is_some (spec.value x)) _ _ _ c.all.ensures.ran (YieldsList-from_slice w cc) (λ x b q k. search (rules, tests)) ∙ all-digits w in
    rw (sym e ∙ c.if-all.true)

pub returns-else-all : goal.returns-else-all
unfolding spec.is_hex
returns-else-all c =
    let w = c.args.word.now in
    let e : c.all.result ≡ spec.digits_below 16 w = all_from_yields_List (λ x. is_some (spec.value x)) _ _ _ c.all.ensures.ran (YieldsList-from_slice w cc) (λ x b q k. search (rules, tests)) ∙ all-digits w in
    rw (sym e ∙ c.if-all.false) c.if-all.false
