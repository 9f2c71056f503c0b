use mathlib.Core.Bool.{Bool, true, false, cond}
use mathlib.Core.List.{[]}
use mathlib.Core.Path.{◌≡◌, refl, sym, ap, ◌∙◌}
use Prim.Native.Nat.{ℕ, ◌+◌, ◌*◌, ◌≤◌}
use lib.Dec.{leb}
use lib.ListN.{get_or, drop, drop_of_length-le}
use borrow.Author.Count.{below_more}
use borrow.Author.Tests.{leb-true}
use Rattle.std.specs.Bool.{then_some}
use Rattle.std.specs.Option.{unwrap_or, IfSome}
use Rattle.text.specs.Text as spec
use Rattle.text.proofs.Digits.{below_not, below_all, worth_is, worth_not, from_grows, from_next, digits_not, digits_above}
use native.Mathlib.Omega.{arith}
use Rattle.std.proofs.Common.{rules, Some, None}
use Rattle.text.proofs.of_digits.Goals as goal

chosen : (t : Bool) (n : ℕ) → then_some t n ≡ cond t (Some n) None
chosen true n = refl
chosen false n = refl

within : (n largest : ℕ) (t : Bool) → leb n largest ≡ t → IfSome (cond t (Some n) None) (λ v. v ≤ largest)
within n largest true q = leb-true n largest q
within n largest false q = tt

pub returns-then-d-gt9 : goal.returns-then-d-gt9
returns-then-d-gt9 c =
    let a = c.args in
    (sym (digits_not a.word.now a.largest (below_not 10 a.word.now c.loop-c.c-index (omega arith) (worth_not 10 _ (rw (c.unwrap_or-d.ensures, c.value.ensures) at c.if-d-gt9.true)))), tt)

pub returns-in_err-checked_mul : goal.returns-in_err-checked_mul
returns-in_err-checked_mul c =
    let a = c.args in
    let l = c.loop-c in
    let over = c.in_err-checked_mul.ensures in
    let g = from_grows (l.sum * 10 + spec.worth (get_or a.word.now l.c-index 0)) (drop (l.c-index + 1) a.word.now) in
    let f = from_next l.sum a.word.now l.c-index (omega arith) in
    let n : spec.of_digits a.word.now a.largest ≡ None = digits_above a.word.now a.largest (omega (arith, over, g, f, l.invariant.1)) in
    rw n (c.from_residual.ensures, search rules)

pub returns-in_err-sum : goal.returns-in_err-sum
returns-in_err-sum c =
    let a = c.args in
    let l = c.loop-c in
    let over = c.in_err-sum.ensures in
    let product = c.in_ok-checked_mul.ensures in
    let d = c.unwrap_or-d.ensures ∙ ap (λ o. unwrap_or o 16) c.value.ensures in
    let g = from_grows (l.sum * 10 + spec.worth (get_or a.word.now l.c-index 0)) (drop (l.c-index + 1) a.word.now) in
    let f = from_next l.sum a.word.now l.c-index (omega arith) in
    let n : spec.of_digits a.word.now a.largest ≡ None = digits_above a.word.now a.largest (omega (arith, over, product, d, g, f, c.from.ensures, l.invariant.1)) in
    rw n (c.from_residual-in_err-sum.ensures, search rules)

pub loop-c-preserved : goal.loop-c-preserved
loop-c-preserved c =
    let a = c.args in
    let l = c.loop-c in
    let sum = c.in_ok-sum.ensures in
    let product = c.in_ok-checked_mul.ensures in
    let d = c.unwrap_or-d.ensures ∙ ap (λ o. unwrap_or o 16) c.value.ensures in
    let e : c.in_ok-sum.sum ≡ l.sum * 10 + spec.worth (get_or a.word.now l.c-index 0) = omega (arith, sum, product, d, c.from.ensures) in (
      below_more _ _ l.invariant.0 (worth_is 10 _ (omega (arith, d))),
      rw e (sym (from_next l.sum a.word.now l.c-index (omega arith)) ∙ l.invariant.1),
    )

pub returns : goal.returns
unfolding spec.decimal_from spec.of_digits
returns c =
    let a = c.args in
    let word = a.word.now in
    let l = c.loop-c in
    let all : drop l.c-index word ≡ [] = drop_of_length-le word {i = l.c-index} (omega arith) in
    let e : l.sum ≡ spec.decimal_from 0 word = rw all at l.invariant.1 in
    let g : spec.digits_below 10 word ≡ true = below_all 10 word (λ k h. l.invariant.0 k (omega arith)) in
    let s : c.then_some.result ≡ cond (leb l.sum a.largest) (Some l.sum) None = c.then_some.ensures ∙ chosen (leb l.sum a.largest) l.sum in
    (rw (g, ← e) s, rw s (within l.sum a.largest (leb l.sum a.largest) refl))
