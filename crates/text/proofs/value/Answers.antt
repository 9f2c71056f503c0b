use mathlib.Core.Path.{◌≡◌, sym, ap, ◌∙◌}
use Prim.Native.Nat.{◌+◌, ◌-◌}
use Rattle.std.proofs.Common.{Some}
use Rattle.text.proofs.Digits.{value-decimal, value_letter, value_before, value_between, value-behind}
use native.Mathlib.Omega.{arith}
use Rattle.text.proofs.value.Goals as goal

pub returns-in-48-to-57 : goal.returns-in-48-to-57
returns-in-48-to-57 c = sym (value-decimal _ (omega arith) (omega arith))

pub returns-in-97-to-102 : goal.returns-in-97-to-102
returns-in-97-to-102 c =
    let x = c.args.c in
    let e : x - 97 + 10 ≡ x - 87 = omega arith in
    ap (λ v. Some v) e ∙ sym (value_letter x (omega arith) (omega arith))

pub returns-in_default : goal.returns-in_default
returns-in_default c = sym (value_before c.args.c (omega arith))

pub returns-in_default-2 : goal.returns-in_default-2
returns-in_default-2 c = sym (value_between c.args.c (omega arith) (omega arith))

pub returns-in_default-3 : goal.returns-in_default-3
returns-in_default-3 c = sym (value-behind c.args.c (omega arith))
