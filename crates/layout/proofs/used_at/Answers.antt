use mathlib.Core.Path.{sym, ◌∙◌, refl}
use Rattle.scheme.proofs.Locating.{used_in, used_out, used_clear, no_cenc}
use Rattle.layout.proofs.used_at.Goals as goal

pub returns-in-Some : goal.returns-in-Some
returns-in-Some c =
    used_in (rw c.in-Some.is at c.locate-p.ensures) _ _ (no_cenc c.args.scheme (sym c.every_byte.ensures ∙ c.if-every_byte.false)) refl
    (sym c.ciphered_at.ensures ∙ c.if-ciphered_at.true)

pub returns-in_default : goal.returns-in_default
returns-in_default c =
    used_out (rw c.in-Some.is at c.locate-p.ensures) _ _ (no_cenc c.args.scheme (sym c.every_byte.ensures ∙ c.if-every_byte.false)) refl
    (sym c.ciphered_at.ensures ∙ c.if-ciphered_at.false)

pub returns-in_default-2 : goal.returns-in_default-2
returns-in_default-2 c =
    used_clear (rw c.in_default.is at c.locate-p.ensures) _ _ (no_cenc c.args.scheme (sym c.every_byte.ensures ∙ c.if-every_byte.false)) refl
