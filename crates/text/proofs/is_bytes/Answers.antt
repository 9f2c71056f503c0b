use mathlib.Core.Bool.{true, false, not}
use mathlib.Core.Path.{◌≡◌, sym, ap, ◌∙◌}
use Rattle.octets.specs.Ascii.{ascii}
use Rattle.octets.specs.Bytes.{same}
use Rattle.text.proofs.Pairs.{bytes_dash, bytes_empty, bytes_hex}
use Rattle.octets.proofs.Equal.{eq-same}
use Rattle.std.proofs.Common.{arith}
use borrow.Author.Tests.{eqb-true, eqb-false}
use Rattle.text.proofs.is_bytes.Goals as goal

pub returns-then-eq : goal.returns-then-eq
returns-then-eq c =
    let w = c.args.word.now in
    let e : same w (ascii "-") ≡ true = ap (same w) (sym c.as_slice.ensures) ∙ sym (c.eq.ensures ∙ eq-same _ _) ∙ c.if-eq.true in
    c.if-eq.true ∙ sym (bytes_dash w e)

pub returns-then-not-is_empty : goal.returns-then-not-is_empty
returns-then-not-is_empty c =
    let w = c.args.word.now in
    let e : same w (ascii "-") ≡ false = ap (same w) (sym c.as_slice.ensures) ∙ sym (c.eq.ensures ∙ eq-same _ _) ∙ c.if-eq.false in
    c.is_hex.ensures ∙ sym (bytes_hex w e (omega (arith, eqb-false _ _ (sym c.is_empty.ensures ∙ c.if-not-is_empty.true))))

pub returns-else-not-is_empty : goal.returns-else-not-is_empty
returns-else-not-is_empty c =
    let w = c.args.word.now in
    let e : same w (ascii "-") ≡ false = ap (same w) (sym c.as_slice.ensures) ∙ sym (c.eq.ensures ∙ eq-same _ _) ∙ c.if-eq.false in
    ap not c.if-not-is_empty.false ∙ sym (bytes_empty w e (eqb-true _ _ (sym c.is_empty.ensures ∙ c.if-not-is_empty.false)))
