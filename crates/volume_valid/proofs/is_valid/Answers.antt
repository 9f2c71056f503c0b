use mathlib.Core.Path.{◌≡◌, sym, ◌∙◌}
use Rattle.std.proofs.lemmas.Grind.{common_steps}
use Rattle.volume_spec.proofs.Valid.{not_filled}
use Rattle.volume_valid.proofs.Index.{valid_read}
use native.Mathlib.Omega.{arith}
use Rattle.volume_valid.proofs.is_valid.Goals as goal

pub returns-then-not-fills : goal.returns-then-not-fills
returns-then-not-fills c = sym (not_filled _ _ c.read_trailer-trailer.ensures (sym c.fills.ensures ∙ c.if-not-fills.true))

pub returns-then-trailer-eq0 : goal.returns-then-trailer-eq0
returns-then-trailer-eq0 c =
    let valid = valid_read _ _ _ c.read_trailer-trailer.ensures (sym c.fills.ensures ∙ c.if-not-fills.false) c.as_chunks.ensures.front in
    let last : c.read_trailer-trailer.result.last ≡ 0 = omega arith in
    rw (valid, ← c.adjoins.ensures, last, c.largest_day.ensures) (grind (arith, common_steps))

pub returns-else-trailer-eq0 : goal.returns-else-trailer-eq0
returns-else-trailer-eq0 c =
    let valid = valid_read _ _ _ c.read_trailer-trailer.ensures (sym c.fills.ensures ∙ c.if-not-fills.false) c.as_chunks.ensures.front in
    rw (valid, ← c.adjoins.ensures) (grind (arith, common_steps))
