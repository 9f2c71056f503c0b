use mathlib.Core.Bool.{true}
use mathlib.Core.Path.{sym, ◌∙◌}
use Rattle.track_spec.proofs.Codes.{allowed_small}
use Rattle.track_spec.specs.Track.{Held}
use Rattle.track_spec.proofs.Storing.{room_for, stored_plain, stored_constant}
use borrow.Author.Rules.{rules}
use native.Mathlib.Omega.{arith}
use Rattle.track_write.proofs.store_fields.Goals as goal

pub store_front-requires : goal.store_front-requires
store_front-requires c =
    let a = allowed_small c.args.p c.requires.0 in
    (a.0, a.1, c.requires.1)

pub store_constant-requires : goal.store_constant-requires
store_constant-requires c =
    let held : Held c.args.p = record { kid = search rules; constant = search rules } in
    let r = room_for c.args.p held c.requires.0 c.args.out.now c.args.at c.requires.2 true (sym c.has_constant.ensures ∙ c.if-has_constant.true) in
    omega (arith, r, c.store_front.auto.out)

pub returns-then-has_constant : goal.returns-then-has_constant
returns-then-has_constant c =
    let held : Held c.args.p = record { kid = search rules; constant = search rules } in
    let e = stored_constant c.args.p held c.requires.0 c.args.out.now c.args.at c.requires.2 (sym c.has_constant.ensures ∙ c.if-has_constant.true) in
    cc (c.store_constant.ensures, c.store_front.ensures, e)

pub returns-else-has_constant : goal.returns-else-has_constant
returns-else-has_constant c =
    let held : Held c.args.p = record { kid = search rules; constant = search rules } in
    c.store_front.ensures
    ∙ stored_plain c.args.p held c.requires.0 c.args.out.now c.args.at c.requires.2 (sym c.has_constant.ensures ∙ c.if-has_constant.false)
