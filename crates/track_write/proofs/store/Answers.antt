use Rattle.track_spec.specs.Track.{Held}
use Rattle.track_spec.proofs.RoundTrip.{header_and_fields, size_between}
use Rattle.track_spec.proofs.Storing.{stored_box}
use borrow.Author.Rules.{rules}
use native.Mathlib.Omega.{arith}
use Rattle.track_write.proofs.store.Goals as goal

pub overflow_cast-size : goal.overflow_cast-size
overflow_cast-size c =
    let held : Held c.args.p = record { kid = search rules; constant = search rules } in
    record { fits = omega (arith, c.requires.1, (size_between c.args.p held c.requires.0).1) }

pub store_fields-requires : goal.store_fields-requires
store_fields-requires c =
    let held : Held c.args.p = record { kid = search rules; constant = search rules } in
    (c.requires.0, omega arith, omega (arith, header_and_fields c.args.p held c.requires.0, c.requires.1, c.requires.2, c.copy.auto.out))

pub returns : goal.returns
returns c =
    let held : Held c.args.p = record { kid = search rules; constant = search rules } in
    cc (c.store_fields.ensures, c.copy.ensures, c.header-header.ensures, c.requires.1, stored_box c.args.p held c.requires.0 c.args.out.now (omega (arith, c.requires.1, c.requires.2)))
