use mathlib.Core.Bool.{not, true, false}
use Prim.Native.Nat.{◌%◌}
use lib.Dec.{eqb}
use Rattle.std.proofs.Common.{sym, ◌∙◌, ◌≡◌}
use Rattle.octets.specs.Bytes.{same}
use Rattle.octets.proofs.Equal.{eq-same}
use Rattle.track_spec.specs.Track.{cbc1}
use Rattle.subsample_spec.specs.declared.Entry.{Entry}
use Rattle.subsample_spec.proofs.Counting.{some_used}
use Rattle.subsample_map.proofs.bad_remainder.Goals as goal

pub returns-then-eq : goal.returns-then-eq
returns-then-eq c =
    let e : same c.args.code cbc1 ≡ true = sym (eq-same c.args.code cbc1) ∙ sym c.eq.ensures ∙ c.if-eq.true in
    rw e
    (c.some_ragged.ensures
    ∙ some_used c.args.map.now c.used.result.now c.used.ensures.first c.used.ensures.size c.requires (λ (e : Entry). not (eqb (e.protected % 16) 0)))

pub returns-else-eq : goal.returns-else-eq
returns-else-eq c =
    let e : same c.args.code cbc1 ≡ false = sym (eq-same c.args.code cbc1) ∙ sym c.eq.ensures ∙ c.if-eq.false in
    rw e c.if-eq.false
