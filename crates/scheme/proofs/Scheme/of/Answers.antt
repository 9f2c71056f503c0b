use mathlib.Core.Path.{sym, ◌∙◌}
use Rattle.octets.proofs.Equal.{eq-same}
use Rattle.track_spec.specs.Track.{cbc1, cens, cbcs}
use Rattle.scheme.specs.Layout.{scheme_of}
use Rattle.scheme.proofs.Scheme.of.Goals as goal

pub returns-then-eq : goal.returns-then-eq
unfolding scheme_of
returns-then-eq c = rw (sym (c.eq.ensures ∙ eq-same c.args.code cbc1) ∙ c.if-eq.true)

pub returns-then-eq-2 : goal.returns-then-eq-2
unfolding scheme_of
returns-then-eq-2 c =
    rw (
      sym (c.eq.ensures ∙ eq-same c.args.code cbc1) ∙ c.if-eq.false,
      sym (c.eq-else-eq.ensures ∙ eq-same c.args.code cens) ∙ c.if-eq-2.true,
    )

pub returns-then-eq-3 : goal.returns-then-eq-3
unfolding scheme_of
returns-then-eq-3 c =
    rw (
      sym (c.eq.ensures ∙ eq-same c.args.code cbc1) ∙ c.if-eq.false,
      sym (c.eq-else-eq.ensures ∙ eq-same c.args.code cens) ∙ c.if-eq-2.false,
      sym (c.eq-else-eq-2.ensures ∙ eq-same c.args.code cbcs) ∙ c.if-eq-3.true,
    )

pub returns-else-eq-3 : goal.returns-else-eq-3
unfolding scheme_of
returns-else-eq-3 c =
    rw (
      sym (c.eq.ensures ∙ eq-same c.args.code cbc1) ∙ c.if-eq.false,
      sym (c.eq-else-eq.ensures ∙ eq-same c.args.code cens) ∙ c.if-eq-2.false,
      sym (c.eq-else-eq-2.ensures ∙ eq-same c.args.code cbcs) ∙ c.if-eq-3.false,
    )
