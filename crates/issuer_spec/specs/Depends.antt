-- Document 02, Ask 3, refusal 20: what two issuers may differ in that answer alike.
use Rattle.std.specs.Prelude.{◌≡◌}
use Rattle.issuer_spec.specs.declared.Issuer.{Issuer}

-- Issuers that differ at most in the bytes before the counter.
pub record AlikeIssuers (i j : Issuer) : Type 0 where
  pub size : i.size ≡ j.size
  pub counter : i.counter ≡ j.counter
  pub used_up_lem : i.used_up ≡ j.used_up
