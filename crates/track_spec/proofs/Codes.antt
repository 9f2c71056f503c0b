-- What a known code and allowed fields say.
use mathlib.Core.Bool.{Bool, true, false, cond, not, ◌&&◌, ◌||◌}
use mathlib.Core.List.{List}
use mathlib.Core.Logic.{◌⊎◌, inl, inr, ⊎_elim}
use mathlib.Core.Path.{◌≡◌, ap}
use Prim.Native.Nat.{ℕ, ◌≤◌}
use native.Mathlib.Omega.{arith}
use lib.Dec.{eqb, leb}
use lib.ListN.{length}
use borrow.Author.Tests.{eqb-true, leb-true, not-true}
use Rattle.octets.specs.Bytes.{same}
use Rattle.octets.proofs.Bytes.{same_equal}
use Rattle.octets.proofs.Tests.{&&_left, &&_right, or_true_cases}
use Rattle.track_spec.specs.declared.Parameters.{Parameters}
use Rattle.track_spec.specs.Track.{cenc, cbc1, cens, cbcs, zeros, known, has_constant, no_pattern, a_pattern, pattern_or_none, eight_or_sixteen, allowed_protected, allowed_fields, under_zero_kid, allowed}

-- a known code is one of the four
pub known_cases : (code : List ℕ) → known code ≡ true → (code ≡ cenc) ⊎ ((code ≡ cbc1) ⊎ ((code ≡ cens) ⊎ (code ≡ cbcs)))
unfolding known
known_cases code h =
    ⊎_elim
    (λ a.
    ⊎_elim
    (λ b. ⊎_elim (λ e. inl (same_equal code cenc e)) (λ e. inr (inl (same_equal code cbc1 e))) (or_true_cases (same code cenc) (same code cbc1) b))
    (λ e. inr (inr (inl (same_equal code cens e)))) (or_true_cases (same code cenc || same code cbc1) (same code cens) a))
    (λ e. inr (inr (inr (same_equal code cbcs e))))
    (or_true_cases (same code cenc || same code cbc1 || same code cens) (same code cbcs) h)

pub known-length : (code : List ℕ) → known code ≡ true → length code ≡ 4
known-length code h =
    ⊎_elim (λ e. ap length e) (⊎_elim (λ e. ap length e) (⊎_elim (λ e. ap length e) (λ e. ap length e))) (known_cases code h)

-- allowed fields have a pattern of two numbers below 16
abbrev Small : ℕ → ℕ → Type 0
Small crypt skip = (crypt ≤ 15) × (skip ≤ 15)

no_pattern_small : (crypt skip : ℕ) → no_pattern crypt skip ≡ true → Small crypt skip
no_pattern_small crypt skip h =
    let a = eqb-true crypt 0 (&&_left (eqb crypt 0) (eqb skip 0) h) in
    let b = eqb-true skip 0 (&&_right (eqb crypt 0) (eqb skip 0) h) in
    (omega arith, omega arith)

a_pattern_small : (crypt skip : ℕ) → a_pattern crypt skip ≡ true → Small crypt skip
a_pattern_small crypt skip h =
    let l = &&_left (leb 1 crypt && leb crypt 15) (leb skip 15) h in
    (leb-true crypt 15 (&&_right (leb 1 crypt) (leb crypt 15) l), leb-true skip 15 (&&_right (leb 1 crypt && leb crypt 15) (leb skip 15) h))

pattern_or_none_small : (crypt skip : ℕ) → pattern_or_none crypt skip ≡ true → Small crypt skip
pattern_or_none_small crypt skip h =
    ⊎_elim (no_pattern_small crypt skip) (a_pattern_small crypt skip) (or_true_cases (no_pattern crypt skip) (a_pattern crypt skip) h)

cond_true : (b x y : Bool) → cond b x y ≡ true → (x ≡ true) ⊎ (y ≡ true)
cond_true true x y e = inl e
cond_true false x y e = inr e

module _ (code : List ℕ) (iv_size crypt skip : ℕ) where
  protected_small : allowed_protected code iv_size crypt skip ≡ true → Small crypt skip
  unfolding allowed_protected
  protected_small h =
      ⊎_elim (λ e. no_pattern_small crypt skip (&&_right (eight_or_sixteen iv_size) _ e))
      (λ g.
      ⊎_elim (λ e. no_pattern_small crypt skip (&&_right (eqb iv_size 16) _ e))
      (λ k.
      ⊎_elim (λ e. pattern_or_none_small crypt skip (&&_right (eight_or_sixteen iv_size) _ e))
      (λ e. pattern_or_none_small crypt skip (&&_right (eqb iv_size 0) _ e)) (cond_true (same code cens) _ _ k))
      (cond_true (same code cbc1) _ _ g))
      (cond_true (same code cenc) _ _ h)

  pub fields_small : (protected : ℕ) → allowed_fields code protected iv_size crypt skip ≡ true → Small crypt skip
  unfolding allowed_fields
  fields_small protected h =
      ⊎_elim (λ e. no_pattern_small crypt skip (&&_right (eqb iv_size 0) _ e))
      (λ e. protected_small (&&_right (eqb protected 1) _ e)) (cond_true (eqb protected 0) _ _ h)

-- what allowed parameters say, one by one
module _ (p : Parameters) (h : allowed p ≡ true) where
  abbrev kid : Bool
  kid = not (under_zero_kid p.protected p.kid.0)

  abbrev constant : Bool
  constant = has_constant p.protected p.iv_size || same p.constant_iv.0 zeros

  abbrev fields : Bool
  fields = allowed_fields p.code p.protected p.iv_size p.crypt p.skip

  pub allowed_kid : under_zero_kid p.protected p.kid.0 ≡ false
  unfolding allowed
  allowed_kid = not-true _ (&&_left kid constant (&&_left (kid && constant) fields h))

  pub allowed_constant : constant ≡ true
  unfolding allowed
  allowed_constant = &&_right kid constant (&&_left (kid && constant) fields h)

  pub allowed-fields : fields ≡ true
  unfolding allowed
  allowed-fields = &&_right (kid && constant) fields h

  pub allowed_small : (p.crypt ≤ 15) × (p.skip ≤ 15)
  allowed_small = fields_small p.code p.iv_size p.crypt p.skip p.protected allowed-fields
