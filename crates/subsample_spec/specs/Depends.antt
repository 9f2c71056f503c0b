-- Document 01, "Which number is answered .. never depends on key bytes, IV bytes or sample contents": what two calls may differ in that
-- read auxiliary data.
use Rattle.std.specs.Prelude.{List, ◌≡◌, ℕ, ◌≤◌, length, get_or}
use Rattle.track_spec.specs.declared.Parameters.{Parameters}

-- Parameters that differ at most in version, pattern, KID and constant IV, and data that differ at most in the IV's bytes.
pub record AlikeData (p q : Parameters) (a b : List ℕ) : Type 0 where
  pub code : p.code ≡ q.code
  pub protected : p.protected ≡ q.protected
  pub iv_size : p.iv_size ≡ q.iv_size
  pub size : length a ≡ length b
  pub after : (i : ℕ) → p.iv_size ≤ i → get_or a i 0 ≡ get_or b i 0
