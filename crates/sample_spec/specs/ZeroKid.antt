-- Document 02, Ask 8: what becomes of a sample that was locked under the zero KID before such tracks were refused.
use Rattle.std.specs.Prelude.{◌≡◌, ℕ, ◌≤◌, ◌<◌, get_or}
use Rattle.sample_spec.specs.Sample.{Inputs}

-- Inputs that differ at most in the KIDs of box and key record.
pub record OtherKid (i j : Inputs) : Type 0 where
  pub code : i.code ≡ j.code
  pub box_before : (k : ℕ) → k < 16 → get_or i.box k 0 ≡ get_or j.box k 0
  pub box_behind : (k : ℕ) → 32 ≤ k → get_or i.box k 0 ≡ get_or j.box k 0
  pub auxiliary : i.auxiliary ≡ j.auxiliary
  pub key : (k : ℕ) → 16 ≤ k → get_or i.keys k 0 ≡ get_or j.keys k 0
