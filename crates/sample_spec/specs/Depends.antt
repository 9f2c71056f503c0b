-- Document 01, "Which number is answered .. never depends on key bytes, IV bytes or sample contents": what two calls that find a key, two
-- whole-sample calls, or two starts, may differ in.
use Rattle.std.specs.Prelude.{List, ◌≡◌, ℕ, ◌≤◌, ◌<◌, length, get_or}
use Rattle.track_spec.specs.declared.Parameters.{Parameters}
use Rattle.sample_spec.specs.Sample.{Inputs}

-- Parameters that agree in flag and KID, and key records of one length that differ at most in the key's bytes.
pub record AlikeKeys (p q : Parameters) (a b : List ℕ) : Type 0 where
  pub protected : p.protected ≡ q.protected
  pub kid : p.kid.0 ≡ q.kid.0
  pub size : length a ≡ length b
  pub front : (k : ℕ) → k < 16 → get_or a k 0 ≡ get_or b k 0

-- Inputs of two calls that differ at most in the bytes of the constant IV, of the IV in the auxiliary data, and of the key: they
-- have one code, the boxes have one length and agree in their first 33 bytes, the data have one length and agree after the IV, and
-- the key records have one length and agree in the KID.
pub record AlikeInputs (i j : Inputs) : Type 0 where
  pub code : i.code ≡ j.code
  pub box_size : length i.box ≡ length j.box
  pub box_front : (k : ℕ) → k < 33 → get_or i.box k 0 ≡ get_or j.box k 0
  pub data_size : length i.auxiliary ≡ length j.auxiliary
  pub data_after : (k : ℕ) → get_or i.box 15 0 ≤ k → get_or i.auxiliary k 0 ≡ get_or j.auxiliary k 0
  pub record_size : length i.keys ≡ length j.keys
  pub record_front : (k : ℕ) → k < 16 → get_or i.keys k 0 ≡ get_or j.keys k 0
