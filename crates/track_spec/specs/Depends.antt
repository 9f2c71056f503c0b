-- Document 01, "Which number is answered .. never depends on key bytes, IV bytes or sample contents": what two calls may differ in that
-- read or write a track box.
use Rattle.std.specs.Prelude.{false, List, ◌≡◌, ℕ, ◌<◌, length, get_or, drop}
use Rattle.octets.specs.Bytes.{filled}
use Rattle.track_spec.specs.declared.Parameters.{Parameters}
use Rattle.track_spec.specs.Track.{has_constant, zero_kid}

-- Two boxes of one length that differ at most in the KID and the constant IV; of protected tracks the KIDs are both zero or both not
-- (document 02, Ask 8).
pub record AlikeBoxes (a b : List ℕ) : Type 0 where
  pub size : length a ≡ length b
  pub front : (i : ℕ) → i < 16 → get_or a i 0 ≡ get_or b i 0
  pub kid : get_or a 14 0 ≡ 1 → zero_kid (filled 16 (drop 16 a)) ≡ zero_kid (filled 16 (drop 16 b))
  pub constant_size : get_or a 32 0 ≡ get_or b 32 0

-- Parameters that differ at most in the KID and in a constant IV that is called for, with KIDs as above.
pub record AlikeParameters (p q : Parameters) : Type 0 where
  pub code : p.code ≡ q.code
  pub version : p.version ≡ q.version
  pub crypt : p.crypt ≡ q.crypt
  pub skip : p.skip ≡ q.skip
  pub protected : p.protected ≡ q.protected
  pub iv_size : p.iv_size ≡ q.iv_size
  pub kid : p.protected ≡ 1 → zero_kid p.kid.0 ≡ zero_kid q.kid.0
  pub constant : has_constant p.protected p.iv_size ≡ false → p.constant_iv.0 ≡ q.constant_iv.0
