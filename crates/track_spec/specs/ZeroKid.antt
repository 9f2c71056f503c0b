-- Document 02, Ask 8, "No protected track under the zero KID": what is said of a track that a call accepts.
use Rattle.std.specs.Prelude.{List, ◌≡◌, ℕ, ◌<◌, length, get_or}
use Rattle.track_spec.specs.declared.Parameters.{Parameters}

-- A KID with a byte that isn't zero.
pub record NonzeroKid (kid : List ℕ) : Type 0 where
  pub place : ℕ
  pub within : place < length kid
  pub byte : get_or kid place 0 ≡ 0 → ⊥

-- If the track is protected it has such a KID.
abbrev pub NonzeroIfProtected : Parameters → Type 0
NonzeroIfProtected p = p.protected ≡ 1 → NonzeroKid p.kid.0
