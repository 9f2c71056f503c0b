-- The fields that are read of any bytes: the constant IV has 16 bytes.
use mathlib.Core.Bool.{Bool, true, false, cond}
use mathlib.Core.List.{List}
use mathlib.Core.Path.{◌≡◌, refl}
use Prim.Native.Nat.{ℕ, ◌+◌, ◌<◌}
use lib.ListN.{length, get_or, drop}
use Rattle.octets.specs.Bytes.{Bytes, filled}
use Rattle.octets.proofs.OfBytes.{bytes_drop, zeros_bytes, filled-length, filled_bytes}
use Rattle.track_spec.specs.Track.{zeros, has_constant, fields_from}

module _ (at : ℕ) (code : List ℕ) (version : ℕ) (b : List ℕ) where
  pub constant_length : length (fields_from at code version b).constant_iv.0 ≡ 16
  unfolding fields_from
  constant_length = go (has_constant (get_or b (at + 2) 0) (get_or b (at + 3) 0))
    where
      go : (t : Bool) → length (cond t (filled 16 (drop (at + 21) b)) zeros) ≡ 16
      go true = filled-length 16 (drop (at + 21) b)
      go false = refl

  pub constant_bytes : ((k : ℕ) → get_or b k 0 < 256) → Bytes 16 (fields_from at code version b).constant_iv.0
  unfolding fields_from
  constant_bytes h = go (has_constant (get_or b (at + 2) 0) (get_or b (at + 3) 0))
    where
      go : (t : Bool) → Bytes 16 (cond t (filled 16 (drop (at + 21) b)) zeros)
      go true =
          filled_bytes 16 (drop (at + 21) b) (bytes_drop (at + 21) b (record { size = refl; small = h }) refl).small
      go false = zeros_bytes 16
