-- What the answers depend on: of the KID only on whether it is zero, and that where the track is protected; and not on IV bytes but for
-- those of a constant IV where none is called for.
use mathlib.Core.Bool.{Bool, true, false, ◌||◌}
use mathlib.Core.List.{List}
use mathlib.Core.Path.{◌≡◌, refl, sym, ap}
use Prim.Native.Nat.{ℕ, ◌/◌, ◌%◌, ◌<◌}
use native.Mathlib.Omega.{arith}
use lib.Dec.{eqb}
use lib.ListN.{length, get_or}
use borrow.Author.Tests.{eqb-true}
use Rattle.octets.specs.Answers.{answer}
use Rattle.octets.specs.Bytes.{same}
use Rattle.octets.proofs.Alike.{number_alike, filled_alike}
use Rattle.boxes.proofs.Frame.{frame_alike}
use Rattle.track_spec.specs.declared.Parameters.{Parameters}
use Rattle.track_spec.specs.Track.{tenc, zeros, has_constant, zero_kid, under_zero_kid, allowed, fields_from, fields, bad_head, bad_fields, read_rows, parameter_rows, write_rows}
use Rattle.track_spec.specs.Depends.{AlikeBoxes, AlikeParameters}

-- ---- Parameters.

module _ (p q : Parameters) (s : AlikeParameters p q) where
  constant_alike : (has_constant p.protected p.iv_size || same p.constant_iv.0 zeros)
      ≡ (has_constant q.protected q.iv_size || same q.constant_iv.0 zeros)
  constant_alike = rw (← s.protected, ← s.iv_size) (go (has_constant p.protected p.iv_size) refl)
    where
      go : (t : Bool) → has_constant p.protected p.iv_size ≡ t
          → (has_constant p.protected p.iv_size || same p.constant_iv.0 zeros)
          ≡ (has_constant p.protected p.iv_size || same q.constant_iv.0 zeros)
      go true e = rw e
      go false e = rw (e, s.constant e)

  kid_alike : under_zero_kid p.protected p.kid.0 ≡ under_zero_kid q.protected q.kid.0
  kid_alike = rw (← s.protected) (go (eqb p.protected 1) refl)
    where
      go : (t : Bool) → eqb p.protected 1 ≡ t → under_zero_kid p.protected p.kid.0 ≡ under_zero_kid p.protected q.kid.0
      go true e = rw (e, s.kid (eqb-true p.protected 1 e))
      go false e = rw e

  permitted_alike : allowed p ≡ allowed q
  unfolding allowed
  permitted_alike = rw (kid_alike, constant_alike, s.code, s.protected, s.iv_size, s.crypt, s.skip)

  -- the answer of the check of parameters
  pub check_alike : answer (parameter_rows p) ≡ answer (parameter_rows q)
  unfolding answer
  check_alike = rw (permitted_alike, s.code, s.version, s.crypt, s.skip)

  -- the writer's answer
  pub write_alike : (room : ℕ) → answer (write_rows p room) ≡ answer (write_rows q room)
  unfolding write_rows answer
  write_alike room = rw (permitted_alike, s.code, s.version, s.crypt, s.skip, s.protected, s.iv_size)

-- ---- Boxes.

-- boxes that differ at most in the bytes of a constant IV
pub iv_bytes_alike : (a b : List ℕ) → length a ≡ length b → ((i : ℕ) → i < 33 → get_or a i 0 ≡ get_or b i 0) → AlikeBoxes a b
iv_bytes_alike a b size front =
    record {
      size = size;
      front = λ i l. front i (omega arith);
      kid = λ e. ap zero_kid (filled_alike a b 16 16 (λ i l m. front i (omega arith)));
      constant_size = front 32 (omega arith);
    }

module _ {a b : List ℕ} (s : AlikeBoxes a b) (code : List ℕ) where
  -- the parameters read of two such boxes
  pub parameters_alike : AlikeParameters (fields code a) (fields code b)
  unfolding fields fields_from
  parameters_alike =
      record {
        code = refl;
        version = s.front 8 (omega arith);
        crypt = ap (λ (n : ℕ). n / 16) (s.front 13 (omega arith));
        skip = ap (λ (n : ℕ). n % 16) (s.front 13 (omega arith));
        protected = s.front 14 (omega arith);
        iv_size = s.front 15 (omega arith);
        kid = s.kid;
        constant = λ e. rw (e, sym (s.front 14 (omega arith)), sym (s.front 15 (omega arith)), e);
      }

  head_alike : bad_head a (fields code a) ≡ bad_head b (fields code b)
  unfolding bad_head fields fields_from
  head_alike =
      rw (
        s.front 8 (omega arith),
        s.front 13 (omega arith),
        number_alike a b 3 9 (λ i l m. s.front i (omega arith)),
        s.front 12 (omega arith),
      )

  fields_alike : bad_fields a (fields code a) ≡ bad_fields b (fields code b)
  unfolding bad_fields
  fields_alike =
      let alike = parameters_alike in
      rw (permitted_alike (fields code a) (fields code b) alike, s.size, alike.protected, alike.iv_size, s.constant_size)

  -- the reader's answer
  pub read_alike : answer (read_rows code a) ≡ answer (read_rows code b)
  unfolding read_rows answer
  read_alike = rw (frame_alike 32 tenc a b s.size (λ i l. s.front i (omega arith)), head_alike, fields_alike)
