-- A track that is accepted is not protected under the zero KID; one that is gets 4.
use mathlib.Core.Bool.{Bool, true, false, false≢true, true≢false}
use mathlib.Core.List.{List, [], ◌∷◌}
use mathlib.Core.Path.{◌≡◌, refl, sym, ◌∙◌}
use Prim.Native.Nat.{ℕ, zero, suc}
use native.Mathlib.Omega.{arith}
use lib.Dec.{eqb}
use lib.ListN.{length, replicate}
use borrow.Author.Tests.{eqb-false, eq-eqb}
use Rattle.octets.specs.Answers.{answer}
use Rattle.octets.specs.Bytes.{same}
use Rattle.octets.proofs.Answers.{join_first}
use Rattle.octets.proofs.OfBytes.{filled-length}
use Rattle.boxes.specs.Box as frame
use Rattle.track_spec.specs.declared.Parameters.{Parameters}
use Rattle.track_spec.specs.Track.{tenc, known, zero_kid, under_zero_kid, allowed, Held, bad_version, fields_from, fields, bad_head, bad_fields, read_rows, parameter_rows, write_rows}
use Rattle.track_spec.specs.ZeroKid.{NonzeroKid, NonzeroIfProtected}
use Rattle.track_spec.proofs.Fields.{constant_length}
use Rattle.track_spec.proofs.Codes.{allowed_kid}
use Rattle.track_spec.proofs.Checking.{check-allowed, write_refused}
use Rattle.track_spec.proofs.RoundTrip.{accepted}

-- a KID of n bytes that aren't all zero has one that isn't
some_byte : (n : ℕ) (kid : List ℕ) → length kid ≡ n → same kid (replicate n 0) ≡ false → NonzeroKid kid
unfolding same
some_byte zero [] l h = absurd (true≢false h)
some_byte zero (x ∷ xs) l h = absurd (omega arith)
some_byte (suc n) [] l h = absurd (omega arith)
some_byte (suc n) (x ∷ xs) l h =
    go (eqb x 0) refl (λ (e : eqb x 0 ≡ true). some_byte n xs (omega arith) (rw e at h))
  where
    go : (t : Bool) → eqb x 0 ≡ t → (eqb x 0 ≡ true → NonzeroKid xs) → NonzeroKid (x ∷ xs)
    go true e behind =
        let r = behind e in
        record { place = suc r.place; within = omega (arith, r.within); byte = r.byte }
    go false e behind = record { place = 0; within = omega arith; byte = eqb-false x 0 e }

-- ---- Accepted: the KID of a protected track has a byte that isn't zero.

module _ (p : Parameters) (held : Held p) where
  allowed_nonzero : allowed p ≡ true → NonzeroIfProtected p
  allowed_nonzero h one = some_byte 16 p.kid.0 held.kid (rw (eq-eqb p.protected 1 one) at (allowed_kid p h))

  pub checked_nonzero : answer (parameter_rows p) ≡ 0 → NonzeroIfProtected p
  checked_nonzero h = allowed_nonzero (check-allowed p h)

  pub written_nonzero : (room : ℕ) → answer (write_rows p room) ≡ 0 → NonzeroIfProtected p
  unfolding write_rows
  written_nonzero room h = checked_nonzero (join_first (parameter_rows p) _ h)

pub read_nonzero : (code box : List ℕ) → answer (read_rows code box) ≡ 0 → NonzeroIfProtected (fields code box)
unfolding fields fields_from
read_nonzero code box h =
    allowed_nonzero (fields code box)
    (record { kid = filled-length 16 _; constant = constant_length 12 code (frame.version box) box })
    (accepted code box h).permitted

-- under the zero KID such a track is not protected
pub zero_kid_unprotected : (p : Parameters) → allowed p ≡ true → zero_kid p.kid.0 ≡ true → p.protected ≡ 1 → ⊥
zero_kid_unprotected p h z one = false≢true (sym (allowed_kid p h) ∙ rw (eq-eqb p.protected 1 one, z))

-- ---- Refused: under the zero KID a protected track that none of 1 to 3 applies to gets 4.

not_allowed : (p : Parameters) → under_zero_kid p.protected p.kid.0 ≡ true → allowed p ≡ false
unfolding allowed
not_allowed p z = rw z

module _ (p : Parameters) (z : under_zero_kid p.protected p.kid.0 ≡ true) (k : known p.code ≡ true)
    (v : bad_version p.version p.crypt p.skip ≡ false) where
  pub zero_kid_checked : answer (parameter_rows p) ≡ 4
  unfolding answer
  zero_kid_checked = rw (k, v, not_allowed p z)

  pub zero_kid_written : (room : ℕ) → answer (write_rows p room) ≡ 4
  zero_kid_written room = write_refused p room 4 (sym zero_kid_checked) (λ e. omega arith)

module _ (code box : List ℕ) where
  abbrev p : Parameters
  p = fields code box

  pub zero_kid_read : under_zero_kid p.protected p.kid.0 ≡ true → known code ≡ true → frame.bad_frame 32 tenc box ≡ false
      → bad_head box p ≡ false → answer (read_rows code box) ≡ 4
  unfolding read_rows bad_fields answer
  zero_kid_read z k f v = rw (k, f, v, not_allowed p z)
