-- What the code stores one after the other, as one string.
use mathlib.Core.List.{List, ◌++◌, append_assoc}
use mathlib.Core.Path.{◌≡◌}
use Prim.Native.Nat.{ℕ, ◌+◌, ◌-◌, ◌*◌, ◌≤◌}
use native.Mathlib.Omega.{arith}
use lib.ListN.{length, take, drop, length-append, length-drop}
use lib.Seq.{length-take-le}
use Rattle.octets.specs.Bytes.{digits, placed}
use Rattle.octets.proofs.Bytes.{length_digits}
use Rattle.octets.proofs.Fill.{placed-next}
use Rattle.volume_spec.specs.declared.Trailer.{Trailer}
use Rattle.volume_spec.specs.Volume.{fields, entry_bytes, trailer, trailer_bytes, added, Valid}
use Rattle.volume_spec.proofs.Fields.{length_fields}

-- an entry or a trailer, field by field
module _ (a b c d : ℕ) (out : List ℕ) (at : ℕ) (room : at + 24 ≤ length out) where
  pub fields-stored : {o₁ o₂ o₃ o₄ : List ℕ} → o₁ ≡ placed out at (digits 8 a) → o₂ ≡ placed o₁ (at + 8) (digits 8 b)
      → o₃ ≡ placed o₂ (at + 16) (digits 4 c) → o₄ ≡ placed o₃ (at + 20) (digits 4 d) → o₄ ≡ placed out at (fields a b c d)
  unfolding fields
  fields-stored e₁ e₂ e₃ e₄ =
      let la = length_digits 8 a in
      let lb = length_digits 8 b in
      let lc = length_digits 4 c in
      let ld = length_digits 4 d in
      let two : length (digits 8 a ++ digits 8 b) ≡ 16 = simp length-append (omega arith) in
      let three : length ((digits 8 a ++ digits 8 b) ++ digits 4 c) ≡ 20 = simp length-append (omega arith) in
      rw (
        e₄,
        e₃,
        e₂,
        e₁,
        placed-next out at (digits 8 a) (digits 8 b) (at + 8) (omega arith) (omega arith),
        placed-next out at (digits 8 a ++ digits 8 b) (digits 4 c) (at + 16) (omega arith) (omega arith),
        placed-next out at ((digits 8 a ++ digits 8 b) ++ digits 4 c) (digits 4 d) (at + 20) (omega arith) (omega arith),
      )
      (simp append_assoc)

-- a volume with one more record, part by part, by the trailer as the code reads it
module _ (v contents : List ℕ) (term today : ℕ) (h : Valid v) (out : List ℕ) (room : length v + length contents + 24 ≤ length out)
    (t : Trailer) (r : t ≡ trailer v) where
  -- the parts
  abbrev front : List ℕ
  front = take (t.offset - 0) v

  abbrev earlier : List ℕ
  earlier = take (length v - 24 - t.offset) (drop t.offset v)

  abbrev entry : List ℕ
  entry = fields t.offset (length contents) today term

  abbrev last : List ℕ
  last = fields (t.offset + length contents) (t.count + 1) today 0

  filled : t.offset + t.count * 24 + 24 ≡ length v
  filled = rw r h.filled

  joined : (front ++ (contents ++ (earlier ++ (entry ++ last)))) ≡ added v contents term today
  unfolding added entry_bytes trailer_bytes
  joined =
      let n : length v - 24 - t.offset ≡ t.count * 24 = omega (arith, filled) in
      let z : t.offset - 0 ≡ t.offset = omega arith in
      rw (z, n, r)

  -- each behind the one before
  pub added-stored : {o₁ o₂ o₃ o₄ o₅ : List ℕ} {k₂ k₃ k₄ k₅ : ℕ}
      → o₁ ≡ placed out 0 front → o₂ ≡ placed o₁ k₂ contents → o₃ ≡ placed o₂ k₃ earlier → o₄ ≡ placed o₃ k₄ entry → o₅ ≡ placed o₄ k₅ last
      → k₂ ≡ t.offset → k₃ ≡ t.offset + length contents → k₄ ≡ length v - 24 + length contents → k₅ ≡ length v + length contents
      → o₅ ≡ placed out 0 (added v contents term today)
  added-stored {k₂ = k₂} {k₃ = k₃} {k₄ = k₄} {k₅ = k₅} e₁ e₂ e₃ e₄ e₅ p₂ p₃ p₄ p₅ =
      let z : t.offset - 0 ≡ t.offset = omega arith in
      let lf : length front ≡ t.offset = rw z (length-take-le t.offset v (omega (arith, filled))) in
      let le : length earlier ≡ length v - 24 - t.offset =
      length-take-le (length v - 24 - t.offset) (drop t.offset v) (simp length-drop (omega arith)) in
      let l₁ = length_fields t.offset (length contents) today term in
      let l₂ = length_fields (t.offset + length contents) (t.count + 1) today 0 in
      let a : length (front ++ contents) ≡ k₃ = simp length-append (omega arith) in
      let b : length ((front ++ contents) ++ earlier) ≡ k₄ = simp length-append (omega (arith, filled)) in
      let c : length (((front ++ contents) ++ earlier) ++ entry) ≡ k₅ = simp length-append (omega (arith, filled)) in
      rw (
        e₅,
        e₄,
        e₃,
        e₂,
        e₁,
        placed-next out 0 front contents k₂ (omega arith) (omega (arith, filled)),
        placed-next out 0 (front ++ contents) earlier k₃ (omega arith) (omega (arith, filled)),
        placed-next out 0 ((front ++ contents) ++ earlier) entry k₄ (omega arith) (omega (arith, filled)),
        placed-next out 0 (((front ++ contents) ++ earlier) ++ entry) last k₅ (omega arith) (omega (arith, filled)),
        ← joined,
      )
      (simp append_assoc)
