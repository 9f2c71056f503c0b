-- What is stored one after the other is the fields' bytes, and after a header the box.
use mathlib.Core.Bool.{Bool, true, false, cond}
use mathlib.Core.List.{List, ◌∷◌, ◌++◌, append-nil}
use mathlib.Core.Path.{◌≡◌, refl, ap, ◌∙◌}
use Prim.Native.Nat.{ℕ, ◌+◌, ◌≤◌}
use native.Mathlib.Nat.{zero-add}
use native.Mathlib.Omega.{arith}
use lib.ListN.{length, take, drop}
use Rattle.octets.specs.Bytes.{placed}
use Rattle.octets.proofs.Bytes.{placed_fits}
use Rattle.octets.proofs.Fill.{placed-next}
use Rattle.boxes.specs.Box as frame
use Rattle.boxes.proofs.Frame.{header-length}
use Rattle.track_spec.specs.declared.Parameters.{Parameters}
use Rattle.track_spec.specs.Track.{tenc, has_constant, allowed, box_length, front_bytes, field_bytes, box_bytes, Held}
use Rattle.track_spec.proofs.RoundTrip.{length_fields, header_and_fields, box_length_lem}

module _ (p : Parameters) (held : Held p) (ok : allowed p ≡ true) (out : List ℕ) (at : ℕ)
    (room : at + length (field_bytes p) ≤ length out) where
  abbrev front : List ℕ
  front = front_bytes p

  abbrev with_kid : List ℕ
  with_kid = placed (placed out at front) (at + 4) p.kid.0

  pub room_for : (t : Bool) → has_constant p.protected p.iv_size ≡ t → at + cond t 37 20 ≤ length out
  room_for t e = rw (length_fields p held ok, e) at room

  kid_behind : 20 + at ≤ length out → with_kid ≡ placed out at (front ++ p.kid.0)
  kid_behind l = placed-next out at front p.kid.0 (at + 4) refl (omega (arith, held.kid))

  pub stored_plain : has_constant p.protected p.iv_size ≡ false → with_kid ≡ placed out at (field_bytes p)
  unfolding field_bytes
  stored_plain e = rw (e, append-nil p.kid.0) (kid_behind (omega (arith, room_for false e)))

  pub stored_constant : has_constant p.protected p.iv_size ≡ true
      → placed with_kid (at + 20) (16 ∷ p.constant_iv.0) ≡ placed out at (field_bytes p)
  unfolding field_bytes
  stored_constant e =
      let r = room_for true e in
      rw (e, kid_behind (omega arith))
      (placed-next out at (front ++ p.kid.0) (16 ∷ p.constant_iv.0) (at + 20)
      (omega (arith, held.kid)) (omega (arith, held.constant)))

-- the box: a header, and the fields behind it
pub stored_box : (p : Parameters) → Held p → allowed p ≡ true → (out : List ℕ) → box_length p.protected p.iv_size ≤ length out
    → placed (placed out 0 (frame.header (box_length p.protected p.iv_size) tenc p.version 0)) 12 (field_bytes p)
    ≡ box_bytes p ++ drop (box_length p.protected p.iv_size) out
unfolding box_bytes
stored_box p held ok out room =
    let size : ℕ = box_length p.protected p.iv_size in
    let head : List ℕ = frame.header size tenc p.version 0 in
    let h : length head ≡ 12 = header-length size p.version 0 tenc refl in
    let n : length (head ++ field_bytes p) ≡ size = box_length_lem p held ok in
    placed-next out 0 head (field_bytes p) 12 (omega (arith, h)) (omega (arith, header_and_fields p held ok))
    ∙ placed_fits out 0 (head ++ field_bytes p) (omega (arith, n))
    ∙ ap (λ (k : ℕ). take 0 out ++ ((head ++ field_bytes p) ++ drop k out)) (zero-add (length (head ++ field_bytes p)) ∙ n)
