-- What a sound frame says, what it depends on, and that a header that was written is read again.
use mathlib.Core.Bool.{false, not, ◌||◌}
use mathlib.Core.List.{List, [], ◌∷◌, ◌++◌, append_assoc}
use mathlib.Core.Logic.{◌⊎◌, inl, inr}
use mathlib.Core.Path.{◌≡◌, refl, sym, ap, ◌∙◌}
use Prim.Native.Nat.{ℕ, ◌^◌, ◌≤◌, ◌<◌}
use native.Mathlib.Omega.{arith}
use lib.Dec.{eqb, ltb}
use lib.ListN.{length, get_or, take, drop, length-append, length-take, length-drop}
use lib.Seq.{take_at, drop_at, take-add, drop-drop, drop-cons, get_or_at}
use borrow.Author.Tests.{eqb-true, eq-eqb, ltb-false, le-ltb, not-false}
use denote.Ref.{Bor}
use Rattle.std.specs.Option.{option_eq}
use Rattle.std.specs.Slice.{IsGetRangeResult}
use Rattle.std.proofs.Common.{Option, Some, None}
use lib.Pointwise.{pointwise}
use Rattle.octets.specs.Bytes.{digits, same}
use Rattle.octets.proofs.Equal.{eq-same}
use Rattle.octets.proofs.Alike.{number_alike, part_alike}
use Rattle.octets.proofs.Bytes.{same_equal, same_true, same_false, length_digits, number_digits, number_before, number_behind, digits_number}
use Rattle.octets.proofs.Tests.{or_false_left, or_false_right}
use Rattle.boxes.specs.Box.{size, type, version, flags, bad_frame, header}

module _ (least : ℕ) (kind box : List ℕ) where
  module _ (h : bad_frame least kind box ≡ false) where
    pub frame_long : least ≤ length box
    unfolding bad_frame
    frame_long = ltb-false (length box) least (or_false_left _ _ (or_false_left _ _ h))

    pub frame_size : size box ≡ length box
    unfolding bad_frame
    frame_size = eqb-true (size box) (length box) (not-false _ (or_false_right (ltb (length box) least) _ (or_false_left _ _ h)))

    pub frame_type : type box ≡ kind
    unfolding bad_frame
    frame_type =
        same_equal (type box) kind
        (not-false _ (or_false_right (ltb (length box) least || not (eqb (size box) (length box))) _ h))

  -- what comparing the bytes looked up, if there are any, with the type says
  pub type_compared : length kind ≡ 4 → (r : Option (Bor (List ℕ))) (k : Bor (List ℕ)) → IsGetRangeResult box 4 8 r → k.now ≡ kind
      → option_eq (λ (x y : Bor (List ℕ)). pointwise eqb x.now y.now) r (Some k) ≡ same (type box) kind
  type_compared n None k h e = sym (same_false (type box) kind (λ t. short h.0 (ap length t ∙ n)))
    where
      short : (8 < 4) ⊎ (length box < 8) → length (type box) ≡ 4 → ⊥
      short (inl l) t = omega arith
      short (inr l) t = omega (arith, l, t, length-take 4 (drop 4 box), length-drop 4 box)
  type_compared n (Some x) k h e = eq-same x.now k.now ∙ rw (e, h.0.2)

  pub framed : least ≤ length box → size box ≡ length box → type box ≡ kind → bad_frame least kind box ≡ false
  unfolding bad_frame
  framed l s t = rw (le-ltb (length box) least l, eq-eqb (size box) (length box) s, same_true (type box) kind t)

-- two boxes of one length that agree in size and type
pub frame_alike : (least : ℕ) (kind a b : List ℕ) → length a ≡ length b → ((i : ℕ) → i < 8 → get_or a i 0 ≡ get_or b i 0)
    → bad_frame least kind a ≡ bad_frame least kind b
unfolding bad_frame
frame_alike least kind a b e h =
    rw (e, number_alike a b 4 0 (λ i l m. h i (omega arith)), part_alike a b 4 4 e (λ i l m. h i (omega arith)))

-- ---- The header.

pub header-length : (s v f : ℕ) (kind : List ℕ) → length kind ≡ 4 → length (header s kind v f) ≡ 12
unfolding header
header-length s v f kind k = simp (length-append, length_digits) (omega (arith, k, length_digits 3 f))

-- the fields of a box that begins with one
module _ (s v f : ℕ) (kind rest : List ℕ) (k : length kind ≡ 4) where
  abbrev box : List ℕ
  box = header s kind v f ++ rest

  -- what follows the size, the type and the version
  abbrev after-type : List ℕ
  after-type = v ∷ (digits 3 f ++ rest)

  parts : box ≡ digits 4 s ++ (kind ++ after-type)
  unfolding header
  parts = simp append_assoc

  pub size-written : s < 256 ^ 4 → size box ≡ s
  size-written h =
      ap size parts ∙ number_before 4 (digits 4 s) (kind ++ after-type) 0 (omega (arith, length_digits 4 s)) ∙ number_digits 4 s h

  pub type-written : type box ≡ kind
  type-written =
      ap type parts ∙ rw (drop_at (digits 4 s) (kind ++ after-type) 4 (length_digits 4 s)) (take_at kind after-type 4 k)

  front : length (digits 4 s ++ kind) ≡ 8
  front = simp (length-append, length_digits) (omega (arith, k))

  pub version-written : version box ≡ v
  version-written =
      ap version (parts ∙ sym (append_assoc (digits 4 s) kind after-type)) ∙ get_or_at (digits 4 s ++ kind) v (digits 3 f ++ rest) 0 8 front

  pub flags-written : f < 256 ^ 3 → flags box ≡ f
  flags-written h =
      ap flags (parts ∙ sym (append_assoc (digits 4 s) kind after-type))
      ∙ number_behind 3 (digits 4 s ++ kind) after-type 8 1 front
      ∙ number_behind 3 (v ∷ []) (digits 3 f ++ rest) 1 0 refl
      ∙ number_before 3 (digits 3 f) rest 0 (omega (arith, length_digits 3 f)) ∙ number_digits 3 f h

-- the header of a box that was read is its first 12 bytes
pub header_read : (least : ℕ) (kind box : List ℕ) → bad_frame least kind box ≡ false → 12 ≤ length box
    → ((i : ℕ) → get_or box i 0 < 256) → header (length box) kind (version box) (flags box) ≡ take 12 box
unfolding header
header_read least kind box h l small =
    rw (← (frame_size least kind box h), ← (frame_type least kind box h), digits_number 4 box 0 small (omega arith), digits_number 3 box 9 small (omega arith))
    (sym (take-add 4 8 box ∙ rw (take-add 4 4 (drop 4 box), drop-drop 4 4 box, drop-cons box 8 0 (omega arith))))
