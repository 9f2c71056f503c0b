-- Reading what was written gives the parameters again, and writing what was read gives the bytes.
use mathlib.Core.Bool.{Bool, true, false, cond, not, ◌&&◌, ◌||◌}
use mathlib.Core.List.{List, [], ◌∷◌, ◌++◌, append-nil}
use mathlib.Core.Path.{◌≡◌, refl, sym, ap, ap₂, ◌∙◌}
use Prim.Native.Nat.{ℕ, ◌+◌, ◌*◌, ◌/◌, ◌%◌, ◌^◌, ◌≤◌, ◌<◌}
use native.Mathlib.Nat.{le_of_eq}
use native.Mathlib.Omega.{arith}
use lib.Dec.{eqb, ltb}
use lib.ListN.{length, get_or, take, drop, length-drop, length-append, take-append-drop}
use lib.Seq.{drop-cons, drop-drop, drop-append-add, take_at, drop_at, get_or_at, get_or-drop, get_or-append-add}
use borrow.Author.Tests.{eqb-true, not-false, le-ltb, eq-eqb}
use Rattle.octets.specs.Answers.{answer}
use Rattle.octets.specs.Bytes.{filled}
use Rattle.octets.proofs.Answers.{done_head, done_tail}
use Rattle.octets.proofs.Bytes.{same_equal, filled_long, filled_all}
use Rattle.octets.proofs.Tests.{or_false_left, or_false_right}
use Rattle.boxes.specs.Box as frame
use Rattle.boxes.proofs.Frame.{frame_long, framed, header-length, size-written, type-written, version-written, flags-written, header_read}
use Rattle.track_spec.specs.declared.Parameters.{Parameters}
use Rattle.track_spec.specs.Track.{tenc, zeros, known, has_constant, allowed, Held, bad_version, box_length, fields_from, fields, bad_head, bad_fields, read_rows, read_box, field_bytes, box_bytes, write_rows}
use Rattle.track_spec.proofs.Codes.{allowed_constant, allowed_small}

-- ---- The fields by themselves, as they follow a header.

-- Fields from a place on are those of the bytes there.
fields_dropped : (at : ℕ) (code : List ℕ) (version : ℕ) (b : List ℕ)
    → fields_from at code version b ≡ fields_from 0 code version (drop at b)
unfolding fields_from
fields_dropped at code version b =
    rw (get_or-drop at b 1 0, get_or-drop at b 2 0, get_or-drop at b 3 0, drop-drop 4 at b, drop-drop 21 at b)

-- The length that the fields call for.
abbrev pub fields_length : ℕ → ℕ → ℕ
fields_length protected iv_size = cond (has_constant protected iv_size) 37 20

-- What is written of fields that were read are their bytes.
module _ (code : List ℕ) (version : ℕ) where
  kid_and_rest : (protected iv_size : ℕ) (r : List ℕ) → 4 + length r ≡ fields_length protected iv_size
      → (has_constant protected iv_size ≡ true → get_or r 16 0 ≡ 16)
      → filled 16 r ++ cond (has_constant protected iv_size) (16 ∷ cond (has_constant protected iv_size) (filled 16 (drop 17 r)) zeros) [] ≡ r
  kid_and_rest protected iv_size r l c = go (has_constant protected iv_size) l c
    where
      go : (t : Bool) → 4 + length r ≡ cond t 37 20 → (t ≡ true → get_or r 16 0 ≡ 16)
          → filled 16 r ++ cond t (16 ∷ cond t (filled 16 (drop 17 r)) zeros) [] ≡ r
      go true l c =
          rw (filled_long 16 r (omega arith), filled_all 16 (drop 17 r) (simp length-drop (omega arith)))
          (ap (λ (n : ℕ). take 16 r ++ (n ∷ drop 17 r)) (sym (c refl))
          ∙ ap (λ (l : List ℕ). take 16 r ++ l) (sym (drop-cons r 16 0 (omega arith))) ∙ take-append-drop 16 r)
      go false l c = rw (filled_all 16 r (omega arith)) (append-nil r)

  -- four bytes, and the rest
  four : (e : List ℕ) → 4 ≤ length e → e ≡ get_or e 0 0 ∷ get_or e 1 0 ∷ get_or e 2 0 ∷ get_or e 3 0 ∷ drop 4 e
  four [] l = absurd (omega arith)
  four (z ∷ []) l = absurd (omega arith)
  four (z ∷ x ∷ []) l = absurd (omega arith)
  four (z ∷ x ∷ f ∷ []) l = absurd (omega arith)
  four (z ∷ x ∷ f ∷ i ∷ r) l = refl

  written_again : (e : List ℕ) → 20 ≤ length e → get_or e 0 0 ≡ 0 → length e ≡ fields_length (get_or e 2 0) (get_or e 3 0)
      → (has_constant (get_or e 2 0) (get_or e 3 0) ≡ true → get_or e 20 0 ≡ 16)
      → field_bytes (fields_from 0 code version e) ≡ e
  unfolding field_bytes fields_from
  written_again e n z l c =
      let x = get_or e 1 0 in
      let y : x / 16 * 16 + x % 16 ≡ x = omega arith in
      let m : 4 + length (drop 4 e) ≡ length e = simp length-drop (omega arith) in
      let g : get_or (drop 4 e) 16 0 ≡ get_or e 20 0 = get_or-drop 4 e 16 0 in
      rw (y, ← (drop-drop 17 4 e), kid_and_rest (get_or e 2 0) (get_or e 3 0) (drop 4 e) (m ∙ l) (λ t. g ∙ c t))
      (ap (λ (k : ℕ). k ∷ x ∷ get_or e 2 0 ∷ get_or e 3 0 ∷ drop 4 e) (sym z) ∙ sym (four e (omega arith)))

-- ---- The box.

-- What an accepted box says.
pub record Accepted (code box : List ℕ) : Type 0 where
  pub known_code : known code ≡ true
  pub whole : frame.bad_frame 32 tenc box ≡ false
  pub version : bad_version (get_or box 8 0) (get_or box 13 0 / 16) (get_or box 13 0 % 16) ≡ false
  pub flags : frame.flags box ≡ 0
  pub zero : get_or box 12 0 ≡ 0
  pub permitted : allowed (fields code box) ≡ true
  pub fits : length box ≡ box_length (get_or box 14 0) (get_or box 15 0)
  pub constant : has_constant (get_or box 14 0) (get_or box 15 0) ≡ true → get_or box 32 0 ≡ 16

pub accepted : (code box : List ℕ) → answer (read_rows code box) ≡ 0 → Accepted code box
unfolding read_rows bad_head bad_fields fields fields_from
accepted code box h =
    let h1 = done_tail 1 _ _ (omega arith) h in
    let h2 = done_tail 2 _ _ (omega arith) h1 in
    let r3 = done_head 3 _ _ (omega arith) h2 in
    let r4 = done_head 4 _ _ (omega arith) (done_tail 3 _ _ (omega arith) h2) in
    let v : Bool = bad_version (get_or box 8 0) (get_or box 13 0 / 16) (get_or box 13 0 % 16) in
    let a : Bool = not (allowed (fields code box)) in
    let l : Bool = not (eqb (length box) (box_length (get_or box 14 0) (get_or box 15 0))) in
    record {
      known_code = not-false _ (done_head 1 _ _ (omega arith) h);
      whole = done_head 2 _ _ (omega arith) h1;
      version = or_false_left v _ (or_false_left _ _ r3);
      flags = eqb-true (frame.flags box) 0 (not-false _ (or_false_right v _ (or_false_left _ _ r3)));
      zero = eqb-true (get_or box 12 0) 0 (not-false _ (or_false_right (v || not (eqb (frame.flags box) 0)) _ r3));
      permitted = not-false _ (or_false_left a _ (or_false_left _ _ r4));
      fits = eqb-true (length box) (box_length (get_or box 14 0) (get_or box 15 0)) (not-false _ (or_false_right a _ (or_false_left _ _ r4)));
      constant = λ e. eqb-true (get_or box 32 0) 16 (not-false _ (rw e at (or_false_right (a || l) _ r4)));
    }

module _ (code box : List ℕ) (a : Accepted code box) where
  rest : List ℕ
  rest = drop 12 box

  rest_length : length box ≡ 12 + length rest
  unfolding rest
  rest_length = simp length-drop (omega (arith, frame_long 32 tenc box a.whole))

  rest_at : (i k : ℕ) → 12 + i ≡ k → get_or rest i 0 ≡ get_or box k 0
  unfolding rest
  rest_at i k e = get_or-drop 12 box i 0 ∙ ap (λ (n : ℕ). get_or box n 0) e

  rest_fits : (t : Bool) → length box ≡ cond t 49 32 → length rest ≡ cond t 37 20
  rest_fits true e = omega (arith, rest_length)
  rest_fits false e = omega (arith, rest_length)

  -- the fields' bytes are those after the header
  fields_again : field_bytes (fields code box) ≡ rest
  unfolding fields rest
  fields_again =
      let p = rest_at 2 14 refl in
      let i = rest_at 3 15 refl in
      ap field_bytes (fields_dropped 12 code (frame.version box) box)
      ∙ written_again code (frame.version box) rest (omega (arith, rest_length, frame_long 32 tenc box a.whole))
      (rest_at 0 12 refl ∙ a.zero) (rw (p, i) (rest_fits (has_constant (get_or box 14 0) (get_or box 15 0)) a.fits))
      (rw (p, i) (λ e. rest_at 20 32 refl ∙ a.constant e))

-- Writing what was read gives the bytes.
pub read_write : (code box : List ℕ) → ((i : ℕ) → get_or box i 0 < 256) → answer (read_rows code box) ≡ 0
    → box_bytes (fields code box) ≡ box
unfolding box_bytes fields fields_from rest
read_write code box small h =
    let a = accepted code box h in
    let n : 32 ≤ length box = frame_long 32 tenc box a.whole in
    let front : frame.header (box_length (get_or box 14 0) (get_or box 15 0)) tenc (frame.version box) 0 ≡ take 12 box =
    ap₂ (λ (n f : ℕ). frame.header n tenc (frame.version box) f) (sym a.fits) (sym a.flags)
    ∙ header_read 32 tenc box a.whole (omega arith) small in
    ap₂ (λ (x y : List ℕ). x ++ y) front (fields_again code box a) ∙ take-append-drop 12 box

-- and the writer accepts it, in an output of the box's length.
pub read_accepted : (code box : List ℕ) → answer (read_rows code box) ≡ 0 → answer (write_rows (fields code box) (length box)) ≡ 0
unfolding write_rows answer fields fields_from
read_accepted code box h =
    let a = accepted code box h in
    let room : ltb (length box) (box_length (get_or box 14 0) (get_or box 15 0)) ≡ false = le-ltb _ _ (le_of_eq (sym a.fits)) in
    rw (a.known_code, a.version, a.permitted, room)

-- ---- Reading what was written.

module _ (p : Parameters) (held : Held p) (ok : allowed p ≡ true) where
  abbrev has : Bool
  has = has_constant p.protected p.iv_size

  -- what follows the KID
  abbrev tail : Bool → List ℕ
  tail t = cond t (16 ∷ p.constant_iv.0) []

  pub length_fields : length (field_bytes p) ≡ fields_length p.protected p.iv_size
  unfolding field_bytes
  length_fields = go has
    where
      go : (t : Bool) → length (0 ∷ 0 ∷ 0 ∷ 0 ∷ (p.kid.0 ++ tail t)) ≡ cond t 37 20
      go true = simp length-append (omega (arith, held.kid, held.constant))
      go false = simp length-append (omega (arith, held.kid))

  constant_again : cond has (filled 16 (drop 17 (p.kid.0 ++ tail has))) zeros ≡ p.constant_iv.0
  constant_again = go has refl
    where
      go : (t : Bool) → has ≡ t → cond t (filled 16 (drop 17 (p.kid.0 ++ tail t))) zeros ≡ p.constant_iv.0
      go true e =
          let m : 17 ≡ length p.kid.0 + 1 = omega (arith, held.kid) in
          let d : drop 17 (p.kid.0 ++ tail true) ≡ p.constant_iv.0 =
          ap (λ (n : ℕ). drop n (p.kid.0 ++ tail true)) m ∙ drop-append-add p.kid.0 (tail true) 1 in
          ap (filled 16) d ∙ filled_all 16 p.constant_iv.0 held.constant
      go false e = sym (same_equal p.constant_iv.0 zeros (rw e at (allowed_constant p ok)))

  -- the fields' bytes read as p
  read_again : fields_from 0 p.code p.version (field_bytes p) ≡ p
  unfolding fields_from field_bytes
  read_again =
      let small = allowed_small p ok in
      let q : (p.crypt * 16 + p.skip) / 16 ≡ p.crypt = omega (arith, small.1) in
      let r : (p.crypt * 16 + p.skip) % 16 ≡ p.skip = omega (arith, small.1) in
      let l : 16 ≤ length (p.kid.0 ++ tail has) = simp length-append (omega (arith, held.kid)) in
      let k : filled 16 (p.kid.0 ++ tail has) ≡ p.kid.0 =
      filled_long 16 (p.kid.0 ++ tail has) l ∙ take_at p.kid.0 (tail has) 16 held.kid in
      rw (q, r, k, constant_again)

  -- ---- the box

  abbrev size : ℕ
  size = box_length p.protected p.iv_size

  abbrev head : List ℕ
  head = frame.header size tenc p.version 0

  head_length : length head ≡ 12
  head_length = header-length size p.version 0 tenc refl

  -- a byte after the header
  byte-behind : (i k : ℕ) → 12 + i ≡ k → get_or (box_bytes p) k 0 ≡ get_or (field_bytes p) i 0
  unfolding box_bytes
  byte-behind i k e =
      let j : k ≡ length head + i = omega (arith, head_length) in
      ap (λ (n : ℕ). get_or (head ++ field_bytes p) n 0) j ∙ get_or-append-add head (field_bytes p) i 0

  pub header_and_fields : 12 + length (field_bytes p) ≡ size
  header_and_fields = ap (λ (n : ℕ). 12 + n) length_fields ∙ go has
    where
      go : (t : Bool) → 12 + cond t 37 20 ≡ cond t 49 32
      go true = refl
      go false = refl

  pub box_length_lem : length (box_bytes p) ≡ size
  unfolding box_bytes
  box_length_lem = length-append head (field_bytes p) ∙ rw head_length header_and_fields

  pub size_between : (32 ≤ size) × (size < 256 ^ 4)
  size_between = go has
    where
      go : (t : Bool) → (32 ≤ cond t 49 32) × (cond t 49 32 < 256 ^ 4)
      go true = omega arith
      go false = omega arith

  box_frame : frame.bad_frame 32 tenc (box_bytes p) ≡ false
  unfolding box_bytes
  box_frame =
      framed 32 tenc (box_bytes p) (rw box_length_lem size_between.0)
      (size-written size p.version 0 tenc (field_bytes p) refl size_between.1 ∙ sym box_length_lem)
      (type-written size p.version 0 tenc (field_bytes p) refl)

  box_fields : fields p.code (box_bytes p) ≡ p
  unfolding fields box_bytes
  box_fields =
      fields_dropped 12 p.code (frame.version (box_bytes p)) (box_bytes p)
      ∙ rw (version-written size p.version 0 tenc (field_bytes p) refl, drop_at head (field_bytes p) 12 head_length) read_again

  box_constant : (has && not (eqb (get_or (box_bytes p) 32 0) 16)) ≡ false
  unfolding field_bytes
  box_constant = rw (byte-behind 20 32 refl) (go has)
    where
      go : (t : Bool) → (t && not (eqb (get_or (p.kid.0 ++ tail t) 16 0) 16)) ≡ false
      go true = rw (get_or_at p.kid.0 16 p.constant_iv.0 0 16 held.kid)
      go false = refl

  module _ (k : known p.code ≡ true) (v : bad_version p.version p.crypt p.skip ≡ false) where
    head_good : bad_head (box_bytes p) p ≡ false
    unfolding bad_head box_bytes field_bytes
    head_good = rw (v, flags-written size p.version 0 tenc (field_bytes p) refl (omega arith), byte-behind 0 12 refl)

    fields_good : bad_fields (box_bytes p) p ≡ false
    unfolding bad_fields
    fields_good = rw (ok, eq-eqb (length (box_bytes p)) size box_length_lem) box_constant

    read_box_lem : read_box p.code (box_bytes p) ≡ record { answer = 0; parameters = p }
    unfolding read_box read_rows answer
    read_box_lem = rw (k, box_frame, box_fields, head_good, fields_good)

-- Reading what was written gives the parameters again.
pub write_read : (p : Parameters) (room : ℕ) → Held p → answer (write_rows p room) ≡ 0
    → read_box p.code (box_bytes p) ≡ record { answer = 0; parameters = p }
unfolding write_rows
write_read p room held h =
    let h1 = done_tail 1 _ _ (omega arith) h in
    read_box_lem p held (not-false _ (done_head 4 _ _ (omega arith) (done_tail 3 _ _ (omega arith) h1)))
    (not-false _ (done_head 1 _ _ (omega arith) h)) (done_head 3 _ _ (omega arith) h1)
