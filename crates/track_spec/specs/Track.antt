-- Document 01, "The track box", and document 02, Asks 2 and 8: the four scheme codes, the parameters that are allowed, the box read
-- and written.
use Rattle.std.specs.Prelude.{Bool, cond, not, ◌&&◌, ◌||◌, List, [], ◌∷◌, ◌++◌, map, ◌≡◌, refl, ℕ, ◌+◌, ◌*◌, ◌/◌, ◌%◌, eqb, leb, ltb, length, get_or, drop, replicate}
use Rattle.std.specs.declared.result.Result.{Result}
use Rattle.std.specs.declared.result.Result.TheVariants.{Ok, Err}
use Rattle.refusals.specs.declared.Refusal.{Refusal}
use Rattle.refusals.specs.Refusals.{refusal_number}
use Rattle.octets.specs.Answers.{Row, row, answer}
use Rattle.octets.specs.Ascii.{ascii}
use Rattle.octets.specs.Bytes.{same, number, digits, filled}
use Rattle.octets.specs.Cases.{Case, is, all_made, all_said, Hold, span}
use Rattle.boxes.specs.Box as frame
use Rattle.track_spec.specs.declared.Parameters.{Parameters}

-- What reading a box answers.
pub record BoxRead : Type 0 where
  pub answer : ℕ
  pub parameters : Parameters

-- What writing a box answers: the number of bytes written, 0 if refused.
pub record BoxWritten : Type 0 where
  pub answer : ℕ
  pub length : ℕ

-- The scheme codes and the box type.
abbrev pub cenc : List ℕ
cenc = ascii "cenc"

abbrev pub cbc1 : List ℕ
cbc1 = ascii "cbc1"

abbrev pub cens : List ℕ
cens = ascii "cens"

abbrev pub cbcs : List ℕ
cbcs = ascii "cbcs"

abbrev pub tenc : List ℕ
tenc = ascii "tenc"

abbrev pub zeros : List ℕ
zeros = replicate 16 0

-- The code names one of the four schemes.
unfoldable pub known : List ℕ → Bool
known code = same code cenc || same code cbc1 || same code cens || same code cbcs

-- ---- What is allowed.

-- A protected track with no IV of its own for each sample has a constant one.
abbrev pub has_constant : ℕ → ℕ → Bool
has_constant protected iv_size = eqb protected 1 && eqb iv_size 0

abbrev pub no_pattern : ℕ → ℕ → Bool
no_pattern crypt skip = eqb crypt 0 && eqb skip 0

-- Crypt 1 to 15, skip 0 to 15.
abbrev pub a_pattern : ℕ → ℕ → Bool
a_pattern crypt skip = leb 1 crypt && leb crypt 15 && leb skip 15

-- What cens and cbcs may have: a pattern, or 0:0 (document 02, Ask 2).
abbrev pub pattern_or_none : ℕ → ℕ → Bool
pattern_or_none crypt skip = no_pattern crypt skip || a_pattern crypt skip

abbrev pub eight_or_sixteen : ℕ → Bool
eight_or_sixteen iv_size = eqb iv_size 8 || eqb iv_size 16

-- What a protected track of each scheme may have.
unfoldable pub allowed_protected : List ℕ → ℕ → ℕ → ℕ → Bool
allowed_protected code iv_size crypt skip =
    cond (same code cenc) (eight_or_sixteen iv_size && no_pattern crypt skip)
    (cond (same code cbc1) (eqb iv_size 16 && no_pattern crypt skip)
    (cond (same code cens) (eight_or_sixteen iv_size && pattern_or_none crypt skip)
    (eqb iv_size 0 && pattern_or_none crypt skip)))

-- What a track may have; the flag is 0 or 1.
unfoldable pub allowed_fields : List ℕ → ℕ → ℕ → ℕ → ℕ → Bool
allowed_fields code protected iv_size crypt skip =
    cond (eqb protected 0) (eqb iv_size 0 && no_pattern crypt skip)
    (eqb protected 1 && allowed_protected code iv_size crypt skip)

-- The KID is sixteen zero bytes.
abbrev pub zero_kid : List ℕ → Bool
zero_kid kid = same kid zeros

-- A protected track under the zero KID (document 02, Ask 8).
abbrev pub under_zero_kid : ℕ → List ℕ → Bool
under_zero_kid protected kid = eqb protected 1 && zero_kid kid

-- The fields are allowed, the KID of a protected track isn't zero, and where no constant IV is called for its 16 bytes are zero.
unfoldable pub allowed : Parameters → Bool
allowed p =
    not (under_zero_kid p.protected p.kid.0)
    && (has_constant p.protected p.iv_size || same p.constant_iv.0 zeros)
    && allowed_fields p.code p.protected p.iv_size p.crypt p.skip

-- Parameters as the types of the code hold them: KID and constant IV have 16 bytes.
pub record Held (p : Parameters) : Type 0 where
  pub kid : length p.kid.0 ≡ 16
  pub constant : length p.constant_iv.0 ≡ 16

-- A version above 1, or a pattern in version 0.
abbrev pub bad_version : ℕ → ℕ → ℕ → Bool
bad_version version crypt skip = ltb 1 version || (eqb version 0 && not (no_pattern crypt skip))

-- The length that the fields call for.
abbrev pub box_length : ℕ → ℕ → ℕ
box_length protected iv_size = cond (has_constant protected iv_size) 49 32

-- ---- Reading.

-- The parameters that stand from a place on, in a version: a zero byte, pattern byte, protected flag, IV size and KID; then, where
-- it is called for, a constant IV size and the constant IV. A byte past the end counts as zero.
unfoldable pub fields_from : ℕ → List ℕ → ℕ → List ℕ → Parameters
fields_from at code version b =
    record {
      code = code;
      version = version;
      crypt = get_or b (at + 1) 0 / 16;
      skip = get_or b (at + 1) 0 % 16;
      protected = get_or b (at + 2) 0;
      iv_size = get_or b (at + 3) 0;
      kid = record { 0 = filled 16 (drop (at + 4) b) };
      constant_iv = record { 0 = cond (has_constant (get_or b (at + 2) 0) (get_or b (at + 3) 0)) (filled 16 (drop (at + 21) b)) zeros };
    }

-- Those of a box, after its header.
unfoldable pub fields : List ℕ → List ℕ → Parameters
fields code box = fields_from 12 code (frame.version box) box

-- 3: version above 1, flags or zero byte not zero, or a pattern in version 0.
unfoldable pub bad_head : List ℕ → Parameters → Bool
bad_head box p =
    bad_version p.version p.crypt p.skip || not (eqb (frame.flags box) 0) || not (eqb (get_or box 12 0) 0)

-- 4: fields that aren't allowed, or a box that is longer or shorter than they call for; a constant IV has 16 bytes.
unfoldable pub bad_fields : List ℕ → Parameters → Bool
bad_fields box p =
    not (allowed p) || not (eqb (length box) (box_length p.protected p.iv_size))
    || (has_constant p.protected p.iv_size && not (eqb (get_or box 32 0) 16))

-- 2: under 32 bytes, a size that isn't the slice's length, or a type that isn't `tenc`.
unfoldable pub read_rows : List ℕ → List ℕ → List Row
read_rows code box =
    row 1 (not (known code)) ∷ row 2 (frame.bad_frame 32 tenc box) ∷ row 3 (bad_head box (fields code box))
    ∷ row 4 (bad_fields box (fields code box)) ∷ []

-- The parameters of an empty unprotected cenc track in version 0.
abbrev pub unprotected : Parameters
unprotected =
    record {
      code = cenc;
      version = 0;
      crypt = 0;
      skip = 0;
      protected = 0;
      iv_size = 0;
      kid = record { 0 = zeros };
      constant_iv = record { 0 = zeros };
    }

-- The answer of a reading as a number and parameters; a refusal has those of an empty unprotected track.
abbrev pub as_box_read : Result Parameters Refusal → BoxRead
as_box_read (Ok p) = record { answer = 0; parameters = p }
as_box_read (Err r) = record { answer = refusal_number r; parameters = unprotected }

unfoldable pub read_box : List ℕ → List ℕ → BoxRead
read_box code box =
    record {
      answer = answer (read_rows code box);
      parameters = cond (eqb (answer (read_rows code box)) 0) (fields code box) unprotected;
    }

-- ---- Writing.

-- Zero byte, pattern byte, protected flag and IV size.
abbrev pub front_bytes : Parameters → List ℕ
front_bytes p = 0 ∷ (p.crypt * 16 + p.skip) ∷ p.protected ∷ p.iv_size ∷ []

-- The bytes of parameters, as they follow a header.
unfoldable pub field_bytes : Parameters → List ℕ
field_bytes p =
    front_bytes p ++ (p.kid.0 ++ cond (has_constant p.protected p.iv_size) (16 ∷ p.constant_iv.0) [])

-- The bytes of a box.
unfoldable pub box_bytes : Parameters → List ℕ
box_bytes p = frame.header (box_length p.protected p.iv_size) tenc p.version 0 ++ field_bytes p

-- 1, 3 and 4 of parameters.
abbrev pub parameter_rows : Parameters → List Row
parameter_rows p =
    row 1 (not (known p.code)) ∷ row 3 (bad_version p.version p.crypt p.skip) ∷ row 4 (not (allowed p)) ∷ []

-- The output's length is room.
unfoldable pub write_rows : Parameters → ℕ → List Row
write_rows p room = parameter_rows p ++ (row 17 (ltb room (box_length p.protected p.iv_size)) ∷ [])

-- The answer of a writing as a number and a length; a refusal has none.
abbrev pub as_box_written : Result ℕ Refusal → BoxWritten
as_box_written (Ok n) = record { answer = 0; length = n }
as_box_written (Err r) = record { answer = refusal_number r; length = 0 }

unfoldable pub write_box : Parameters → ℕ → BoxWritten
write_box p room =
    record {
      answer = answer (write_rows p room);
      length = cond (eqb (answer (write_rows p room)) 0) (box_length p.protected p.iv_size) 0;
    }

-- The output after writing: the box in front, and nothing else changed; after a refusal, as it was.
unfoldable pub after_writing : Parameters → List ℕ → List ℕ
after_writing p out =
    cond (eqb (answer (write_rows p (length out))) 0) (box_bytes p ++ drop (box_length p.protected p.iv_size) out) out

-- ---- Worked examples: the box of document 01, "The sheet program", and document 02, Ask 2.

-- Boxes under a KID, in a version and with a pattern byte: of a protected track with a constant IV, and of a track with a protected flag
-- and an IV size.
abbrev constant_box_under : List ℕ → ℕ → ℕ → List ℕ
constant_box_under kid version pattern =
    0x00 ∷ 0x00 ∷ 0x00 ∷ 0x31 ∷ 0x74 ∷ 0x65 ∷ 0x6e ∷ 0x63 ∷ version ∷ 0x00 ∷ 0x00 ∷ 0x00 ∷ 0x00 ∷ pattern ∷ 0x01 ∷ 0x00
    ∷ kid ++ (0x10 ∷ replicate 16 0xaa)

abbrev box_under : List ℕ → ℕ → ℕ → ℕ → ℕ → List ℕ
box_under kid version pattern protected iv_size =
    0x00 ∷ 0x00 ∷ 0x00 ∷ 0x20 ∷ 0x74 ∷ 0x65 ∷ 0x6e ∷ 0x63 ∷ version ∷ 0x00 ∷ 0x00 ∷ 0x00 ∷ 0x00 ∷ pattern ∷ protected ∷ iv_size ∷ kid

-- Those of protected tracks under KID 00 to 0f, with a constant IV and with IVs of 16 bytes.
abbrev constant_box : ℕ → ℕ → List ℕ
constant_box = constant_box_under (span 0 16)

abbrev iv_box : ℕ → ℕ → List ℕ
iv_box version pattern = box_under (span 0 16) version pattern 1 16

abbrev sheet_box : List ℕ
sheet_box = constant_box 0x01 0x19

-- What is answered under a code to 0:0 in version 0 and 1, to 1:0 in version 1, and to 0:1 in version 0 and 1.
abbrev answers_to : List ℕ → (ℕ → ℕ → List ℕ) → List ℕ
answers_to code box =
    answer (read_rows code (box 0 0x00)) ∷ answer (read_rows code (box 1 0x00)) ∷ answer (read_rows code (box 1 0x10))
    ∷ answer (read_rows code (box 0 0x01)) ∷ answer (read_rows code (box 1 0x01)) ∷ []

-- Version, pattern, protected flag, IV size, KID and constant IV.
abbrev numbers_of : Parameters → List ℕ
numbers_of p = p.version ∷ p.crypt ∷ p.skip ∷ p.protected ∷ p.iv_size ∷ p.kid.0 ++ p.constant_iv.0

pub examples : List Case
examples =
    is (answer (read_rows cbcs sheet_box) ∷ []) (0 ∷ [])
    ∷ is (numbers_of (fields cbcs sheet_box)) (1 ∷ 1 ∷ 9 ∷ 1 ∷ 0 ∷ span 0 16 ++ replicate 16 0xaa)
    ∷ is (box_bytes (fields cbcs sheet_box)) sheet_box
    -- cenc has no pattern.
    ∷ is (answer (read_rows cenc sheet_box) ∷ []) (4 ∷ [])
    -- "Either scheme with 0:0 may have version 0 or 1"; "crypt 0 with skip above 0 stays refusal 4", a pattern in version 0 3.
    ∷ is (answers_to cens iv_box) (0 ∷ 0 ∷ 0 ∷ 3 ∷ 4 ∷ []) ∷ is (answers_to cbcs constant_box) (0 ∷ 0 ∷ 0 ∷ 3 ∷ 4 ∷ [])
    -- cenc and cbc1 have 0:0 alone.
    ∷ is (answers_to cenc iv_box) (0 ∷ 0 ∷ 4 ∷ 3 ∷ 4 ∷ []) ∷ is (answers_to cbc1 iv_box) (0 ∷ 0 ∷ 4 ∷ 3 ∷ 4 ∷ [])
    -- 0:0 in version 0, 0:0 in version 1 and 1:0 are each written as they were read.
    ∷ is (box_bytes (fields cbcs (constant_box 0 0x00))) (constant_box 0 0x00)
    ∷ is (box_bytes (fields cbcs (constant_box 1 0x00))) (constant_box 1 0x00)
    ∷ is (box_bytes (fields cbcs (constant_box 1 0x10))) (constant_box 1 0x10) ∷ []

pub examples_hold : Hold examples
unfolding examples all_made all_said answer read_rows known same frame.bad_frame number bad_head bad_fields allowed allowed_fields allowed_protected
    fields fields_from filled box_bytes frame.header field_bytes digits
examples_hold = refl

-- ---- Worked examples: document 02, Ask 8.

-- KIDs of which only one byte isn't zero: the first, the eighth, the last.
abbrev pub first_only : List ℕ
first_only = 1 ∷ replicate 15 0

abbrev eighth_only : List ℕ
eighth_only = replicate 7 0 ++ (1 ∷ replicate 8 0)

abbrev pub last_only : List ℕ
last_only = replicate 15 0 ++ (1 ∷ [])

-- What a call answers to a code and a box in version 0.
abbrev kid_cases : (List ℕ → List ℕ → ℕ) → List Case
kid_cases call =
    -- "KIDs of sixteen zero bytes on protected tracks. Refuse them as 4"
    is (map (λ kid. call cenc (box_under kid 0 0 1 8)) (zeros ∷ first_only ∷ eighth_only ∷ last_only ∷ [])) (4 ∷ 0 ∷ 0 ∷ 0 ∷ [])
    ∷ is (map (λ kid. call cbc1 (box_under kid 0 0 1 16)) (zeros ∷ last_only ∷ [])) (4 ∷ 0 ∷ [])
    ∷ is (map (λ kid. call cens (box_under kid 0 0 1 8)) (zeros ∷ last_only ∷ [])) (4 ∷ 0 ∷ [])
    ∷ is (map (λ kid. call cbcs (constant_box_under kid 0 0)) (zeros ∷ last_only ∷ [])) (4 ∷ 0 ∷ [])
    -- "Unprotected tracks may keep any KID."
    ∷ is (map (λ code. call code (box_under zeros 0 0 0 0)) (cenc ∷ cbc1 ∷ cens ∷ cbcs ∷ [])) (0 ∷ 0 ∷ 0 ∷ 0 ∷ []) ∷ []

pub kids_read : List Case
kids_read = kid_cases (λ code box. answer (read_rows code box))

-- "The writers refuse alike": the same, of the parameters that the box says.
pub kids_written : List Case
kids_written = kid_cases (λ code box. answer (write_rows (fields code box) 49))

pub kids_read_hold : Hold kids_read
unfolding kids_read all_made all_said answer read_rows known same frame.bad_frame number bad_head bad_fields allowed allowed_fields
    allowed_protected fields fields_from filled
kids_read_hold = refl

pub kids-written_hold : Hold kids_written
unfolding kids_written all_made all_said answer write_rows known same allowed allowed_fields allowed_protected fields fields_from filled
kids-written_hold = refl
