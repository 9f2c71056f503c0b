-- Document 01's example, and inputs on both sides of a refusal, computed from the definitions.
use mathlib.Core.List.{List, [], ◌∷◌, ◌++◌}
use mathlib.Core.Path.{◌≡◌, refl}
use Prim.Native.Nat.{ℕ}
use lib.ListN.{replicate}
use Rattle.octets.specs.Answers.{answer}
use Rattle.octets.specs.Bytes.{same, number, filled}
use Rattle.boxes.specs.Box as frame
use Rattle.track_spec.specs.Track.{known, allowed_protected, allowed_fields, allowed, fields_from, fields, bad_head, bad_fields, read_rows, read_box}
use Rattle.octets.specs.Ascii.{ascii}
use Rattle.text.specs.Text.{decimal, hex}
use Rattle.sheet.specs.Sheet.{refused, pattern_line, constant_line, sheet, told, lines}

-- 00 to 0f
kid : List ℕ
kid = 0x00 ∷ 0x01 ∷ 0x02 ∷ 0x03 ∷ 0x04 ∷ 0x05 ∷ 0x06 ∷ 0x07 ∷ 0x08 ∷ 0x09 ∷ 0x0a ∷ 0x0b ∷ 0x0c ∷ 0x0d ∷ 0x0e ∷ 0x0f ∷ []

-- version 1, pattern 1:9, protected, IV size 0, a constant IV
box : List ℕ
box =
    (0x00 ∷ 0x00 ∷ 0x00 ∷ 0x31 ∷ 0x74 ∷ 0x65 ∷ 0x6e ∷ 0x63 ∷ 0x01 ∷ 0x00 ∷ 0x00 ∷ 0x00 ∷ 0x00 ∷ 0x19 ∷ 0x01 ∷ 0x00 ∷ [])
    ++ (kid ++ (0x10 ∷ replicate 16 0xaa))

with_constant : lines (ascii "cbcs" ++ box)
    ≡ ascii "scheme cbcs\nversion 1\npattern 1:9\nprotected 1\niv 0\nkid 000102030405060708090a0b0c0d0e0f\nconstant aaaaaaaaaaaaaaaaaaaaaaaaaaaaaaaa\n"
unfolding kid box answer same number filled known allowed_protected allowed_fields allowed fields_from fields frame.bad_frame bad_head bad_fields read_rows read_box decimal hex pattern_line constant_line sheet told lines
with_constant = refl

-- version 0, no pattern, protected, IV size 16
plain : List ℕ
plain =
    (0x00 ∷ 0x00 ∷ 0x00 ∷ 0x20 ∷ 0x74 ∷ 0x65 ∷ 0x6e ∷ 0x63 ∷ 0x00 ∷ 0x00 ∷ 0x00 ∷ 0x00 ∷ 0x00 ∷ 0x00 ∷ 0x01 ∷ 0x10 ∷ [])
    ++ kid

without_constant : lines (ascii "cenc" ++ plain)
    ≡ ascii "scheme cenc\nversion 0\npattern 0:0\nprotected 1\niv 16\nkid 000102030405060708090a0b0c0d0e0f\nconstant none\n"
unfolding kid plain answer same number filled known allowed_protected allowed_fields allowed fields_from fields frame.bad_frame bad_head bad_fields read_rows read_box decimal hex pattern_line constant_line sheet told lines
without_constant = refl

empty : lines [] ≡ ascii "refused 1\n"
unfolding decimal refused lines
empty = refl

short : lines (ascii "cbc") ≡ ascii "refused 1\n"
unfolding decimal refused lines
short = refl

-- cbcs without a pattern
other_scheme : lines (ascii "cbcs" ++ plain) ≡ ascii "refused 4\n"
unfolding kid plain answer same number filled known allowed_protected allowed_fields allowed fields_from fields frame.bad_frame bad_head bad_fields read_rows read_box decimal refused told lines
other_scheme = refl

-- 4,097 bytes, under a known code and under another
long : lines (ascii "cenc" ++ replicate 4093 0) ≡ ascii "refused 2\n"
unfolding same known decimal refused lines
long = refl

long_unknown : lines (ascii "senc" ++ replicate 4093 0) ≡ ascii "refused 1\n"
unfolding answer same known read_rows read_box decimal refused told lines
long_unknown = refl
