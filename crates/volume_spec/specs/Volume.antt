-- Document 02, Ask 13, the vault volume: its layout, when it is valid, and what each call on one answers (50 to 54).
use Rattle.std.specs.Prelude.{Bool, true, cond, not, ◌&&◌, List, [], ◌∷◌, ◌++◌, ◌≡◌, ℕ, zero, suc, ◌+◌, ◌-◌, ◌*◌, ◌≤◌, max, eqb, leb, ltb, length, take, drop}
use Rattle.std.specs.declared.result.Result.{Result}
use Rattle.std.specs.declared.result.Result.TheVariants.{Ok, Err}
use Rattle.refusals.specs.declared.Refusal.{Refusal}
use Rattle.refusals.specs.Refusals.{refusal_number}
use Rattle.octets.specs.Answers.{Row, row, answer}
use Rattle.octets.specs.Bytes.{number, digits, placed}
use Rattle.volume_spec.specs.declared.Entry.{Entry}
use Rattle.volume_spec.specs.declared.Trailer.{Trailer}
use Rattle.volume_spec.specs.declared.Found.{Found as Extent}

-- What writing a volume answers: its length, 0 if refused.
pub record Written : Type 0 where
  pub answer : ℕ
  pub length : ℕ

-- Where a record lies in the volume, 0 and 0 if refused.
pub record Found : Type 0 where
  pub answer : ℕ
  pub offset : ℕ
  pub length : ℕ

-- ---- The layout: records one after another from offset 0, then an index, then a trailer.

-- Four numbers big-endian, of 8, 8, 4 and 4 bytes.
unfoldable pub fields : ℕ → ℕ → ℕ → ℕ → List ℕ
fields a b c d = digits 8 a ++ (digits 8 b ++ (digits 4 c ++ digits 4 d))

-- The index entry at a place: offset (8), length (8), day stored (4), days of term (4).
unfoldable pub entry_at : List ℕ → ℕ → Entry
entry_at v at = record { offset = number 8 v at; length = number 8 v (at + 8); day = number 4 v (at + 16); term = number 4 v (at + 20) }

unfoldable pub entry_bytes : Entry → List ℕ
entry_bytes e = fields e.offset e.length e.day e.term

-- The trailer, at the end: offset of the index (8), count (8), latest day (4), zero (4).
unfoldable pub trailer : List ℕ → Trailer
trailer v =
    record {
      offset = number 8 v (length v - 24);
      count = number 8 v (length v - 24 + 8);
      latest = number 4 v (length v - 24 + 16);
      last = number 4 v (length v - 24 + 20);
    }

unfoldable pub trailer_bytes : Trailer → List ℕ
trailer_bytes t = fields t.offset t.count t.latest t.last

-- The n entries from a place on.
unfoldable pub entries : List ℕ → ℕ → ℕ → List Entry
entries v at zero = []
entries v at (suc n) = entry_at v at ∷ entries v (at + 24) n

abbrev pub index : List ℕ → List Entry
index v = entries v (trailer v).offset (trailer v).count

-- ---- Valid exactly if ..

-- .. each record begins where the one before ended, the first at `from`, and the last ends at `to`; with none they are one place ..
unfoldable pub adjoining : ℕ → List Entry → ℕ → Bool
adjoining from [] to = eqb from to
adjoining from (e ∷ es) to = eqb e.offset from && adjoining (e.offset + e.length) es to

-- .. index and trailer fill the rest of so many bytes ..
abbrev pub fills : ℕ → ℕ → ℕ → Bool
fills size offset count = eqb (offset + count * 24 + 24) size

-- .. and the latest day is the largest day stored, or 0 for none.
unfoldable pub largest_day : List Entry → ℕ
largest_day [] = 0
largest_day (e ∷ es) = max e.day (largest_day es)

-- Records begin at 0 and end at the index, and the trailer's last field is zero.
unfoldable pub valid : List ℕ → Bool
valid v =
    leb 24 (length v)
    && fills (length v) (trailer v).offset (trailer v).count
    && adjoining 0 (index v) (trailer v).offset
    && eqb (trailer v).last 0
    && eqb (trailer v).latest (largest_day (index v))

-- The same as one record, field by field.
pub record Valid (v : List ℕ) : Type 0 where
  pub whole : 24 ≤ length v
  pub filled : (trailer v).offset + (trailer v).count * 24 + 24 ≡ length v
  pub adjoined : adjoining 0 (index v) (trailer v).offset ≡ true
  pub last : (trailer v).last ≡ 0
  pub latest : (trailer v).latest ≡ largest_day (index v)

-- ---- Checking: 50, not valid.

abbrev pub not_valid : List ℕ → Row
not_valid v = row 50 (not (valid v))

unfoldable pub check : List ℕ → ℕ
check v = answer (not_valid v ∷ [])

-- ---- Handing out record k, "by number from 0": 50, and 51, no such record.

abbrev pub no_record : List ℕ → ℕ → Row
no_record v k = row 51 (leb (trailer v).count k)

-- Entry k of the index.
abbrev pub entry_of : List ℕ → ℕ → Entry
entry_of v k = entry_at v ((trailer v).offset + k * 24)

abbrev pub record_rows : List ℕ → ℕ → List Row
record_rows v k = not_valid v ∷ no_record v k ∷ []

-- The answer of a search as a number and a place, at 0 with length 0 for a refusal.
abbrev pub as_found : Result Extent Refusal → Found
as_found (Ok f) = record { answer = 0; offset = f.offset; length = f.length }
as_found (Err r) = record { answer = refusal_number r; offset = 0; length = 0 }

-- Where record k lies.
unfoldable pub found : List ℕ → ℕ → Found
found v k =
    record {
      answer = answer (record_rows v k);
      offset = cond (eqb (answer (record_rows v k)) 0) (entry_of v k).offset 0;
      length = cond (eqb (answer (record_rows v k)) 0) (entry_of v k).length 0;
    }

-- ---- Writing: 53, output short.

-- The answer of a writing as a number and a length, 0 for a refusal.
abbrev pub as_written : Result ℕ Refusal → Written
as_written (Ok n) = record { answer = 0; length = n }
as_written (Err r) = record { answer = refusal_number r; length = 0 }

-- What a call that writes a volume answers by its table: the volume's length, 0 if refused.
abbrev pub written : List Row → List ℕ → Written
written rows new = record { answer = answer rows; length = cond (eqb (answer rows) 0) (length new) 0 }

-- The output after it: the volume in front, and nothing else changed; after a refusal, as it was.
abbrev pub output_after : List Row → List ℕ → List ℕ → List ℕ
output_after rows new out = cond (eqb (answer rows) 0) (placed out 0 new) out

-- An output of so many bytes is shorter than the volume.
abbrev pub short : List ℕ → ℕ → Row
short new room = row 53 (ltb room (length new))

-- The empty volume.
abbrev pub none : List ℕ
none = trailer_bytes (record { offset = 0; count = 0; latest = 0; last = 0 })

abbrev pub empty_rows : ℕ → List Row
empty_rows room = short none room ∷ []

-- ---- Adding a record, with today as its day: 50, 52, today before the latest day, and 53.

abbrev pub set_back : List ℕ → ℕ → Row
set_back v today = row 52 (ltb today (trailer v).latest)

abbrev pub new_entry : List ℕ → List ℕ → ℕ → ℕ → Entry
new_entry v contents term today = record { offset = (trailer v).offset; length = length contents; day = today; term = term }

abbrev pub new_trailer : List ℕ → List ℕ → ℕ → Trailer
new_trailer v contents today =
    record { offset = (trailer v).offset + length contents; count = (trailer v).count + 1; latest = today; last = 0 }

-- All earlier records and the new one, all earlier index entries and the new one, and the trailer.
unfoldable pub added : List ℕ → List ℕ → ℕ → ℕ → List ℕ
added v contents term today =
    take (trailer v).offset v
    ++ (contents
    ++ (take ((trailer v).count * 24) (drop (trailer v).offset v)
    ++ (entry_bytes (new_entry v contents term today) ++ trailer_bytes (new_trailer v contents today))))

abbrev pub add_rows : List ℕ → List ℕ → ℕ → ℕ → ℕ → List Row
add_rows v contents term today room = not_valid v ∷ set_back v today ∷ short (added v contents term today) room ∷ []

unfoldable pub add : List ℕ → List ℕ → ℕ → ℕ → ℕ → Written
add v contents term today room = written (add_rows v contents term today room) (added v contents term today)

unfoldable pub after_adding : List ℕ → List ℕ → ℕ → ℕ → List ℕ → List ℕ
after_adding v contents term today out = output_after (add_rows v contents term today (length out)) (added v contents term today) out

-- ---- Disposing of a record: 50, 51, 52, and 54, day stored plus term, as a plain sum, above today.

unfoldable pub disposable : List ℕ → ℕ → ℕ → ℕ
disposable v k today =
    answer (not_valid v ∷ no_record v k ∷ set_back v today ∷ row 54 (ltb today ((entry_of v k).day + (entry_of v k).term)) ∷ [])
