-- The definitions tried on a small volume: its bytes, what is handed out, a clock set back, and sums at the largest numbers.
use mathlib.Core.List.{List, [], ◌∷◌, ◌++◌}
use mathlib.Core.Path.{◌≡◌, refl}
use Prim.Native.Nat.{ℕ}
use Rattle.octets.specs.Answers.{answer}
use Rattle.octets.specs.Ascii.{ascii}
use Rattle.octets.specs.Bytes.{number, digits}
use Rattle.volume_spec.specs.Volume.{fields, entry_at, entry_bytes, trailer, trailer_bytes, entries, adjoining, largest_day, valid, check, found, none, added, add, disposable}

-- The record `abc`, stored on day 10 for 3 days, and on the same day an empty one for none.
two : List ℕ
two = added (added none (ascii "abc") 3 10) [] 0 10

-- The last 8 bytes of the trailer are the latest day and zero.
two_bytes : two
    ≡ ascii "abc" ++ digits 8 0 ++ digits 8 3 ++ digits 4 10 ++ digits 4 3 ++ digits 8 3 ++ digits 8 0 ++ digits 4 10 ++ digits 4 0
    ++ digits 8 3 ++ digits 8 2 ++ digits 4 10 ++ digits 4 0
unfolding two added trailer trailer_bytes entry_bytes fields number digits
two_bytes = refl

-- Checked, and asked for records 0 to 2.
two_read : check two ∷ (found two 0).offset ∷ (found two 0).length ∷ (found two 1).offset ∷ (found two 1).length ∷ (found two 2).answer ∷ [] ≡ 0 ∷ 0 ∷ 3 ∷ 3 ∷ 0 ∷ 51 ∷ []
unfolding two added trailer trailer_bytes entry_bytes fields number digits entry_at entries adjoining largest_day valid check found answer
two_read = refl

-- The first record may go on day 13, not on day 12, and neither on day 9, with the clock set back one day; there is no third.
two_disposed : disposable two 0 13 ∷ disposable two 0 12 ∷ disposable two 0 9 ∷ disposable two 1 10 ∷ disposable two 1 9 ∷ disposable two 2 13 ∷ []
    ≡ 0 ∷ 54 ∷ 52 ∷ 0 ∷ 52 ∷ 51 ∷ []
unfolding two added trailer trailer_bytes entry_bytes fields number digits entry_at entries adjoining largest_day valid disposable answer
two_disposed = refl

-- A third of one byte needs 100 bytes, and no day before day 10.
two_added : (add two (1 ∷ []) 0 10 100).length ∷ (add two (1 ∷ []) 0 10 99).answer ∷ (add two (1 ∷ []) 0 9 100).answer ∷ []
    ≡ 100 ∷ 53 ∷ 52 ∷ []
unfolding two added trailer trailer_bytes entry_bytes fields number digits entry_at entries adjoining largest_day valid add answer
two_added = refl

-- A volume of one byte and the index and trailer given.
of : List ℕ → List ℕ → List ℕ
of index last = 1 ∷ index ++ last

-- One record of one byte is valid. Not so a gap in front of a second one, an overlap, a last field that isn't zero, a day later than
-- the latest, and lengths that add up to one byte only past the largest number.
largest : ℕ
largest = 18446744073709551615

checked : List ℕ
checked =
    check (of (fields 0 1 7 7) (fields 1 1 7 0))
    ∷ check (of (fields 0 0 7 7 ++ fields 1 0 7 7) (fields 1 2 7 0))
    ∷ check (of (fields 0 1 7 7 ++ fields 0 1 7 7) (fields 1 2 7 0))
    ∷ check (of (fields 0 1 7 7) (fields 1 1 7 1))
    ∷ check (of (fields 0 1 7 7) (fields 1 1 6 0))
    ∷ check (of (fields 0 largest 7 7 ++ fields largest 2 7 7) (fields 1 2 7 0))
    ∷ check (of (fields 0 1 7 7) (fields 1 largest 7 0))
    ∷ check (fields 0 0 7 0)
    ∷ []

checked_said : checked ≡ 0 ∷ 50 ∷ 50 ∷ 50 ∷ 50 ∷ 50 ∷ 50 ∷ 50 ∷ []
unfolding checked of largest fields trailer number digits entry_at entries adjoining largest_day valid check answer
checked_said = refl

-- Day and term that add up past the largest 32-bit number are not over on its last day.
sum_said : disposable (of (fields 0 1 4294967295 1) (fields 1 1 4294967295 0)) 0 4294967295 ≡ 54
unfolding of fields trailer number digits entry_at entries adjoining largest_day valid disposable answer
sum_said = refl
