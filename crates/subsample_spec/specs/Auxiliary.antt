-- Document 01, "A sample's auxiliary data": the IV, the subsample map, and the numbers 7 to 12.
use Rattle.std.specs.Prelude.{Bool, false, cond, not, ◌&&◌, ◌||◌, List, [], ◌∷◌, ◌++◌, map, refl, ℕ, zero, suc, ◌+◌, ◌*◌, ◌%◌, eqb, ltb, length, get_or, take, replicate}
use Rattle.std.specs.declared.result.Result.{Result}
use Rattle.std.specs.declared.result.Result.TheVariants.{Ok, Err}
use Rattle.refusals.specs.declared.Refusal.{Refusal}
use Rattle.refusals.specs.Refusals.{refusal_number}
use Rattle.octets.specs.Answers.{Row, row, answer}
use Rattle.octets.specs.Bytes.{list_of, same, number, filled}
use Rattle.octets.specs.Cases.{Case, is, all_made, all_said, Hold, span}
use Rattle.track_spec.specs.Track.{cenc, cbc1, zeros, has_constant, fields, read_rows}
use Rattle.track_spec.specs.declared.Parameters.{Parameters}
use Rattle.track_spec.specs.declared.StartVector.{StartVector}
use Rattle.subsample_spec.specs.declared.Entry.{Entry}
use Rattle.subsample_spec.specs.declared.SubsampleMap.{SubsampleMap}
use Rattle.subsample_spec.specs.declared.Auxiliary.{Auxiliary}

-- What reading auxiliary data answers.
pub record AuxiliaryRead : Type 0 where
  pub answer : ℕ
  pub map : SubsampleMap
  pub iv : StartVector

-- The most entries that a map holds.
abbrev pub limit : ℕ
limit = 64

-- The longest sample, in bytes.
abbrev pub longest : ℕ
longest = 16777216

-- Some i below n meets the test, and the sum of f 0, f 1, .. below n.
unfoldable pub some : (ℕ → Bool) → ℕ → Bool
some f zero = false
some f (suc n) = some f n || f n

unfoldable pub sum : (ℕ → ℕ) → ℕ → ℕ
sum f zero = 0
sum f (suc n) = sum f n + f n

-- ---- The map.

-- An entry of so many clear and so many protected bytes.
abbrev pub entry : ℕ → ℕ → Entry
entry a n = record { clear = a; protected = n }

abbrev pub entry_at : SubsampleMap → ℕ → Entry
entry_at m i = get_or m.entries i (entry 0 0)

abbrev pub clear_at : SubsampleMap → ℕ → ℕ
clear_at m i = (entry_at m i).clear

abbrev pub protected_at : SubsampleMap → ℕ → ℕ
protected_at m i = (entry_at m i).protected

-- The places of a map that begin with given entries; the rest are 0 and 0.
unfoldable pub places : List Entry → List Entry
places es = take limit (es ++ replicate limit (entry 0 0))

abbrev pub empty_map : SubsampleMap
empty_map = record { entries = replicate limit (entry 0 0); count = 0 }

-- Entry i is 0 and 0; its protected length isn't a multiple of 16; both its lengths together.
abbrev pub empty_entry : SubsampleMap → ℕ → Bool
empty_entry m i = eqb (clear_at m i) 0 && eqb (protected_at m i) 0

abbrev pub ragged_entry : SubsampleMap → ℕ → Bool
ragged_entry m i = not (eqb (protected_at m i % 16) 0)

abbrev pub entry_length : SubsampleMap → ℕ → ℕ
entry_length m i = clear_at m i + protected_at m i

-- 9 to 12, of the entries of a map under a scheme code, for a sample of n bytes.
unfoldable pub map_rows : List ℕ → SubsampleMap → ℕ → List Row
map_rows code m n =
    row 9 (ltb limit m.count) ∷ row 10 (not (eqb n 0) && some (empty_entry m) m.count)
    ∷ row 11 (ltb 0 m.count && not (eqb (sum (entry_length m) m.count) n))
    ∷ row 12 (same code cbc1 && some (ragged_entry m) m.count) ∷ []

-- ---- The auxiliary data under parameters.

-- The bytes of the IV that the data begins with; that of an unprotected track has none.
abbrev pub iv_length : Parameters → ℕ
iv_length p = cond (eqb p.protected 1) p.iv_size 0

-- Entries are written: something follows the IV of a protected track.
abbrev pub written : Parameters → List ℕ → Bool
written p aux = eqb p.protected 1 && ltb p.iv_size (length aux)

-- The count written.
abbrev pub count_written : Parameters → List ℕ → ℕ
count_written p aux = number 2 aux p.iv_size

-- 8: the size isn't that of the IV alone, or of the IV, the count and the entries; or a count of 0. For an unprotected track the
-- data is empty.
unfoldable pub bad_size : Parameters → List ℕ → Bool
bad_size p aux =
    cond (written p aux)
    (ltb (length aux) (p.iv_size + 2) || eqb (count_written p aux) 0
    || not (eqb (length aux) (p.iv_size + 2 + 6 * count_written p aux)))
    (not (eqb (length aux) (iv_length p)))

-- How many entries are written, 0 if none; the i-th; the map of all.
unfoldable pub entry_count : Parameters → List ℕ → ℕ
entry_count p aux = cond (written p aux) (count_written p aux) 0

abbrev pub entry_written : Parameters → List ℕ → ℕ → Entry
entry_written p aux i = entry (number 2 aux (p.iv_size + 2 + 6 * i)) (number 4 aux (p.iv_size + 4 + 6 * i))

unfoldable pub map_read : Parameters → List ℕ → SubsampleMap
map_read p aux =
    record { entries = places (list_of (entry_count p aux) (entry_written p aux)); count = entry_count p aux }

-- The IV filled out with zeros; the constant one where the track has one; zero if it is unprotected.
unfoldable pub iv_read : Parameters → List ℕ → List ℕ
iv_read p aux = cond (has_constant p.protected p.iv_size) p.constant_iv.0 (filled 16 (take (iv_length p) aux))

-- 7 to 12, for a sample of n bytes.
unfoldable pub auxiliary_rows : Parameters → List ℕ → ℕ → List Row
auxiliary_rows p aux n = row 7 (ltb longest n) ∷ row 8 (bad_size p aux) ∷ map_rows p.code (map_read p aux) n

-- The answer of a reading as a number, a map and an IV; a refusal has those of an empty unprotected track.
abbrev pub as_auxiliary_read : Result Auxiliary Refusal → AuxiliaryRead
as_auxiliary_read (Ok a) = record { answer = 0; map = a.map; iv = a.iv }
as_auxiliary_read (Err r) = record { answer = refusal_number r; map = empty_map; iv = record { 0 = zeros } }

-- What a table and the data make: on a refusal map and IV are those of an empty unprotected track.
unfoldable pub handed_out : ℕ → Parameters → List ℕ → AuxiliaryRead
handed_out answer p aux =
    record {
      answer = answer;
      map = cond (eqb answer 0) (map_read p aux) empty_map;
      iv = record { 0 = cond (eqb answer 0) (iv_read p aux) zeros };
    }

unfoldable pub read_under : Parameters → List ℕ → ℕ → AuxiliaryRead
read_under p aux n = handed_out (answer (auxiliary_rows p aux n)) p aux

-- The public reader: 1 to 4 of the box, then 7 to 12.
unfoldable pub read_auxiliary : List ℕ → List ℕ → List ℕ → ℕ → AuxiliaryRead
read_auxiliary code box aux n =
    handed_out (answer (read_rows code box ++ auxiliary_rows (fields code box) aux n)) (fields code box) aux

-- ---- Worked examples.

-- cenc with an IV of 8 bytes.
abbrev of_eight : Parameters
of_eight =
    record {
      code = cenc;
      version = 0;
      crypt = 0;
      skip = 0;
      protected = 1;
      iv_size = 8;
      kid = record { 0 = zeros };
      constant_iv = record { 0 = zeros };
    }

-- The IV, then two entries: 5 clear and 32 protected bytes, 300 and 70,000.
abbrev two_entries : List ℕ
two_entries = span 1 8 ++ (0 ∷ 2 ∷ 0 ∷ 5 ∷ 0 ∷ 0 ∷ 0 ∷ 32 ∷ 0x01 ∷ 0x2c ∷ 0x00 ∷ 0x01 ∷ 0x11 ∷ 0x70 ∷ [])

-- So many entries, in 64 places of one clear byte each.
abbrev of_one : ℕ → SubsampleMap
of_one count = record { entries = replicate limit (entry 1 0); count = count }

pub examples : List Case
examples =
    is (answer (auxiliary_rows of_eight two_entries (5 + 32 + 300 + 70000)) ∷ []) (0 ∷ [])
    -- The IV is filled out with zeros, though entries follow it; unused places of the map are zero.
    ∷ is (iv_read of_eight two_entries) (span 1 8 ++ replicate 8 0)
    ∷ is (map (λ (e : Entry). e.clear) (map_read of_eight two_entries).entries) (5 ∷ 300 ∷ replicate 62 0)
    ∷ is (map (λ (e : Entry). e.protected) (map_read of_eight two_entries).entries) (32 ∷ 70000 ∷ replicate 62 0)
    ∷ is ((map_read of_eight two_entries).count ∷ []) (2 ∷ [])
    -- 64 entries, and one too many.
    ∷ is (answer (map_rows cenc (of_one 64) 64) ∷ []) (0 ∷ [])
    ∷ is (answer (map_rows cenc (of_one 65) 64) ∷ []) (9 ∷ []) ∷ []

pub examples_hold : Hold examples
unfolding examples all_made all_said answer auxiliary_rows bad_size map_rows map_read entry_count places iv_read some sum number filled same
examples_hold = refl
