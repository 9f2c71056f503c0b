-- Document 01, "Numbers answered, in the order tried": what a caller hands in for a sample, the key record (5 and 6), and a whole
-- sample locked or opened (1 to 12).
use Rattle.std.specs.Prelude.{cond, not, ◌&&◌, List, [], ◌∷◌, ◌++◌, refl, ℕ, ◌<◌, eqb, length, get_or, take, drop}
use Rattle.std.specs.declared.result.Result.{Result}
use Rattle.std.specs.declared.result.Result.TheVariants.{Ok, Err}
use Rattle.refusals.specs.declared.Refusal.{Refusal}
use Rattle.refusals.specs.Refusals.{refusal_number}
use Rattle.octets.specs.Answers.{Row, row, answer}
use Rattle.octets.specs.Bytes.{list_of, same, number, digits, filled}
use Rattle.octets.specs.Cases.{Case, is, all_made, all_said, Hold, span}
use Rattle.octets.specs.Xor.{◌⊕◌}
use Rattle.aes.specs.declared.Key.{Key}
use Rattle.aes.specs.Block.{round_keys, encipher, decipher}
use Rattle.modes_spec.specs.declared.Direction.{Direction}
use Rattle.modes_spec.specs.declared.Direction.TheVariants.{Lock, Open}
use Rattle.modes_spec.specs.Modes.{counter_at, stream_byte, ctr}
use Rattle.boxes.specs.Box.{bad_frame}
use Rattle.track_spec.specs.declared.Parameters.{Parameters}
use Rattle.track_spec.specs.declared.StartVector.{StartVector}
use Rattle.track_spec.specs.Track.{cenc, tenc, zeros, known, allowed_protected, allowed_fields, allowed, fields_from, fields, bad_head, bad_fields, read_rows, unprotected}
use Rattle.subsample_spec.specs.declared.SubsampleMap.{SubsampleMap}
use Rattle.subsample_spec.specs.Auxiliary.{empty_map, some, sum, map_rows, bad_size, entry_count, places, map_read, iv_read, auxiliary_rows}
use Rattle.sample_spec.specs.declared.Inputs.{Inputs as Lent}
use Rattle.sample_spec.specs.declared.InputsRead.{InputsRead as Accepted}
use Rattle.scheme.specs.Layout.{scheme_of, pattern_of, is_ciphered, tabulate, range_marks, marks, mask, chosen, replaced}
use Rattle.scheme.specs.WholeSample.{over, whole}
use Rattle.scheme.specs.Part.{protected_entries, entries_of, ciphered}

-- What finding a key answers.
pub record KeyFound : Type 0 where
  pub answer : ℕ
  pub key : Key

-- What reading the inputs of a sample answers.
pub record InputsRead : Type 0 where
  pub answer : ℕ
  pub parameters : Parameters
  pub key : Key
  pub map : SubsampleMap
  pub iv : StartVector

-- What a caller hands in for a sample: the scheme's code, the track box, the auxiliary data and the key record.
pub record Inputs : Type 0 where
  pub code : List ℕ
  pub box : List ℕ
  pub auxiliary : List ℕ
  pub keys : List ℕ

abbrev pub inputs : List ℕ → List ℕ → List ℕ → List ℕ → Inputs
inputs code box auxiliary keys = record { code = code; box = box; auxiliary = auxiliary; keys = keys }

-- Those that are lent to a call.
abbrev pub lent : Lent → Inputs
lent i = inputs i.code.now i.track_box.now i.auxiliary.now i.key_record.now

-- Box and auxiliary data are bytes, as every caller's are.
pub record OfBytes (i : Inputs) : Type 0 where
  pub box : (k : ℕ) → get_or i.box k 0 < 256
  pub auxiliary : (k : ℕ) → get_or i.auxiliary k 0 < 256

-- ---- The key record.

-- It holds KID and key. For an unprotected track it is not looked at.
unfoldable pub key_rows : Parameters → List ℕ → List Row
key_rows p keys =
    row 5 (eqb p.protected 1 && not (eqb (length keys) 32))
    ∷ row 6 (eqb p.protected 1 && not (same (take 16 keys) p.kid.0)) ∷ []

-- The key; zeros for an unprotected track.
unfoldable pub key_in : Parameters → List ℕ → List ℕ
key_in p keys = cond (eqb p.protected 1) (filled 16 (drop 16 keys)) zeros

-- The answer of a search as a number and a key; a refusal has a key of zeros.
abbrev pub as_key_found : Result Key Refusal → KeyFound
as_key_found (Ok k) = record { answer = 0; key = k }
as_key_found (Err r) = record { answer = refusal_number r; key = record { 0 = zeros } }

-- What finding the key for some parameters answers; zeros if refused.
unfoldable pub find_key : Parameters → List ℕ → KeyFound
find_key p keys =
    record {
      answer = answer (key_rows p keys);
      key = record { 0 = cond (eqb (answer (key_rows p keys)) 0) (key_in p keys) zeros };
    }

-- ---- What the inputs say.

-- The parameters that apply to the sample, and under them the key, the map and the IV.
unfoldable pub parameters_of : Inputs → Parameters
parameters_of i = fields i.code i.box

unfoldable pub key_of : Inputs → List ℕ
key_of i = key_in (parameters_of i) i.keys

unfoldable pub map_of : Inputs → SubsampleMap
map_of i = map_read (parameters_of i) i.auxiliary

unfoldable pub iv_of : Inputs → List ℕ
iv_of i = iv_read (parameters_of i) i.auxiliary

-- 1 to 4 of the box, 5 and 6 of the key record, 7 to 12 of the auxiliary data, for a sample of n bytes.
unfoldable pub sample_rows : Inputs → ℕ → List Row
sample_rows i n =
    read_rows i.code i.box ++ (key_rows (parameters_of i) i.keys ++ auxiliary_rows (parameters_of i) i.auxiliary n)

-- What a call with a sample of n bytes answers, in either direction.
abbrev pub answered : Inputs → ℕ → ℕ
answered i n = answer (sample_rows i n)

-- The answer of a reading as a number and what was read; a refusal has what an empty unprotected track would.
abbrev pub as_inputs_read : Result Accepted Refusal → InputsRead
as_inputs_read (Ok a) = record { answer = 0; parameters = a.parameters; key = a.key; map = a.map; iv = a.iv }
as_inputs_read (Err r) =
    record { answer = refusal_number r; parameters = unprotected; key = record { 0 = zeros }; map = empty_map; iv = record { 0 = zeros } }

-- What is handed out with an answer: what the inputs say, or after a refusal what an empty unprotected track would.
unfoldable pub handed_out : ℕ → Inputs → InputsRead
handed_out answer i =
    record {
      answer = answer;
      parameters = cond (eqb answer 0) (parameters_of i) unprotected;
      key = record { 0 = cond (eqb answer 0) (key_of i) zeros };
      map = cond (eqb answer 0) (map_of i) empty_map;
      iv = record { 0 = cond (eqb answer 0) (iv_of i) zeros };
    }

unfoldable pub read_inputs : Inputs → ℕ → InputsRead
read_inputs i n = handed_out (answer (sample_rows i n)) i

-- ---- The sample.

-- Its bytes under accepted inputs.
unfoldable pub ciphered_by : Direction → Inputs → List ℕ → List ℕ
ciphered_by d i xs =
    ciphered (encipher (round_keys (key_of i))) (decipher (round_keys (key_of i))) d (parameters_of i) (map_of i) (iv_of i) xs

-- The sample after the call; a refusal changes nothing.
unfoldable pub sample_after : Direction → Inputs → List ℕ → List ℕ
sample_after d i xs = cond (eqb (answer (sample_rows i (length xs))) 0) (ciphered_by d i xs) xs

-- ---- Worked examples: what becomes of a sample, in terms of the block cipher under its key.

abbrev kid : List ℕ
kid = span 1 16

abbrev pub example_key : List ℕ
example_key = span 101 16

-- An IV, and the counter block after it.
abbrev pub example_iv : List ℕ
example_iv = span 33 16

abbrev next : List ℕ
next = span 33 15 ++ (49 ∷ [])

-- The inputs for a scheme with no pattern, an IV size of 16 and no entries.
abbrev box : List ℕ
box = 0 ∷ 0 ∷ 0 ∷ 32 ∷ tenc ++ (0 ∷ 0 ∷ 0 ∷ 0 ∷ 0 ∷ 0 ∷ 1 ∷ 16 ∷ kid)

abbrev pub example_inputs : List ℕ → Inputs
example_inputs code = inputs code box example_iv (kid ++ example_key)

-- Bytes and key stream bytes added, one by one.
abbrev pub added : List ℕ → List ℕ → List ℕ
added xs ks = list_of (length xs) (λ i. get_or xs i 0 ⊕ get_or ks i 0)

pub examples : List Case
examples =
    -- cenc, no entries: one block of the key stream and 4 bytes of the next.
    is (answer (sample_rows (example_inputs cenc) 20) ∷ []) (0 ∷ [])
    ∷ is (sample_after Lock (example_inputs cenc) (span 1 20))
    (added (span 1 16) (encipher (round_keys example_key) example_iv) ++ added (span 17 4) (encipher (round_keys example_key) next))
    ∷ is (sample_after Open (example_inputs cenc) (span 1 20))
    (added (span 1 16) (encipher (round_keys example_key) example_iv) ++ added (span 17 4) (encipher (round_keys example_key) next))
    -- The box before the key record, the key record before the auxiliary data; a refusal changes nothing.
    ∷ is (answer (sample_rows (inputs cenc (1 ∷ drop 1 box) [] []) 20) ∷ []) (2 ∷ [])
    ∷ is (answer (sample_rows (inputs cenc box [] []) 20) ∷ []) (5 ∷ [])
    ∷ is (sample_after Lock (inputs cenc box example_iv kid) (span 1 20)) (span 1 20) ∷ []

pub examples_hold : Hold examples
unfolding examples all_made all_said sample_after sample_rows ciphered_by parameters_of key_of map_of iv_of key_rows key_in read_rows known same
    bad_frame number bad_head bad_fields allowed allowed_fields allowed_protected fields fields_from filled auxiliary_rows bad_size map_rows map_read
    entry_count places some sum iv_read answer ciphered entries_of protected_entries scheme_of pattern_of whole over mask marks range_marks tabulate
    is_ciphered chosen replaced ctr stream_byte counter_at digits
examples_hold = refl
