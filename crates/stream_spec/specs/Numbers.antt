-- Document 01, "Numbers answered, in the order tried", and document 02, Asks 2 and 8: for each call small inputs with the number that the
-- documents say, one for each number that the call uses and for each two neighbours of the order that apply at once. Told with it are the
-- lengths answered and the bytes released.
use Rattle.std.specs.Prelude.{List, [], ◌∷◌, ◌++◌, map, ℕ, length, take, drop, replicate}
use Rattle.octets.specs.Answers.{answer}
use Rattle.octets.specs.Ascii.{ascii}
use Rattle.octets.specs.Bytes.{digits}
use Rattle.octets.specs.Cases.{Case, is, Hold, span}
use Rattle.modes_spec.specs.declared.Direction.TheVariants.{Lock, Open}
use Rattle.track_spec.specs.declared.Parameters.{Parameters}
use Rattle.track_spec.specs.Track.{cenc, cbc1, cens, cbcs, tenc, zeros, unprotected, read_box, parameter_rows, write_box, first_only, last_only}
use Rattle.subsample_spec.specs.declared.Entry.{Entry}
use Rattle.subsample_spec.specs.declared.SubsampleMap.{SubsampleMap}
use Rattle.subsample_spec.specs.Auxiliary.{entry, places, empty_map, map_rows, read_under, read_auxiliary}
use Rattle.sample_spec.specs.Sample.{Inputs, inputs, find_key, parameters_of, answered, read_inputs}
use Rattle.stream_spec.specs.declared.Stream.{Stream}
use Rattle.stream_spec.specs.Stream.{progress_of, start, feed, end}
use Rattle.stream_spec.specs.Samples.{box_under, box_with, iv_box_under, iv_box, constant_box_under, constant_box, box_of, keys_under, keys_of}

-- An input, and the number said of it.
pub record Asked (A : Type 0) : Type 0 where
  pub input : A
  pub number : ℕ

abbrev pub gives : {A : Type 0} → A → ℕ → Asked A
gives input number = record { input = input; number = number }

-- What a call answers to all inputs of a list, and what is said.
abbrev pub asked : {A : Type 0} → (A → ℕ) → List (Asked A) → Case
asked call qs = is (map (λ q. call q.input) qs) (map (λ q. q.number) qs)

-- ---- What is handed in.

-- An unprotected track.
abbrev pub clear_box_under : List ℕ → List ℕ
clear_box_under kid = box_under kid 32 tenc (0 ∷ 0 ∷ 0 ∷ 0 ∷ 0 ∷ 0 ∷ 0 ∷ 0 ∷ []) []

abbrev pub clear_box : List ℕ
clear_box = clear_box_under (span 1 16)

-- Auxiliary data: a zero IV of some size, the count and the entries.
unfoldable pub entries_bytes : List Entry → List ℕ
entries_bytes [] = []
entries_bytes (e ∷ es) = digits 2 e.clear ++ (digits 4 e.protected ++ entries_bytes es)

abbrev pub auxiliary_of : ℕ → List Entry → List ℕ
auxiliary_of iv_size es = replicate iv_size 0 ++ (digits 2 (length es) ++ entries_bytes es)

-- What a caller hands in for a sample of some length.
pub record Given : Type 0 where
  pub inputs : Inputs
  pub length : ℕ

abbrev pub given : List ℕ → List ℕ → List ℕ → List ℕ → ℕ → Given
given code box auxiliary keys n = record { inputs = inputs code box auxiliary keys; length = n }

-- ---- 1 to 4, of a box.

-- A sample of 5 bytes with no entries written, whose box and code are asked about.
abbrev pub of_box : List ℕ → List ℕ → List ℕ → Given
of_box code box auxiliary = given code box auxiliary keys_of 5

abbrev pub eight : List ℕ
eight = replicate 8 0

unfoldable pub boxes : List (Asked Given)
boxes =
    gives (of_box cenc (box_of 8) eight) 0 ∷ gives (of_box cbcs (constant_box 1 25) []) 0 ∷ gives (of_box cenc clear_box []) 0
    -- Document 02, Ask 2: "Either scheme with 0:0 may have version 0 or 1"
    ∷ gives (of_box cens (iv_box 0 0 8) eight) 0 ∷ gives (of_box cens (iv_box 1 0 8) eight) 0
    ∷ gives (of_box cbcs (constant_box 0 0) []) 0 ∷ gives (of_box cbcs (constant_box 1 0) []) 0
    -- "the scheme code isn't four bytes naming one of the four"
    ∷ gives (of_box (take 3 cenc) (box_of 8) eight) 1 ∷ gives (of_box (cenc ++ (0 ∷ [])) (box_of 8) eight) 1
    ∷ gives (of_box (ascii "senc") (box_of 8) eight) 1
    -- "the box has under 32 bytes, or its size isn't the slice's length, or its type isn't `tenc`"
    ∷ gives (of_box cenc (0 ∷ 0 ∷ 0 ∷ 31 ∷ drop 4 (take 31 (box_of 8))) eight) 2
    ∷ gives (of_box cenc (box_with 33 tenc (0 ∷ 0 ∷ 0 ∷ 0 ∷ 0 ∷ 0 ∷ 1 ∷ 8 ∷ []) []) eight) 2
    ∷ gives (of_box cenc (box_with 32 cenc (0 ∷ 0 ∷ 0 ∷ 0 ∷ 0 ∷ 0 ∷ 1 ∷ 8 ∷ []) []) eight) 2
    -- "version above 1, flags or zero byte not zero, or a pattern in version 0"
    ∷ gives (of_box cenc (box_with 32 tenc (2 ∷ 0 ∷ 0 ∷ 0 ∷ 0 ∷ 0 ∷ 1 ∷ 8 ∷ []) []) eight) 3
    ∷ gives (of_box cenc (box_with 32 tenc (0 ∷ 0 ∷ 0 ∷ 1 ∷ 0 ∷ 0 ∷ 1 ∷ 8 ∷ []) []) eight) 3
    ∷ gives (of_box cenc (box_with 32 tenc (0 ∷ 0 ∷ 0 ∷ 0 ∷ 1 ∷ 0 ∷ 1 ∷ 8 ∷ []) []) eight) 3
    ∷ gives (of_box cens (iv_box 0 25 8) eight) 3 ∷ gives (of_box cens (iv_box 0 1 8) eight) 3 ∷ gives (of_box cbcs (constant_box 0 1) []) 3
    -- "the fields aren't allowed as above, or the box is longer or shorter than they call for"
    ∷ gives (of_box cenc (box_with 32 tenc (0 ∷ 0 ∷ 0 ∷ 0 ∷ 0 ∷ 0 ∷ 1 ∷ 7 ∷ []) []) eight) 4
    ∷ gives (of_box cenc (box_with 33 tenc (0 ∷ 0 ∷ 0 ∷ 0 ∷ 0 ∷ 0 ∷ 1 ∷ 8 ∷ []) (0 ∷ [])) eight) 4
    ∷ gives (of_box cbcs (box_with 32 tenc (1 ∷ 0 ∷ 0 ∷ 0 ∷ 0 ∷ 25 ∷ 1 ∷ 0 ∷ []) []) []) 4
    ∷ gives (of_box cbcs (box_with 49 tenc (1 ∷ 0 ∷ 0 ∷ 0 ∷ 0 ∷ 25 ∷ 1 ∷ 0 ∷ []) (15 ∷ replicate 16 170)) []) 4
    -- "crypt 0 with skip above 0 stays refusal 4"; cenc and cbc1 have no pattern
    ∷ gives (of_box cens (iv_box 1 1 8) eight) 4 ∷ gives (of_box cbcs (constant_box 1 1) []) 4
    ∷ gives (of_box cenc (iv_box 1 16 8) eight) 4 ∷ gives (of_box cbc1 (iv_box 1 16 16) (replicate 16 0)) 4
    -- 1 before 2, 2 before 3, 3 before 4
    ∷ gives (of_box (ascii "senc") (take 31 (box_of 8)) eight) 1
    ∷ gives (of_box cenc (box_with 32 cenc (2 ∷ 0 ∷ 0 ∷ 0 ∷ 0 ∷ 0 ∷ 1 ∷ 8 ∷ []) []) eight) 2
    ∷ gives (of_box cenc (box_with 32 tenc (2 ∷ 0 ∷ 0 ∷ 0 ∷ 0 ∷ 0 ∷ 1 ∷ 7 ∷ []) []) eight) 3
    ∷ []

-- Document 02, Ask 8: a box, and the key record for it, under a KID.
abbrev pub of_kid : List ℕ → List ℕ → List ℕ → List ℕ → Given
of_kid kid code box auxiliary = given code box auxiliary (keys_under kid) 5

-- A protected track of each scheme, and an unprotected one under each code, with what is answered to all of them.
abbrev pub protected_under : List ℕ → ℕ → List (Asked Given)
protected_under kid number =
    gives (of_kid kid cenc (iv_box_under kid 0 0 8) eight) number
    ∷ gives (of_kid kid cbc1 (iv_box_under kid 0 0 16) (replicate 16 0)) number
    ∷ gives (of_kid kid cens (iv_box_under kid 1 25 8) eight) number
    ∷ gives (of_kid kid cbcs (constant_box_under kid 1 25) []) number ∷ []

abbrev pub unprotected_under : List ℕ → ℕ → List (Asked Given)
unprotected_under kid number = map (λ code. gives (of_kid kid code (clear_box_under kid) []) number) (cenc ∷ cbc1 ∷ cens ∷ cbcs ∷ [])

unfoldable pub kids : List (Asked Given)
kids =
    -- "KIDs of sixteen zero bytes on protected tracks. Refuse them as 4"
    protected_under zeros 4 ++ (protected_under first_only 0 ++ (protected_under last_only 0
    -- "Unprotected tracks may keep any KID."
    ++ (unprotected_under zeros 0
    -- 3 before 4
    ++ (gives (of_kid zeros cenc (iv_box_under zeros 2 0 8) eight) 3 ∷ []))))

-- ---- 1, 3 and 4, of parameters.

abbrev pub parameters_under : List ℕ → List ℕ → ℕ → ℕ → ℕ → ℕ → ℕ → List ℕ → Parameters
parameters_under kid code version crypt skip protected iv_size constant =
    record {
      code = code;
      version = version;
      crypt = crypt;
      skip = skip;
      protected = protected;
      iv_size = iv_size;
      kid = record { 0 = kid };
      constant_iv = record { 0 = constant };
    }

abbrev pub parameters_with : List ℕ → ℕ → ℕ → ℕ → ℕ → ℕ → List ℕ → Parameters
parameters_with = parameters_under (span 1 16)

-- cenc with IVs of 8 bytes, cbc1, cbcs 1:9, and cbcs 0:0 in some version.
abbrev pub cenc8 : Parameters
cenc8 = parameters_with cenc 0 0 0 1 8 zeros

abbrev pub cbc1_track : Parameters
cbc1_track = parameters_with cbc1 0 0 0 1 16 zeros

abbrev pub cbcs_track : Parameters
cbcs_track = parameters_with cbcs 1 1 9 1 0 (replicate 16 170)

abbrev pub whole_blocks_track : ℕ → Parameters
whole_blocks_track version = parameters_with cbcs version 0 0 1 0 (replicate 16 170)

-- cenc with IVs of 8 bytes under a KID.
abbrev pub cenc8_under : List ℕ → Parameters
cenc8_under kid = parameters_under kid cenc 0 0 0 1 8 zeros

unfoldable pub parameters : List (Asked Parameters)
parameters =
    gives cenc8 0 ∷ gives cbc1_track 0 ∷ gives cbcs_track 0 ∷ gives unprotected 0
    ∷ gives (whole_blocks_track 0) 0 ∷ gives (whole_blocks_track 1) 0
    ∷ gives (parameters_with cens 0 0 0 1 8 zeros) 0 ∷ gives (parameters_with cens 1 0 0 1 8 zeros) 0
    ∷ gives (parameters_with (ascii "senc") 0 0 0 1 8 zeros) 1
    ∷ gives (parameters_with cenc 2 0 0 1 8 zeros) 3 ∷ gives (parameters_with cens 0 1 9 1 8 zeros) 3
    ∷ gives (parameters_with cens 0 0 1 1 8 zeros) 3 ∷ gives (parameters_with cens 1 0 1 1 8 zeros) 4
    -- "the writer refuses others as 4": a constant IV where none is called for
    ∷ gives (parameters_with cenc 0 0 0 1 7 zeros) 4 ∷ gives (parameters_with cenc 0 0 0 1 8 (replicate 16 170)) 4
    -- Document 02, Ask 8: "The writers refuse alike."
    ∷ gives (cenc8_under zeros) 4 ∷ gives (parameters_under zeros cbc1 0 0 0 1 16 zeros) 4
    ∷ gives (parameters_under zeros cens 1 1 9 1 16 zeros) 4 ∷ gives (parameters_under zeros cbcs 1 1 9 1 0 (replicate 16 170)) 4
    ∷ gives (cenc8_under first_only) 0 ∷ gives (cenc8_under last_only) 0 ∷ gives (parameters_under zeros cbcs 1 0 0 0 0 zeros) 0
    -- 1 before 3, 3 before 4
    ∷ gives (parameters_with (ascii "senc") 2 0 0 1 8 zeros) 1 ∷ gives (parameters_with cenc 2 0 0 1 7 zeros) 3
    ∷ gives (parameters_under zeros cenc 2 0 0 1 8 zeros) 3 ∷ []

-- ---- 5 and 6, of the key record: "5 and 6 are skipped for an unprotected track".

abbrev pub of_keys : List ℕ → List ℕ → List ℕ → Given
of_keys box auxiliary keys = given cenc box auxiliary keys 5

unfoldable pub key_records : List (Asked Given)
key_records =
    gives (of_keys (box_of 8) eight keys_of) 0 ∷ gives (of_keys clear_box [] []) 0 ∷ gives (of_keys clear_box [] (replicate 32 0)) 0
    -- "key record not 32 bytes (KID, then key)"
    ∷ gives (of_keys (box_of 8) eight (take 31 keys_of)) 5 ∷ gives (of_keys (box_of 8) eight (keys_of ++ (0 ∷ []))) 5
    -- "its KID isn't the track's"
    ∷ gives (of_keys (box_of 8) eight (span 2 16 ++ span 101 16)) 6
    -- 5 before 6
    ∷ gives (of_keys (box_of 8) eight (span 2 16)) 5 ∷ []

-- ---- 7 to 12, of auxiliary data.

abbrev pub of_data : List ℕ → ℕ → List ℕ → ℕ → Given
of_data code iv_size auxiliary n = given code (box_of iv_size) auxiliary keys_of n

unfoldable pub auxiliaries : List (Asked Given)
auxiliaries =
    gives (of_data cenc 8 eight 16777216) 0 ∷ gives (of_data cenc 8 (auxiliary_of 8 (entry 2 3 ∷ [])) 5) 0
    ∷ gives (of_data cenc 8 (auxiliary_of 8 (entry 0 0 ∷ [])) 0) 0 ∷ gives (of_data cenc 8 (auxiliary_of 8 (entry 0 31 ∷ [])) 31) 0
    ∷ gives (of_data cbc1 16 (auxiliary_of 16 (entry 0 32 ∷ [])) 32) 0 ∷ gives (given cenc clear_box [] [] 5) 0
    -- "sample over 16,777,216 bytes"
    ∷ gives (of_data cenc 8 eight 16777217) 7 ∷ gives (given cenc clear_box [] [] 16777217) 7
    -- "auxiliary data of the wrong size, or count 0"
    ∷ gives (of_data cenc 8 (replicate 7 0) 5) 8 ∷ gives (of_data cenc 8 (replicate 9 0) 5) 8
    ∷ gives (of_data cenc 8 (auxiliary_of 8 []) 5) 8 ∷ gives (of_data cenc 8 (auxiliary_of 8 (entry 2 3 ∷ []) ++ (0 ∷ [])) 5) 8
    ∷ gives (given cenc clear_box (0 ∷ []) [] 5) 8
    -- "more than 64 entries"
    ∷ gives (of_data cenc 8 (auxiliary_of 8 (replicate 65 (entry 0 1))) 65) 9
    -- "an entry 0 and 0 in a sample that isn't empty"
    ∷ gives (of_data cenc 8 (auxiliary_of 8 (entry 1 0 ∷ entry 0 0 ∷ [])) 1) 10
    -- "lengths don't add up to the sample's"
    ∷ gives (of_data cenc 8 (auxiliary_of 8 (entry 2 3 ∷ [])) 6) 11
    -- "cbc1 entry whose protected length isn't a multiple of 16"
    ∷ gives (of_data cbc1 16 (auxiliary_of 16 (entry 0 31 ∷ [])) 31) 12
    -- 7 before 8, 8 before 9, 9 before 10, 10 before 11, 11 before 12
    ∷ gives (of_data cenc 8 (replicate 7 0) 16777217) 7
    ∷ gives (of_data cenc 8 (auxiliary_of 8 (replicate 65 (entry 0 1)) ++ (0 ∷ [])) 65) 8
    ∷ gives (of_data cenc 8 (auxiliary_of 8 (replicate 65 (entry 0 0))) 1) 9
    ∷ gives (of_data cenc 8 (auxiliary_of 8 (entry 0 0 ∷ [])) 1) 10
    ∷ gives (of_data cbc1 16 (auxiliary_of 16 (entry 0 31 ∷ [])) 32) 11 ∷ []

-- Two of these groups at once: 4 before 7 for a reader of auxiliary data; 4 before 5 and 6 before 7 for a sample.
abbrev pub bad_box : List ℕ
bad_box = box_with 32 tenc (0 ∷ 0 ∷ 0 ∷ 0 ∷ 0 ∷ 0 ∷ 1 ∷ 7 ∷ []) []

unfoldable pub box_then_data : List (Asked Given)
box_then_data = gives (given cenc bad_box eight keys_of 16777217) 4 ∷ []

unfoldable pub box_then_keys : List (Asked Given)
box_then_keys =
    gives (given cenc bad_box eight (take 31 keys_of) 5) 4 ∷ gives (given cenc (iv_box_under zeros 0 0 8) eight (take 31 keys_of) 5) 4
    ∷ gives (given cenc (box_of 8) eight (span 2 32) 16777217) 6 ∷ []

-- ---- 9 to 12, of a map.

-- A map under a scheme code, for a sample of some length.
pub record GivenMap : Type 0 where
  pub code : List ℕ
  pub map : SubsampleMap
  pub length : ℕ

abbrev pub map_with : List Entry → ℕ → SubsampleMap
map_with es count = record { entries = places es; count = count }

abbrev pub of_map : List ℕ → SubsampleMap → ℕ → GivenMap
of_map code m n = record { code = code; map = m; length = n }

unfoldable pub maps : List (Asked GivenMap)
maps =
    gives (of_map cenc empty_map 5) 0 ∷ gives (of_map cenc (map_with (entry 2 3 ∷ []) 1) 5) 0
    ∷ gives (of_map cenc (map_with (replicate 64 (entry 0 1)) 64) 64) 0
    ∷ gives (of_map cenc (map_with [] 1) 0) 0 ∷ gives (of_map cenc (map_with (entry 0 31 ∷ []) 1) 31) 0
    ∷ gives (of_map cenc (map_with (replicate 64 (entry 0 1)) 65) 64) 9
    ∷ gives (of_map cenc (map_with (entry 1 0 ∷ []) 2) 1) 10
    ∷ gives (of_map cenc (map_with (entry 2 3 ∷ []) 1) 6) 11
    ∷ gives (of_map cbc1 (map_with (entry 0 31 ∷ []) 1) 31) 12
    -- 9 before 10, 10 before 11, 11 before 12
    ∷ gives (of_map cenc (map_with [] 65) 1) 9 ∷ gives (of_map cenc (map_with [] 1) 1) 10
    ∷ gives (of_map cbc1 (map_with (entry 0 31 ∷ []) 1) 32) 11 ∷ []

-- ---- The record of a stream: "Record rules".

-- At position x of a declared sample, with k bytes held.
abbrev pub stream_at : Parameters → ℕ → SubsampleMap → ℕ → ℕ → Stream
stream_at p n m x k =
    record {
      declared = record { direction = Lock; parameters = p; length = n; map = m; key = record { 0 = zeros } };
      progress = progress_of (record { position = x; block = zeros; held = replicate k 0 });
    }

-- Records that each break one of the rules.
unfoldable pub unsound : List Stream
unsound =
    -- "the parameters meet 1, 3 and 4"
    stream_at (parameters_with (ascii "senc") 0 0 0 1 8 zeros) 20 empty_map 10 0
    ∷ stream_at (parameters_with cenc 2 0 0 1 8 zeros) 20 empty_map 10 0
    ∷ stream_at (parameters_with cenc 0 0 0 1 7 zeros) 20 empty_map 10 0
    ∷ stream_at (parameters_with cbcs 1 0 1 1 0 zeros) 20 empty_map 10 0
    ∷ stream_at (cenc8_under zeros) 20 empty_map 10 0
    -- "map and declared length meet 7 and 9 to 12, with no entries if unprotected"
    ∷ stream_at cenc8 16777217 empty_map 10 0
    ∷ stream_at cenc8 64 (map_with (replicate 64 (entry 0 1)) 65) 10 0
    ∷ stream_at cenc8 20 (map_with (entry 20 0 ∷ []) 2) 10 0
    ∷ stream_at cenc8 20 (map_with (entry 0 19 ∷ []) 1) 10 0
    ∷ stream_at cbc1_track 31 (map_with (entry 0 31 ∷ []) 1) 20 0
    ∷ stream_at unprotected 20 (map_with (entry 20 0 ∷ []) 1) 10 0
    -- "the position is at most the length, and the held count is what the position calls for"
    ∷ stream_at cenc8 20 empty_map 21 0
    ∷ stream_at cenc8 20 empty_map 10 1
    ∷ stream_at cbc1_track 40 empty_map 10 0
    ∷ stream_at cbc1_track 40 empty_map 10 11
    ∷ stream_at (whole_blocks_track 0) 40 empty_map 20 0 ∷ []

-- ---- The calls, each with what the document says of it.

-- "The box reader uses 1 to 4."
unfoldable pub box_reader : List Case
box_reader = asked (λ q. (read_box q.inputs.code q.inputs.box).answer) (boxes ++ kids) ∷ []

-- "the box writer 1, 3, 4, 17": the answer and the box's length in some room; 4 before 17.
abbrev pub written : Parameters → ℕ → List ℕ
written p room = (write_box p room).answer ∷ (write_box p room).length ∷ []

unfoldable pub box_writer : List Case
box_writer =
    asked (λ p. (write_box p 49).answer) parameters
    ∷ is (written cenc8 32) (0 ∷ 32 ∷ []) ∷ is (written cbcs_track 49) (0 ∷ 49 ∷ [])
    ∷ is (written (whole_blocks_track 0) 49) (0 ∷ 49 ∷ []) ∷ is (written (whole_blocks_track 0) 48) (17 ∷ 0 ∷ [])
    ∷ is (written cenc8 31) (17 ∷ 0 ∷ []) ∷ is (written cbcs_track 48) (17 ∷ 0 ∷ [])
    ∷ is (written (parameters_with cenc 0 0 0 1 7 zeros) 0) (4 ∷ 0 ∷ []) ∷ is (written (cenc8_under zeros) 0) (4 ∷ 0 ∷ []) ∷ []

-- Of parameters by themselves 1, 3 and 4.
unfoldable pub parameter_check : List Case
parameter_check = asked (λ p. answer (parameter_rows p)) parameters ∷ []

-- "A public reader of auxiliary data takes code, box and sample length and uses 1 to 4 and 7 to 12."
unfoldable pub auxiliary_reader : List Case
auxiliary_reader =
    asked (λ q. (read_auxiliary q.inputs.code q.inputs.box q.inputs.auxiliary q.length).answer)
    (boxes ++ (kids ++ (auxiliaries ++ box_then_data))) ∷ []

-- Under given parameters 7 to 12, of a map by itself 9 to 12, of a key record by itself 5 and 6.
unfoldable pub under_parameters : List Case
under_parameters =
    asked (λ q. (read_under (parameters_of q.inputs) q.inputs.auxiliary q.length).answer) auxiliaries
    -- "For an unprotected track the auxiliary data is empty", "the IV .. zero if unprotected": whatever its IV size, and for a flag of 2
    ∷ asked (λ flag. (read_under (parameters_with cenc 0 0 0 flag 8 zeros) eight 5).answer) (gives 0 8 ∷ gives 2 8 ∷ gives 1 0 ∷ [])
    ∷ asked (λ flag. (read_under (parameters_with cenc 0 0 0 flag 8 zeros) [] 5).answer) (gives 0 0 ∷ gives 2 0 ∷ gives 1 8 ∷ [])
    ∷ is (read_under (parameters_with cenc 0 0 0 0 8 zeros) [] 5).iv.0 zeros ∷ []

unfoldable pub map_check : List Case
map_check = asked (λ c. answer (map_rows c.code c.map c.length)) maps ∷ []

unfoldable pub key_finder : List Case
key_finder = asked (λ q. (find_key (parameters_of q.inputs) q.inputs.keys).answer) key_records ∷ []

-- "Whole-sample calls and the start of a stream use 1 to 12".
abbrev pub of_sample : List (Asked Given)
of_sample = boxes ++ (kids ++ (key_records ++ (auxiliaries ++ (box_then_data ++ box_then_keys))))

unfoldable pub whole_sample : List Case
whole_sample =
    asked (λ q. answered q.inputs q.length) of_sample ∷ asked (λ q. (read_inputs q.inputs q.length).answer) of_sample ∷ []

unfoldable pub starting : List Case
starting =
    asked (λ q. (start Lock q.inputs q.length).answer) of_sample
    ∷ asked (λ q. (start Open q.inputs q.length).answer) of_sample ∷ []

-- "feeding uses 13 to 15": the answer and the bytes released, for k bytes with some room; none on a refusal.
abbrev pub fed : Stream → ℕ → ℕ → List ℕ
fed t k room = (feed t (replicate k 0) room).answer ∷ (feed t (replicate k 0) room).released ∷ []

unfoldable pub feeding : List Case
feeding =
    is (map (λ t. (feed t [] 0).answer) unsound) (replicate 16 13)
    ∷ is (map (λ t. (feed t [] 0).released) unsound) (replicate 16 0)
    ∷ is (fed (stream_at cenc8 20 empty_map 10 0) 10 10) (0 ∷ 10 ∷ [])
    ∷ is (fed (stream_at cenc8 20 empty_map 10 0) 0 0) (0 ∷ 0 ∷ [])
    -- Document 02, Ask 8: a KID with one byte, and the zero KID of an unprotected track.
    ∷ is (fed (stream_at (cenc8_under last_only) 20 empty_map 10 0) 10 10) (0 ∷ 10 ∷ [])
    ∷ is (fed (stream_at unprotected 20 empty_map 10 0) 10 10) (0 ∷ 10 ∷ [])
    ∷ is (fed (stream_at cbc1_track 40 empty_map 10 10) 5 0) (0 ∷ 0 ∷ [])
    ∷ is (fed (stream_at cbc1_track 40 empty_map 10 10) 6 16) (0 ∷ 16 ∷ [])
    ∷ is (fed (stream_at (whole_blocks_track 0) 40 empty_map 20 4) 12 16) (0 ∷ 16 ∷ [])
    ∷ is (fed (stream_at (whole_blocks_track 1) 40 empty_map 32 0) 8 8) (0 ∷ 8 ∷ [])
    ∷ is (fed (stream_at cenc8 20 empty_map 10 0) 11 20) (14 ∷ 0 ∷ [])
    ∷ is (fed (stream_at cenc8 20 empty_map 10 0) 10 9) (15 ∷ 0 ∷ [])
    ∷ is (fed (stream_at cbc1_track 40 empty_map 10 10) 6 15) (15 ∷ 0 ∷ [])
    -- 13 before 14, 14 before 15
    ∷ is (fed (stream_at cenc8 20 empty_map 10 1) 11 20) (13 ∷ 0 ∷ [])
    ∷ is (fed (stream_at cenc8 20 empty_map 10 0) 11 0) (14 ∷ 0 ∷ []) ∷ []

-- "the end 13 and 16": 13 before 16, as most of the records have not reached their length.
unfoldable pub ending : List Case
ending =
    is (map (λ t. (end t).answer) unsound) (replicate 16 13)
    ∷ is ((end (stream_at cenc8 20 empty_map 20 0)).answer ∷ (end (stream_at cenc8 20 empty_map 19 0)).answer ∷ []) (0 ∷ 16 ∷ []) ∷ []

-- ---- The claim, for all of them.

pub record Numbers : Type 0 where
  pub box_reader_lem : Hold box_reader
  pub box_writer_lem : Hold box_writer
  pub parameter_check_lem : Hold parameter_check
  pub auxiliary_reader_lem : Hold auxiliary_reader
  pub under_parameters_lem : Hold under_parameters
  pub map-check : Hold map_check
  pub key_finder_lem : Hold key_finder
  pub whole_sample_lem : Hold whole_sample
  pub starting : Hold starting
  pub feeding : Hold feeding
  pub ending : Hold ending
