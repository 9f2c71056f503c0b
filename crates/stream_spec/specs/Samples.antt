-- Document 01, "Samples on both sides of a line": those marked [P], and document 02, Ask 2, as one list, and how its cases are put in
-- numbers.
use Rattle.std.specs.Prelude.{Bool, true, false, List, [], ◌∷◌, ◌++◌, ℕ, suc, length, replicate}
use Rattle.octets.specs.Cases.{Case, is, span}
use Rattle.modes_spec.specs.declared.Direction.TheVariants.{Lock}
use Rattle.modes_spec.specs.Modes.{counter_at}
use Rattle.modes_spec.specs.Examples.{telling}
use Rattle.track_spec.specs.Track.{cenc, cbc1, cens, cbcs, tenc, fields}
use Rattle.subsample_spec.specs.declared.Entry.{Entry}
use Rattle.subsample_spec.specs.Auxiliary.{empty_map, entry}
use Rattle.scheme.specs.declared.Scheme.TheVariants.{Cenc, Cbc1, Cens, Cbcs}
use Rattle.scheme.specs.Layout.{scheme_of, pattern_of, mask}
use Rattle.scheme.specs.WholeSample.{whole}
use Rattle.scheme.specs.Examples.{crypt_skip}
use Rattle.scheme.specs.Part.{protected_entries, entries_of, held_under}
use Rattle.scheme.specs.Counters.{counter_blocks}
use Rattle.sample_spec.specs.Sample.{Inputs, inputs, parameters_of, map_of, answered}
use Rattle.stream_spec.specs.Demand3.{Call, Feeding, Reply, account}

-- ---- How cases are put in numbers.

-- The places that are marked, and those that are not, from place i on.
unfoldable pub marked : ℕ → List Bool → List ℕ
marked i [] = []
marked i (true ∷ ms) = i ∷ marked (suc i) ms
marked i (false ∷ ms) = marked (suc i) ms

unfoldable pub unmarked : ℕ → List Bool → List ℕ
unmarked i [] = []
unmarked i (true ∷ ms) = unmarked (suc i) ms
unmarked i (false ∷ ms) = i ∷ unmarked (suc i) ms

-- Replies as numbers.
unfoldable pub told : List Reply → List ℕ
told [] = []
told (r ∷ rs) = r.answer ∷ r.released ∷ told rs

-- A box with a size field and a type: the eight bytes from the version to the IV size, a KID, and what follows; with KID 1 to 16.
abbrev pub box_under : List ℕ → ℕ → List ℕ → List ℕ → List ℕ → List ℕ
box_under kid size kind fields after = 0 ∷ 0 ∷ 0 ∷ size ∷ kind ++ (fields ++ (kid ++ after))

abbrev pub box_with : ℕ → List ℕ → List ℕ → List ℕ → List ℕ
box_with = box_under (span 1 16)

-- Of a protected track in some version and with a pattern byte: with an IV size, or with a constant IV.
abbrev pub iv_box_under : List ℕ → ℕ → ℕ → ℕ → List ℕ
iv_box_under kid version pattern iv_size = box_under kid 32 tenc (version ∷ 0 ∷ 0 ∷ 0 ∷ 0 ∷ pattern ∷ 1 ∷ iv_size ∷ []) []

abbrev pub iv_box : ℕ → ℕ → ℕ → List ℕ
iv_box = iv_box_under (span 1 16)

abbrev pub constant_box_under : List ℕ → ℕ → ℕ → List ℕ
constant_box_under kid version pattern =
    box_under kid 49 tenc (version ∷ 0 ∷ 0 ∷ 0 ∷ 0 ∷ pattern ∷ 1 ∷ 0 ∷ []) (16 ∷ replicate 16 170)

abbrev pub constant_box : ℕ → ℕ → List ℕ
constant_box = constant_box_under (span 1 16)

-- In version 0 without a pattern; the key record for it; auxiliary data with a zero IV of that size.
abbrev pub box_of : ℕ → List ℕ
box_of iv_size = iv_box 0 0 iv_size

abbrev pub keys_under : List ℕ → List ℕ
keys_under kid = kid ++ span 101 16

abbrev pub keys_of : List ℕ
keys_of = keys_under (span 1 16)

-- What a whole-sample call or a start answers, for a sample of n bytes and what follows the IV.
abbrev pub answered_for : List ℕ → ℕ → List ℕ → ℕ → List ℕ
answered_for code iv_size after n = answered (inputs code (box_of iv_size) (replicate iv_size 0 ++ after) keys_of) n ∷ []

-- Feeding n bytes, with room enough.
abbrev pub fed : ℕ → Call
fed n = Feeding (replicate n 0) (replicate 40 0)

-- What is answered with some inputs to a sample of n bytes, and the bytes that are ciphered.
abbrev pub answered_and_ciphered : Inputs → ℕ → List ℕ
answered_and_ciphered i n =
    answered i n ∷ marked 0 (mask (scheme_of i.code) (pattern_of (parameters_of i)) (entries_of (parameters_of i) (map_of i) n))

-- ---- The samples.

-- Document 02, Ask 2, of a code and a box with 0:0: "0:0 ciphers every whole block of a range". The IV comes before the entries.
abbrev pub whole_blocks : List ℕ → List ℕ → List ℕ → List Case
whole_blocks code box iv =
    -- No entries, 20 bytes and 64 bytes.
    is (answered_and_ciphered (inputs code box iv keys_of) 20) (0 ∷ span 0 16)
    ∷ is (answered_and_ciphered (inputs code box iv keys_of) 64) (0 ∷ span 0 64)
    -- A range of 63 bytes.
    ∷ is (answered_and_ciphered (inputs code box (iv ++ (0 ∷ 1 ∷ 0 ∷ 0 ∷ 0 ∷ 0 ∷ 0 ∷ 63 ∷ [])) keys_of) 63) (0 ∷ span 0 48)
    -- Entries (3,20) (0,41), of which the first ends in mid-block.
    ∷ is (answered_and_ciphered (inputs code box (iv ++ (0 ∷ 2 ∷ 0 ∷ 3 ∷ 0 ∷ 0 ∷ 0 ∷ 20 ∷ 0 ∷ 0 ∷ 0 ∷ 0 ∷ 0 ∷ 41 ∷ [])) keys_of) 64)
    (0 ∷ span 3 16 ++ span 23 32) ∷ []

-- With no entries written, the entries of a sample of n bytes.
abbrev pub none : ℕ → List Entry
none n = protected_entries empty_map n

unfoldable pub samples : List Case
samples =
    -- 1. cenc, no entries, 20 bytes: 20 ciphered, two counter blocks.
    is (marked 0 (mask Cenc (crypt_skip 0 0) (none 20))) (span 0 20)
    ∷ is (length (counter_blocks Cenc (crypt_skip 0 0) (none 20) (replicate 16 0)) ∷ []) (2 ∷ [])
    -- 2. cbc1, no entries, 20 bytes: 16 ciphered, 4 clear.
    ∷ is (marked 0 (mask Cbc1 (crypt_skip 0 0) (none 20))) (span 0 16)
    ∷ is (unmarked 0 (mask Cbc1 (crypt_skip 0 0) (none 20))) (span 16 4)
    -- 3. cenc, entries (0,10) (4,10), 24 bytes: stream bytes 10 to 19 fall on sample bytes 14 to 23.
    ∷ is (whole telling telling (replicate 16 0) (crypt_skip 0 0) (entry 0 10 ∷ entry 4 10 ∷ []) Lock Cenc (replicate 24 0))
    (span 0 10 ++ (replicate 4 0 ++ span 10 10))
    -- 4. cbcs 1:9, range of 340: blocks at 0, 160 and 320 ciphered, the last 4 bytes clear.
    ∷ is (marked 0 (mask Cbcs (crypt_skip 1 9) (entry 0 340 ∷ []))) (span 0 16 ++ (span 160 16 ++ span 320 16))
    ∷ is (unmarked 0 (mask Cbcs (crypt_skip 1 9) (entry 0 340 ∷ []))) (span 16 144 ++ (span 176 144 ++ span 336 4))
    -- 5. cens 2:1, range of 64: blocks 0, 1 and 3; range of 63: blocks 0 and 1.
    ∷ is (marked 0 (mask Cens (crypt_skip 2 1) (entry 0 64 ∷ []))) (span 0 32 ++ span 48 16)
    ∷ is (marked 0 (mask Cens (crypt_skip 2 1) (entry 0 63 ∷ []))) (span 0 32)
    -- 6. Counter bytes 8 to 15 all ff: next, they are zero.
    ∷ is (counter_at (span 1 8 ++ replicate 8 0xff) 1) (span 1 8 ++ replicate 8 0)
    -- 7. cbc1, no entries, 40 bytes in pieces 10, 10, 20: released 0, 16, 24.
    ∷ is (told (account (held_under (fields cbc1 (box_of 16)) empty_map 40) 40 0 (fed 10 ∷ fed 10 ∷ fed 20 ∷ [])))
    (0 ∷ 0 ∷ 0 ∷ 16 ∷ 0 ∷ 24 ∷ [])
    -- 8. Empty sample, one entry (0,0): 0. One-byte sample, entries (1,0) (0,0): 10.
    ∷ is (answered_for cenc 8 (0 ∷ 1 ∷ 0 ∷ 0 ∷ 0 ∷ 0 ∷ 0 ∷ 0 ∷ []) 0) (0 ∷ [])
    ∷ is (answered_for cenc 8 (0 ∷ 2 ∷ 0 ∷ 1 ∷ 0 ∷ 0 ∷ 0 ∷ 0 ∷ 0 ∷ 0 ∷ 0 ∷ 0 ∷ 0 ∷ 0 ∷ []) 1) (10 ∷ [])
    -- 9. cbc1 entry (0,32): 0; (0,31): 12.
    ∷ is (answered_for cbc1 16 (0 ∷ 1 ∷ 0 ∷ 0 ∷ 0 ∷ 0 ∷ 0 ∷ 32 ∷ []) 32) (0 ∷ [])
    ∷ is (answered_for cbc1 16 (0 ∷ 1 ∷ 0 ∷ 0 ∷ 0 ∷ 0 ∷ 0 ∷ 31 ∷ []) 31) (12 ∷ [])
    -- Document 02, Ask 2: 0:0 in both schemes and both versions.
    ∷ whole_blocks cens (iv_box 0 0 8) (replicate 8 0) ++ (whole_blocks cens (iv_box 1 0 8) (replicate 8 0)
    ++ (whole_blocks cbcs (constant_box 0 0) [] ++ (whole_blocks cbcs (constant_box 1 0) []
    -- 0:1, in version 0 and in version 1.
    ++ (is (answered (inputs cens (iv_box 0 1 8) (replicate 8 0) keys_of) 20 ∷ []) (3 ∷ [])
    ∷ is (answered (inputs cens (iv_box 1 1 8) (replicate 8 0) keys_of) 20 ∷ []) (4 ∷ [])
    ∷ is (answered (inputs cbcs (constant_box 0 1) [] keys_of) 20 ∷ []) (3 ∷ [])
    ∷ is (answered (inputs cbcs (constant_box 1 1) [] keys_of) 20 ∷ []) (4 ∷ []) ∷ []))))
