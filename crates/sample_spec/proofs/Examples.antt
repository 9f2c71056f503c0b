-- A block of cipher block chaining, as a worked example in terms of the block cipher.
use mathlib.Core.Bool.{true}
use mathlib.Core.List.{List, [], ◌∷◌, ◌++◌}
use mathlib.Core.Path.{◌≡◌, refl, ap, ap₂, ◌∙◌}
use Prim.Native.Nat.{ℕ}
use native.Mathlib.Omega.{arith}
use lib.ListN.{length, replicate}
use Rattle.octets.specs.Answers.{answer}
use Rattle.octets.specs.Bytes.{same, number, filled}
use Rattle.octets.specs.Cases.{span}
use Rattle.aes.specs.Block.{round_keys, encipher, decipher, encipher_length, decipher_length}
use Rattle.modes_spec.specs.declared.Direction.TheVariants.{Lock, Open}
use Rattle.modes_spec.specs.Modes.{xors, block_out, cbc_blocks, cbc}
use Rattle.modes_spec.proofs.Strings.{length-xors}
use Rattle.boxes.specs.Box.{bad_frame}
use Rattle.track_spec.specs.Track.{cbc1, known, allowed_protected, allowed_fields, allowed, fields_from, fields, bad_head, bad_fields, read_rows}
use Rattle.subsample_spec.specs.Auxiliary.{some, sum, map_rows, bad_size, entry_count, places, map_read, iv_read, auxiliary_rows}
use Rattle.scheme.specs.Layout.{scheme_of, pattern_of, in_whole_block, is_ciphered, tabulate, range_marks, marks, mask, chosen, replaced}
use Rattle.scheme.specs.WholeSample.{over, whole}
use Rattle.scheme.specs.Part.{protected_entries, entries_of, ciphered}
use Rattle.sample_spec.specs.Sample.{key_rows, key_in, parameters_of, key_of, map_of, iv_of, sample_rows, ciphered_by, sample_after, example_key, example_iv, example_inputs, added}

-- where all is marked, all is replaced
all_replaced : (ys xs : List ℕ) → length ys ≡ length xs → replaced (replicate (length xs) true) (ys ++ []) xs ≡ ys
unfolding replaced
all_replaced [] [] l = refl
all_replaced [] (x ∷ xs) l = absurd (omega arith)
all_replaced (y ∷ ys) [] l = absurd (omega arith)
all_replaced (y ∷ ys) (x ∷ xs) l = ap (λ (zs : List ℕ). y ∷ zs) (all_replaced ys xs (omega arith))

-- cbc1, one block: locked, it is the block and the IV added, then enciphered; opened, the block deciphered, and the IV added.
pub block_examples_hold : sample_after Lock (example_inputs cbc1) (span 1 16) ∷ sample_after Open (example_inputs cbc1) (span 1 16) ∷ []
    ≡ encipher (round_keys example_key) (added (span 1 16) example_iv) ∷ xors (decipher (round_keys example_key) (span 1 16)) example_iv ∷ []
unfolding sample_after sample_rows ciphered_by parameters_of key_of map_of iv_of key_rows key_in read_rows known same
    bad_frame number bad_head bad_fields allowed allowed_fields allowed_protected fields fields_from filled auxiliary_rows bad_size map_rows map_read
    entry_count places some sum iv_read answer ciphered entries_of protected_entries scheme_of pattern_of whole over mask marks range_marks tabulate
    is_ciphered in_whole_block chosen cbc cbc_blocks block_out xors
block_examples_hold =
    let ks = round_keys example_key in
    ap₂ (λ (xs ys : List ℕ). xs ∷ ys ∷ [])
    (all_replaced (encipher ks (added (span 1 16) example_iv)) (span 1 16) (encipher_length ks (added (span 1 16) example_iv)))
    (all_replaced (xors (decipher ks (span 1 16)) example_iv) (span 1 16)
    (length-xors (decipher ks (span 1 16)) example_iv ∙ decipher_length ks (span 1 16)))
