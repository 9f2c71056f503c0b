-- Document 01, "Which bytes are ciphered, and how": "No counter block occurs twice in one sample".
use Rattle.std.specs.Prelude.{List, [], ℕ, ◌+◌, ◌/◌, ◌%◌, get_or}
use Rattle.octets.specs.Bytes.{list_of}
use Rattle.modes_spec.specs.Modes.{Cipher, counter_at}
use Rattle.subsample_spec.specs.declared.Entry.{Entry}
use Rattle.scheme.specs.declared.Pattern.{Pattern}
use Rattle.scheme.specs.declared.Scheme.{Scheme}
use Rattle.scheme.specs.Layout.{mask, count}

-- Byte j of the key stream that a list of counter blocks gives: block j / 16, enciphered, has it.
unfoldable pub key_stream_byte : Cipher → List (List ℕ) → ℕ → ℕ
key_stream_byte E blocks j = get_or (E (get_or blocks (j / 16) [])) (j % 16) 0

module _ (s : Scheme) (pattern : Pattern) (es : List Entry) where
  -- How many counter blocks the ciphered bytes of a sample need, 16 bytes to a block.
  unfoldable pub blocks_needed : ℕ
  blocks_needed = (count (mask s pattern es) + 15) / 16

  -- They are these, from the IV on.
  unfoldable pub counter_blocks : List ℕ → List (List ℕ)
  counter_blocks iv = list_of blocks_needed (counter_at iv)
