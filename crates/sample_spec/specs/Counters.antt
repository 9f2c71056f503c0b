-- Document 01, "Which bytes are ciphered, and how", of what a caller hands in for a sample: its entries, which of its bytes are
-- ciphered, and the counter blocks that they need under a counter scheme.
use Rattle.std.specs.Prelude.{Bool, List, ℕ}
use Rattle.subsample_spec.specs.declared.Entry.{Entry}
use Rattle.scheme.specs.Layout.{scheme_of, pattern_of, mask}
use Rattle.scheme.specs.Part.{entries_of}
use Rattle.scheme.specs.Counters.{blocks_needed, counter_blocks}
use Rattle.sample_spec.specs.Sample.{Inputs, parameters_of, map_of, iv_of}

module _ (i : Inputs) (n : ℕ) where
  -- The entries of a sample of n bytes.
  abbrev pub entries_for : List Entry
  entries_for = entries_of (parameters_of i) (map_of i) n

  -- For each of its bytes, whether it is ciphered.
  abbrev pub marked_for : List Bool
  marked_for = mask (scheme_of (parameters_of i).code) (pattern_of (parameters_of i)) entries_for

  -- How many blocks its ciphered bytes need, and the blocks.
  abbrev pub needed_for : ℕ
  needed_for = blocks_needed (scheme_of (parameters_of i).code) (pattern_of (parameters_of i)) entries_for

  abbrev pub blocks_for : List (List ℕ)
  blocks_for = counter_blocks (scheme_of (parameters_of i).code) (pattern_of (parameters_of i)) entries_for (iv_of i)
