-- Of every accepted sample: its key stream comes from the counter blocks listed for it, and none of them occurs twice.
use mathlib.Core.Bool.{true, false}
use mathlib.Core.List.{List, []}
use mathlib.Core.Path.{◌≡◌, sym, ◌∙◌}
use Prim.Native.Nat.{ℕ, ◌+◌, ◌/◌, ◌≤◌, ◌<◌}
use native.Mathlib.Omega.{arith}
use lib.ListN.{length, get_or, take}
use Rattle.octets.specs.Answers.{answer}
use Rattle.octets.specs.Xor.{◌⊕◌}
use Rattle.aes.specs.Block.{round_keys, encipher, decipher}
use Rattle.modes_spec.specs.declared.Direction.{Direction}
use Rattle.modes_spec.specs.Modes.{counter_at}
use Rattle.scheme.specs.declared.Mode.TheVariants.{Counter}
use Rattle.scheme.specs.declared.Pattern.{Pattern}
use Rattle.scheme.specs.declared.Scheme.{Scheme}
use Rattle.scheme.specs.Layout.{scheme_of, pattern_of, total, count}
use Rattle.scheme.specs.Machine.{mode_of}
use Rattle.scheme.specs.Part.{ciphered}
use Rattle.scheme.specs.Counters.{blocks_needed, key_stream_byte}
use Rattle.scheme.proofs.Counters as counters
use Rattle.sample_spec.specs.Sample.{Inputs, parameters_of, key_of, iv_of, sample_rows, ciphered_by, sample_after}
use Rattle.sample_spec.specs.Counters.{entries_for, marked_for, needed_for, blocks_for}
use Rattle.sample_spec.proofs.Accepted.{iv_length_lem, length-allowed, accepted-length}

module _ (i : Inputs) (n : ℕ) (h : answer (sample_rows i n) ≡ 0) where
  abbrev scheme : Scheme
  scheme = scheme_of (parameters_of i).code

  abbrev pattern : Pattern
  pattern = pattern_of (parameters_of i)

  fits : total (entries_for i n) ≤ 16777216
  fits = omega (arith, accepted-length i n h, length-allowed i n h)

  pub blocks_fit : needed_for i n ≤ 1048576
  blocks_fit = counters.blocks_fit scheme pattern (entries_for i n) fits

  -- it needs at most as many as its length by 16, rounded up
  pub blocks_by_length : needed_for i n ≤ (n + 15) / 16
  unfolding blocks_needed
  blocks_by_length = omega (arith, counters.count-total scheme pattern (entries_for i n), accepted-length i n h)

  module _ (j k : ℕ) (hj : j < needed_for i n) (hk : k < needed_for i n) where
    pub no_block_twice : counter_at (iv_of i) j ≡ counter_at (iv_of i) k → j ≡ k
    no_block_twice =
        counters.no_block_twice scheme pattern (entries_for i n) fits (iv_of i) (omega (arith, iv_length_lem i)) j k hj hk

    -- the same of the list of them
    pub no_block_listed_twice : get_or (blocks_for i n) j [] ≡ get_or (blocks_for i n) k [] → j ≡ k
    no_block_listed_twice =
        counters.no_block_listed_twice scheme pattern (entries_for i n) fits (iv_of i) (omega (arith, iv_length_lem i)) j k hj hk

  -- In a counter scheme a ciphered byte, the j-th, is added to byte j of the key stream that the blocks listed give.
  pub key_stream_listed : mode_of (scheme_of (parameters_of i).code) ≡ Counter → (d : Direction) (xs : List ℕ) → length xs ≡ n → (x : ℕ)
      → get_or (marked_for i n) x false ≡ true
      → get_or (sample_after d i xs) x 0
      ≡ get_or xs x 0 ⊕ key_stream_byte (encipher (round_keys (key_of i))) (blocks_for i n) (count (take x (marked_for i n)))
  unfolding sample_after ciphered_by ciphered
  key_stream_listed k d xs l x m =
      rw (l, h)
      (counters.key_stream_listed (encipher (round_keys (key_of i))) (decipher (round_keys (key_of i))) (iv_of i) pattern (entries_for i n) d xs
      (l ∙ sym (accepted-length i n h)) x scheme k m)
