-- Demand 2: a whole sample, locked and opened, by scheme, pattern and entries (document 01, "Which bytes are ciphered, and how").
use Rattle.std.specs.Prelude.{Bool, List, [], ◌∷◌, ◌++◌, ◌≡◌, refl, ℕ, ◌+◌, take, drop}
use Rattle.octets.specs.Bytes.{number, digits}
use Rattle.octets.specs.Xor.{◌⊕◌}
use Rattle.modes_spec.specs.declared.Direction.{Direction}
use Rattle.modes_spec.specs.Modes.{Cipher, xors, counter_at, stream_byte, ctr, block_out, block_chain, cbc_blocks, cbc}
use Rattle.subsample_spec.specs.declared.Entry.{Entry}
use Rattle.scheme.specs.declared.Pattern.{Pattern}
use Rattle.scheme.specs.declared.Scheme.{Scheme}
use Rattle.scheme.specs.declared.Scheme.TheVariants.{Cenc, Cbc1, Cens, Cbcs}
use Rattle.scheme.specs.Layout.{in_whole_block, in_crypt_run, is_ciphered, tabulate, range_marks, marks, mask, chosen, replaced}
use Rattle.scheme.specs.Examples.{Example, counter_examples, cbc1_examples, cbcs_examples, whole_block_examples, made_by, results}

-- f over the marked bytes, taken as one run; every other byte stays.
unfoldable pub over : (List ℕ → List ℕ) → List Bool → List ℕ → List ℕ
over f m xs = replaced m (f (chosen m xs)) xs

-- f over the marked bytes of each protected range by itself.
unfoldable pub over_each : (List ℕ → List ℕ) → Scheme → Pattern → List Entry → List ℕ → List ℕ
over_each f s pattern [] xs = xs
over_each f s pattern (e ∷ es) xs =
    take e.clear xs
    ++ (over f (range_marks (is_ciphered s pattern) e.protected) (take e.protected (drop e.clear xs))
    ++ over_each f s pattern es (drop (e.clear + e.protected) xs))

-- One key stream, or one chain, over the whole sample; in cbcs a chain from the constant IV in each range.
module _ (E D : Cipher) (iv : List ℕ) (pattern : Pattern) (es : List Entry) where
  unfoldable pub whole : Direction → Scheme → List ℕ → List ℕ
  whole d Cenc xs = over (ctr E iv 0) (mask Cenc pattern es) xs
  whole d Cbc1 xs = over (cbc E D d iv) (mask Cbc1 pattern es) xs
  whole d Cens xs = over (ctr E iv 0) (mask Cens pattern es) xs
  whole d Cbcs xs = over_each (cbc E D d iv) Cbcs pattern es xs

-- ---- The worked examples.

abbrev pub wholly : Example → List ℕ
wholly e = whole e.E e.D e.iv e.pattern e.entries e.direction e.scheme e.sample

pub counter_examples_hold : made_by wholly counter_examples ≡ results counter_examples
unfolding counter_examples made_by whole over mask marks range_marks tabulate is_ciphered in_whole_block in_crypt_run chosen replaced ctr stream_byte
    counter_at number digits ◌⊕◌
counter_examples_hold = refl

pub cbc1_examples_hold : made_by wholly cbc1_examples ≡ results cbc1_examples
unfolding cbc1_examples made_by whole over mask marks range_marks tabulate is_ciphered in_whole_block chosen replaced cbc cbc_blocks block_out
    block_chain xors ◌⊕◌
cbc1_examples_hold = refl

pub cbcs_examples_hold : made_by wholly cbcs_examples ≡ results cbcs_examples
unfolding cbcs_examples made_by whole over over_each mask marks range_marks tabulate is_ciphered in_whole_block in_crypt_run chosen replaced cbc cbc_blocks
    block_out block_chain xors ◌⊕◌
cbcs_examples_hold = refl

pub whole_block_examples_hold : made_by wholly whole_block_examples ≡ results whole_block_examples
unfolding whole_block_examples made_by whole over over_each mask marks range_marks tabulate is_ciphered in_whole_block in_crypt_run chosen replaced ctr
    stream_byte counter_at number digits cbc cbc_blocks block_out block_chain xors ◌⊕◌
whole_block_examples_hold = refl
