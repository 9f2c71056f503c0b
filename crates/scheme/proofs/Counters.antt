-- The counter blocks listed for a sample are those that its key stream comes from, and none of them occurs twice.
use mathlib.Core.Bool.{Bool, true, false}
use mathlib.Core.List.{List, [], ◌∷◌}
use mathlib.Core.Path.{◌≡◌, ap, sym, ◌∙◌}
use Prim.Native.Nat.{ℕ, zero, suc, ◌+◌, ◌/◌, ◌≤◌, ◌<◌}
use native.Mathlib.Nat.{zero-add}
use native.Mathlib.Omega.{arith}
use lib.ListN.{length, get_or, take}
use Rattle.octets.specs.Xor.{◌⊕◌}
use Rattle.octets.proofs.Bytes.{get_d_list_of}
use Rattle.modes_spec.specs.declared.Direction.{Direction}
use Rattle.modes_spec.specs.Modes.{Cipher, counter_at, stream_byte, ctr}
use Rattle.modes_spec.proofs.Counter.{distinct}
use Rattle.subsample_spec.specs.declared.Entry.{Entry}
use Rattle.scheme.specs.declared.Mode.TheVariants.{Counter}
use Rattle.scheme.specs.declared.Pattern.{Pattern}
use Rattle.scheme.specs.declared.Scheme.{Scheme}
use Rattle.scheme.specs.declared.Scheme.TheVariants.{Cenc, Cbc1, Cens, Cbcs}
use Rattle.scheme.specs.Layout.{total, mask, count, chosen, replaced}
use Rattle.scheme.specs.WholeSample.{over, whole}
use Rattle.scheme.specs.Machine.{mode_of}
use Rattle.scheme.specs.Counters.{blocks_needed, counter_blocks, key_stream_byte}
use Rattle.scheme.proofs.Agreement.{length-mask}

count-length : (ms : List Bool) → count ms ≤ length ms
unfolding count
count-length [] = omega arith
count-length (true ∷ ms) = omega (arith, count-length ms)
count-length (false ∷ ms) = omega (arith, count-length ms)

marked_within : (ms : List Bool) (x : ℕ) → get_or ms x false ≡ true → x < length ms
marked_within [] x h = let z : ◌≡◌ {A = ℕ} 0 1 = cc in absurd (omega arith)
marked_within (m ∷ ms) zero h = omega arith
marked_within (m ∷ ms) (suc x) h = omega (arith, marked_within ms x h)

-- fewer places are marked before a marked one than in all
marked_before : (ms : List Bool) (x : ℕ) → get_or ms x false ≡ true → count (take x ms) < count ms
unfolding count
marked_before [] x h = let z : ◌≡◌ {A = ℕ} 0 1 = cc in omega arith
marked_before (true ∷ ms) zero h = omega arith
marked_before (false ∷ ms) zero h = let z : ◌≡◌ {A = ℕ} 0 1 = cc in omega arith
marked_before (true ∷ ms) (suc x) h = omega (arith, marked_before ms x h)
marked_before (false ∷ ms) (suc x) h = marked_before ms x h

-- counter mode over marked bytes, from byte r of the key stream on: a marked byte takes the next one
ctr_marked : (E : Cipher) (iv : List ℕ) (ms : List Bool) (xs : List ℕ) (r x : ℕ) → x < length xs → get_or ms x false ≡ true
    → get_or (over (ctr E iv r) ms xs) x 0 ≡ get_or xs x 0 ⊕ stream_byte E iv (r + count (take x ms))
unfolding over chosen replaced ctr count
ctr_marked E iv [] xs r x l h = let z : ◌≡◌ {A = ℕ} 0 1 = cc in absurd (omega arith)
ctr_marked E iv (m ∷ ms) [] r x l h = absurd (omega arith)
ctr_marked E iv (true ∷ ms) (b ∷ xs) r zero l h = let e : r + 0 ≡ r = omega arith in rw e
ctr_marked E iv (false ∷ ms) (b ∷ xs) r zero l h = let z : ◌≡◌ {A = ℕ} 0 1 = cc in absurd (omega arith)
ctr_marked E iv (true ∷ ms) (b ∷ xs) r (suc x) l h =
    let e : r + suc (count (take x ms)) ≡ suc r + count (take x ms) = omega arith in
    rw e (ctr_marked E iv ms xs (suc r) x (omega arith) h)
ctr_marked E iv (false ∷ ms) (b ∷ xs) r (suc x) l h = ctr_marked E iv ms xs r x (omega arith) h

module _ (s : Scheme) (pattern : Pattern) (es : List Entry) where
  pub count-total : count (mask s pattern es) ≤ total es
  count-total = omega (arith, count-length (mask s pattern es), length-mask s pattern es)

  -- ciphered byte j takes its key stream from block j / 16 of those listed
  stream_listed : (E : Cipher) (iv : List ℕ) (j : ℕ) → j < count (mask s pattern es)
      → stream_byte E iv j ≡ key_stream_byte E (counter_blocks s pattern es iv) j
  unfolding stream_byte counter_blocks key_stream_byte blocks_needed
  stream_listed E iv j h =
      rw (get_d_list_of ((count (mask s pattern es) + 15) / 16) (counter_at iv) [] (j / 16) (omega arith))

  module _ (l : total es ≤ 16777216) where
    pub blocks_fit : blocks_needed s pattern es ≤ 1048576
    unfolding blocks_needed
    blocks_fit = omega (arith, count-total)

    module _ (iv : List ℕ) (w : 8 ≤ length iv) (i j : ℕ) (hi : i < blocks_needed s pattern es)
        (hj : j < blocks_needed s pattern es) where
      pub no_block_twice : counter_at iv i ≡ counter_at iv j → i ≡ j
      no_block_twice = distinct iv w i j (omega (arith, blocks_fit)) (omega (arith, blocks_fit))

      pub no_block_listed_twice : get_or (counter_blocks s pattern es iv) i [] ≡ get_or (counter_blocks s pattern es iv) j []
          → i ≡ j
      unfolding counter_blocks
      no_block_listed_twice e =
          no_block_twice
          (sym (get_d_list_of (blocks_needed s pattern es) (counter_at iv) [] i hi) ∙ e
          ∙ get_d_list_of (blocks_needed s pattern es) (counter_at iv) [] j hj)

-- A ciphered byte of a counter scheme takes its key stream from the blocks listed: the byte at place x, the j-th that is ciphered,
-- byte j.
module _ (E D : Cipher) (iv : List ℕ) (pattern : Pattern) (es : List Entry) (d : Direction) (xs : List ℕ)
    (l : length xs ≡ total es) (x : ℕ) where
  over_listed : (s : Scheme) → get_or (mask s pattern es) x false ≡ true
      → get_or (over (ctr E iv 0) (mask s pattern es) xs) x 0
      ≡ get_or xs x 0 ⊕ key_stream_byte E (counter_blocks s pattern es iv) (count (take x (mask s pattern es)))
  over_listed s h =
      let j : ℕ = count (take x (mask s pattern es)) in
      ctr_marked E iv (mask s pattern es) xs 0 x (omega (arith, marked_within (mask s pattern es) x h, length-mask s pattern es)) h
      ∙ ap (λ (k : ℕ). get_or xs x 0 ⊕ k)
      (ap (stream_byte E iv) (zero-add j) ∙ stream_listed s pattern es E iv j (marked_before (mask s pattern es) x h))

  pub key_stream_listed : (s : Scheme) → mode_of s ≡ Counter → get_or (mask s pattern es) x false ≡ true
      → get_or (whole E D iv pattern es d s xs) x 0
      ≡ get_or xs x 0 ⊕ key_stream_byte E (counter_blocks s pattern es iv) (count (take x (mask s pattern es)))
  unfolding whole mode_of
  key_stream_listed Cenc k h = over_listed Cenc h
  key_stream_listed Cbc1 k h = let z : ◌≡◌ {A = ℕ} 0 1 = cc in absurd (omega arith)
  key_stream_listed Cens k h = over_listed Cens h
  key_stream_listed Cbcs k h = let z : ◌≡◌ {A = ℕ} 0 1 = cc in absurd (omega arith)
