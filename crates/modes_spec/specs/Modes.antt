-- NIST SP 800-38A, sections 6.5 and 6.2: the counter mode, with the 64-bit counter of ISO/IEC 23001-7, 9.3, and cipher block
-- chaining; both over any block function.
use Rattle.std.specs.Prelude.{List, [], ◌∷◌, ◌++◌, ◌≡◌, refl, ℕ, zero, suc, ◌+◌, ◌/◌, ◌%◌, ◌^◌, length, get_or, take, drop, replicate}
use Rattle.octets.specs.Bytes.{number, digits}
use Rattle.octets.specs.Cases.{Case, is, all_made, all_said, Hold, span}
use Rattle.octets.specs.Xor.{◌⊕◌}
use Rattle.modes_spec.specs.declared.Direction.{Direction}
use Rattle.modes_spec.specs.declared.Direction.TheVariants.{Lock, Open}
use Rattle.modes_spec.specs.Examples.{telling, adding, block}

-- A block cipher under one key: a block in, a block out.
abbrev pub Cipher : Type 0
Cipher = List ℕ → List ℕ

-- It takes 16 bytes to 16 bytes.
abbrev pub Sized : Cipher → Type 0
Sized E = (b : List ℕ) → length b ≡ 16 → length (E b) ≡ 16

-- The exclusive or of two strings, as long as the second reaches.
unfoldable pub xors : List ℕ → List ℕ → List ℕ
xors [] ys = []
xors (x ∷ xs) [] = x ∷ xs
xors (x ∷ xs) (y ∷ ys) = x ⊕ y ∷ xors xs ys

-- ---- The counter mode.

-- The counter block n steps after iv: bytes 8 to 15 count modulo 2^64, and bytes 0 to 7 stay.
unfoldable pub counter_at : List ℕ → ℕ → List ℕ
counter_at iv n = take 8 iv ++ digits 8 ((number 8 iv 8 + n) % 2 ^ 64)

-- Byte k of the key stream.
unfoldable pub stream_byte : Cipher → List ℕ → ℕ → ℕ
stream_byte E iv k = get_or (E (counter_at iv (k / 16))) (k % 16) 0

-- A string from byte k of the key stream on.
unfoldable pub ctr : Cipher → List ℕ → ℕ → List ℕ → List ℕ
ctr E iv k [] = []
ctr E iv k (x ∷ xs) = x ⊕ stream_byte E iv k ∷ ctr E iv (suc k) xs

-- ---- Cipher block chaining.

module _ (E D : Cipher) where
  -- What a block becomes.
  unfoldable pub block_out : Direction → List ℕ → List ℕ → List ℕ
  block_out Lock chain b = E (xors b chain)
  block_out Open chain b = xors (D b) chain

  -- Its cipher text, to which the next block is chained.
  unfoldable pub block_chain : Direction → List ℕ → List ℕ → List ℕ
  block_chain Lock chain b = E (xors b chain)
  block_chain Open chain b = b

module _ (E D : Cipher) (d : Direction) where
  -- The first n blocks.
  unfoldable pub cbc_blocks : ℕ → List ℕ → List ℕ → List ℕ
  cbc_blocks zero chain xs = xs
  cbc_blocks (suc n) chain xs =
      block_out E D d chain (take 16 xs) ++ cbc_blocks n (block_chain E D d chain (take 16 xs)) (drop 16 xs)

  -- Every whole block; a rest shorter than a block stays.
  unfoldable pub cbc : List ℕ → List ℕ → List ℕ
  cbc chain xs = cbc_blocks (length xs / 16) chain xs

  -- The chain after n blocks, and after every whole block.
  unfoldable pub chain_blocks : ℕ → List ℕ → List ℕ → List ℕ
  chain_blocks zero chain xs = chain
  chain_blocks (suc n) chain xs = chain_blocks n (block_chain E D d chain (take 16 xs)) (drop 16 xs)

  unfoldable pub chain_end : List ℕ → List ℕ → List ℕ
  chain_end chain xs = chain_blocks (length xs / 16) chain xs

-- ---- Worked examples.

-- Two blocks, and a rest of 4 bytes.
abbrev blocks_and_rest : List ℕ → List ℕ → List ℕ
blocks_and_rest a b = a ++ (b ++ replicate 4 7)

pub examples : List Case
examples =
    -- Bytes 8 to 15 are a 64-bit number; after its largest value comes zero, and bytes 0 to 7 don't change.
    is (counter_at (span 1 8 ++ replicate 8 0xff) 1) (span 1 8 ++ replicate 8 0)
    ∷ is (counter_at (span 1 8 ++ (replicate 7 0 ++ (0xff ∷ []))) 1) (span 1 8 ++ (replicate 6 0 ++ (1 ∷ 0 ∷ [])))
    -- The key stream, from its byte 10 on.
    ∷ is (ctr telling (block 0) 10 (replicate 10 0)) (span 10 10)
    -- A block takes the cipher text of the one before it, at first the IV; a rest stays.
    ∷ is (cbc (adding 32) (adding 64) Lock (block 128) (blocks_and_rest (block 1) (block 2)))
    (blocks_and_rest (block (1 + 128 + 32)) (block (2 + 1 + 128)))
    ∷ is (cbc (adding 32) (adding 64) Open (block 128) (blocks_and_rest (block 1) (block 2)))
    (blocks_and_rest (block (1 + 64 + 128)) (block (2 + 64 + 1)))
    -- The chain after them is the last cipher text.
    ∷ is (chain_end (adding 32) (adding 64) Lock (block 128) (blocks_and_rest (block 1) (block 2))) (block (2 + 1 + 128))
    ∷ is (chain_end (adding 32) (adding 64) Open (block 128) (blocks_and_rest (block 1) (block 2))) (block 2) ∷ []

pub examples_hold : Hold examples
unfolding examples all_made all_said counter_at number digits ctr stream_byte xors ◌⊕◌ cbc cbc_blocks block_out block_chain chain_end chain_blocks
examples_hold = refl
