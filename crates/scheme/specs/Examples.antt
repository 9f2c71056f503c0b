-- Document 01, "Which bytes are ciphered, and how" and "Errors that look right", and document 02, Ask 2: small samples and what becomes
-- of them. Each tells one of the errors from what is right.
use Rattle.std.specs.Prelude.{List, [], ◌∷◌, ◌++◌, ℕ, ◌+◌, replicate}
use Rattle.octets.specs.Cases.{span}
use Rattle.modes_spec.specs.declared.Direction.{Direction}
use Rattle.modes_spec.specs.declared.Direction.TheVariants.{Lock, Open}
use Rattle.modes_spec.specs.Modes.{Cipher}
use Rattle.modes_spec.specs.Examples.{telling, adding, block}
use Rattle.subsample_spec.specs.declared.Entry.{Entry}
use Rattle.subsample_spec.specs.Auxiliary.{entry}
use Rattle.scheme.specs.declared.Pattern.{Pattern}
use Rattle.scheme.specs.declared.Scheme.{Scheme}
use Rattle.scheme.specs.declared.Scheme.TheVariants.{Cenc, Cbc1, Cens, Cbcs}

-- A sample, and what locking or opening makes of it.
pub record Example : Type 0 where
  pub E : Cipher
  pub D : Cipher
  pub iv : List ℕ
  pub direction : Direction
  pub scheme : Scheme
  pub pattern : Pattern
  pub entries : List Entry
  pub sample : List ℕ
  pub result : List ℕ

abbrev pub crypt_skip : ℕ → ℕ → Pattern
crypt_skip crypt skip = record { crypt = crypt; skip = skip }

-- Of a counter scheme: the number of each key stream byte appears where it falls on a zero byte.
abbrev counted : Scheme → Pattern → List Entry → List ℕ → List ℕ → Example
counted s p es xs ys =
    record {
      E = telling;
      D = telling;
      iv = block 0;
      direction = Lock;
      scheme = s;
      pattern = p;
      entries = es;
      sample = xs;
      result = ys;
    }

-- Of a chain scheme: a block becomes the sum of what went into it.
abbrev chained : Direction → Scheme → Pattern → List Entry → List ℕ → List ℕ → Example
chained d s p es xs ys =
    record {
      E = adding 32;
      D = adding 64;
      iv = block 128;
      direction = d;
      scheme = s;
      pattern = p;
      entries = es;
      sample = xs;
      result = ys;
    }

-- ---- Counter schemes.

unfoldable pub counter_examples : List Example
counter_examples =
    -- cenc: the key stream continues across entries, also in mid-block, with no fresh counter block.
    counted Cenc (crypt_skip 0 0) (entry 0 10 ∷ entry 4 10 ∷ []) (replicate 24 0) (span 0 10 ++ (replicate 4 0 ++ span 10 10))
    -- cens: a last part shorter than 16 stays clear, and is not padded.
    ∷ counted Cens (crypt_skip 2 1) (entry 0 24 ∷ []) (replicate 24 0) (span 0 16 ++ replicate 8 0)
    -- The pattern starts anew in each range, and the counter goes on.
    ∷ counted Cens (crypt_skip 1 1) (entry 0 16 ∷ entry 0 32 ∷ []) (replicate 48 0) (span 0 32 ++ replicate 16 0) ∷ []

-- ---- Chain schemes.

unfoldable pub cbc1_examples : List Example
cbc1_examples =
    -- The chain continues across entries.
    chained Lock Cbc1 (crypt_skip 0 0) (entry 0 16 ∷ entry 4 16 ∷ []) (block 1 ++ (replicate 4 7 ++ block 2))
    (block (1 + 128 + 32) ++ (replicate 4 7 ++ block (2 + 1 + 128)))
    -- A remainder stays clear.
    ∷ chained Lock Cbc1 (crypt_skip 0 0) (entry 0 20 ∷ []) (block 1 ++ replicate 4 7) (block (1 + 128 + 32) ++ replicate 4 7) ∷ []

unfoldable pub cbcs_examples : List Example
cbcs_examples =
    -- Chain and pattern start anew in each range.
    chained Lock Cbcs (crypt_skip 1 1) (entry 0 16 ∷ entry 4 16 ∷ []) (block 1 ++ (replicate 4 7 ++ block 2))
    (block (1 + 128 + 32) ++ (replicate 4 7 ++ block (2 + 128 + 32)))
    -- The chain passes over skipped blocks, and a last part stays clear.
    ∷ chained Lock Cbcs (crypt_skip 1 1) (entry 0 52 ∷ []) (block 1 ++ (block 2 ++ (block 4 ++ replicate 4 7)))
    (block (1 + 128 + 32) ++ (block 2 ++ (block (4 + 1 + 128) ++ replicate 4 7)))
    ∷ chained Open Cbcs (crypt_skip 1 1) (entry 0 52 ∷ []) (block 1 ++ (block 2 ++ (block 4 ++ replicate 4 7)))
    (block (1 + 64 + 128) ++ (block 2 ++ (block (4 + 64 + 1) ++ replicate 4 7))) ∷ []

-- ---- 0:0: every whole block of a range, and nothing of a last part.

unfoldable pub whole_block_examples : List Example
whole_block_examples =
    -- cens: the counter goes on with the next range's first block.
    counted Cens (crypt_skip 0 0) (entry 0 20 ∷ entry 4 16 ∷ []) (replicate 40 0) (span 0 16 ++ (replicate 8 0 ++ span 16 16))
    -- cbcs: a chain through all blocks.
    ∷ chained Lock Cbcs (crypt_skip 0 0) (entry 0 36 ∷ []) (block 1 ++ (block 2 ++ replicate 4 7))
    (block (1 + 128 + 32) ++ (block (2 + 1 + 128) ++ replicate 4 7))
    ∷ chained Open Cbcs (crypt_skip 0 0) (entry 0 36 ∷ []) (block 1 ++ (block 2 ++ replicate 4 7))
    (block (1 + 64 + 128) ++ (block (2 + 64 + 1) ++ replicate 4 7)) ∷ []

-- ---- What a definition makes of them, and what it should.

unfoldable pub made_by : (Example → List ℕ) → List Example → List (List ℕ)
made_by f [] = []
made_by f (e ∷ es) = f e ∷ made_by f es

abbrev pub results : List Example → List (List ℕ)
results es = made_by (λ (e : Example). e.result) es
