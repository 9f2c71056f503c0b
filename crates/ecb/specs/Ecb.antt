-- NIST SP 800-38A, section 6.1: the electronic codebook mode.
use Rattle.std.specs.Prelude.{Bool, cond, List, ◌++◌, ℕ, zero, suc, ◌/◌, length, take, drop}
use Rattle.aes.specs.Block.{encipher, decipher}

-- The block function of a direction.
abbrev pub block_function : Bool → List (List (List ℕ)) → List ℕ → List ℕ
block_function inverse keys b = cond inverse (decipher keys b) (encipher keys b)

-- The first n blocks, each by itself.
unfoldable pub blocks : (List ℕ → List ℕ) → ℕ → List ℕ → List ℕ
blocks f zero s = s
blocks f (suc n) s = f (take 16 s) ++ blocks f n (drop 16 s)

-- Every whole block; a rest shorter than a block stays.
unfoldable pub ecb : (List ℕ → List ℕ) → List ℕ → List ℕ
ecb f s = blocks f (length s / 16) s
