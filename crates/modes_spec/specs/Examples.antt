-- Block functions for worked examples: what comes out tells what went in.
use Rattle.std.specs.Prelude.{List, ℕ, ◌*◌, length, get_or, replicate}
use Rattle.octets.specs.Bytes.{list_of}
use Rattle.octets.specs.Cases.{span}
use Rattle.octets.specs.Xor.{◌⊕◌}

-- It tells the number of a key stream byte: from a zero counter block on, byte k of the key stream is k.
abbrev pub telling : List ℕ → List ℕ
telling b = span (get_or b 15 0 * 16) 16

-- It adds v to each byte.
abbrev pub adding : ℕ → List ℕ → List ℕ
adding v b = list_of (length b) (λ i. get_or b i 0 ⊕ v)

-- A block of one number. Where enciphering adds 32, deciphering 64, the IV is of 128 and the blocks are of 1, 2, 4 .., a block out is the
-- sum of what went into it.
abbrev pub block : ℕ → List ℕ
block v = replicate 16 v
