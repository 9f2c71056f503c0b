-- Document 01, "Which bytes are ciphered, and how", and document 02, Ask 2: for each byte of a sample, whether it is ciphered.
use Rattle.std.specs.Prelude.{Bool, true, false, cond, ◌&&◌, List, [], ◌∷◌, ◌++◌, ℕ, zero, suc, ◌+◌, ◌/◌, ◌%◌, ltb, eqb, replicate}
use Rattle.octets.specs.Bytes.{same}
use Rattle.track_spec.specs.Track.{cbc1, cens, cbcs, no_pattern}
use Rattle.track_spec.specs.declared.Parameters.{Parameters}
use Rattle.subsample_spec.specs.declared.Entry.{Entry}
use Rattle.scheme.specs.declared.Pattern.{Pattern}
use Rattle.scheme.specs.declared.Scheme.{Scheme}
use Rattle.scheme.specs.declared.Scheme.TheVariants.{Cenc, Cbc1, Cens, Cbcs}

-- The scheme that a code names; cenc for a code that names none.
unfoldable pub scheme_of : List ℕ → Scheme
scheme_of code = cond (same code cbc1) Cbc1 (cond (same code cens) Cens (cond (same code cbcs) Cbcs Cenc))

-- The pattern of a track, as its parameters have it.
unfoldable pub pattern_of : Parameters → Pattern
pattern_of p = record { crypt = p.crypt; skip = p.skip }

-- The blocks after which a pattern begins anew.
abbrev pub period : Pattern → ℕ
period pattern = pattern.crypt + pattern.skip

-- ---- A protected range of n bytes.

-- The byte at offset o lies in a whole block.
unfoldable pub in_whole_block : ℕ → ℕ → Bool
in_whole_block n o = ltb (o / 16) (n / 16)

-- Block k is one of the crypt blocks that each crypt + skip blocks begin with. "0:0 ciphers every whole block of a range" (document
-- 02, Ask 2): it has no period, and each block is one of them.
abbrev pub is_crypt_block : Pattern → ℕ → Bool
is_crypt_block pattern k = cond (no_pattern pattern.crypt pattern.skip) true (ltb (k % period pattern) pattern.crypt)

-- The block at offset o is one of them.
unfoldable pub in_crypt_run : Pattern → ℕ → Bool
in_crypt_run pattern o = is_crypt_block pattern (o / 16)

-- The byte at offset o is ciphered.
unfoldable pub is_ciphered : Scheme → Pattern → ℕ → ℕ → Bool
is_ciphered Cenc pattern n o = true
is_ciphered Cbc1 pattern n o = in_whole_block n o
is_ciphered Cens pattern n o = in_whole_block n o && in_crypt_run pattern o
is_ciphered Cbcs pattern n o = in_whole_block n o && in_crypt_run pattern o

-- The byte at offset o lies in a block whose chain starts anew: in cbcs the range's first.
unfoldable pub restarts : Scheme → ℕ → ℕ → Bool
restarts Cenc n o = false
restarts Cbc1 n o = false
restarts Cens n o = false
restarts Cbcs n o = eqb (o / 16) 0

-- ---- A sample.

-- How many bytes the entries call for.
unfoldable pub total : List Entry → ℕ
total [] = 0
total (e ∷ es) = e.clear + (e.protected + total es)

-- f at o, o + 1, .., k of them.
unfoldable pub tabulate : (ℕ → Bool) → ℕ → ℕ → List Bool
tabulate f o zero = []
tabulate f o (suc k) = f o ∷ tabulate f (suc o) k

-- f n o for each byte of a protected range of n bytes, o its offset.
unfoldable pub range_marks : (ℕ → ℕ → Bool) → ℕ → List Bool
range_marks f n = tabulate (f n) 0 n

-- For each byte of the sample: no for a clear one, and what f says for a protected one.
unfoldable pub marks : (ℕ → ℕ → Bool) → List Entry → List Bool
marks f [] = []
marks f (e ∷ es) = replicate e.clear false ++ (range_marks f e.protected ++ marks f es)

-- For each byte of the sample, whether it is ciphered.
unfoldable pub mask : Scheme → Pattern → List Entry → List Bool
mask s pattern es = marks (is_ciphered s pattern) es

-- For each byte of the sample, whether the chain of its block starts anew.
unfoldable pub restart_mask : Scheme → List Entry → List Bool
restart_mask s es = marks (restarts s) es

-- How many places are marked.
unfoldable pub count : List Bool → ℕ
count [] = 0
count (true ∷ ms) = suc (count ms)
count (false ∷ ms) = count ms

-- The bytes at the marked places, in order.
unfoldable pub chosen : List Bool → List ℕ → List ℕ
chosen [] xs = []
chosen (m ∷ ms) [] = []
chosen (true ∷ ms) (x ∷ xs) = x ∷ chosen ms xs
chosen (false ∷ ms) (x ∷ xs) = chosen ms xs

-- xs with the marked places filled from ys, in order.
unfoldable pub replaced : List Bool → List ℕ → List ℕ → List ℕ
replaced [] ys xs = xs
replaced (m ∷ ms) ys [] = []
replaced (true ∷ ms) [] (x ∷ xs) = x ∷ xs
replaced (true ∷ ms) (y ∷ ys) (x ∷ xs) = y ∷ replaced ms ys xs
replaced (false ∷ ms) ys (x ∷ xs) = x ∷ replaced ms ys xs
