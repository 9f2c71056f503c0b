-- Two byte strings taken as one (document 01, "Pieces": the held bytes, and a piece after them).
use Rattle.std.specs.Prelude.{List, ◌++◌, ℕ, ◌+◌, length, take, drop}

-- An output after both were copied to its front, one after the other, as far as there is room; the rest is as it was.
unfoldable pub joined_into : List ℕ → List ℕ → List ℕ → List ℕ
joined_into a b out = take (length out) ((a ++ b) ++ drop (length a + length b) out)
