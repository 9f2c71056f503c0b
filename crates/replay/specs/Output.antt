-- README.md, "The programs": the text that replay gathers of its answers.
use Rattle.std.specs.Prelude.{List, [], ◌++◌, ℕ, ◌+◌, cond, leb, length}
use Rattle.text.specs.Text.{hex_word}

-- A text with more behind it; as it was where there is no room for it.
unfoldable pub added : List ℕ → List ℕ → List ℕ
added text more = cond (leb (length text + length more) 1048576) (text ++ more) text

-- Bytes as a word, none where it is longer than a line.
unfoldable pub word : List ℕ → List ℕ
word s = cond (leb (length (hex_word s)) 262144) (hex_word s) []
