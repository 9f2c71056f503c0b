-- FIPS 197, section 3: bytes, words of four bytes, and the state, whose four columns are words.
use Rattle.std.specs.Prelude.{List, [], ◌∷◌, ℕ, ◌+◌, ◌*◌, ◌/◌, ◌%◌, ◌<◌, get_or}
use Rattle.octets.specs.Bytes.{list_of}

abbrev pub Word : Type 0
Word = List ℕ

abbrev pub State : Type 0
State = List Word

-- Byte r of a word.
abbrev pub byte : Word → ℕ → ℕ
byte w r = get_or w r 0

-- Column c of a state.
abbrev pub column : State → ℕ → Word
column s c = get_or s c []

-- The byte s[r, c].
abbrev pub cell : State → ℕ → ℕ → ℕ
cell s r c = byte (column s c) r

abbrev pub four : {A : Type 0} → (ℕ → A) → List A
four f = list_of 4 f

-- 3.4: s[r, c] = in[r + 4c].
abbrev pub load : List ℕ → State
load b = four (λ c. four (λ r. get_or b (r + 4 * c) 0))

-- 3.4: out[r + 4c] = s[r, c].
abbrev pub store : State → List ℕ
store s = list_of 16 (λ i. cell s (i % 4) (i / 4))

-- Four bytes, each below 256; four such words.
pub data IsWord : Word → Type 0 where
  word : {a b c d : ℕ} → a < 256 → b < 256 → c < 256 → d < 256 → IsWord (a ∷ b ∷ c ∷ d ∷ [])

pub data IsState : State → Type 0 where
  state : {a b c d : Word} → IsWord a → IsWord b → IsWord c → IsWord d → IsState (a ∷ b ∷ c ∷ d ∷ [])
