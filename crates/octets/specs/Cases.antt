-- Cases as a document gives them: what the definitions make of some input, and what the document says of it, as lists of numbers.
use Rattle.std.specs.Prelude.{List, [], ◌∷◌, ◌≡◌, ℕ, ◌+◌}
use Rattle.octets.specs.Bytes.{list_of}

pub record Case : Type 0 where
  pub made : List ℕ
  pub said : List ℕ

abbrev pub is : List ℕ → List ℕ → Case
is made said = record { made = made; said = said }

-- What is made in each case of a list, and what is said.
unfoldable pub all_made : List Case → List (List ℕ)
all_made [] = []
all_made (c ∷ cs) = c.made ∷ all_made cs

unfoldable pub all_said : List Case → List (List ℕ)
all_said [] = []
all_said (c ∷ cs) = c.said ∷ all_said cs

-- They are equal in every case.
abbrev pub Hold : List Case → Type 0
Hold cs = all_made cs ≡ all_said cs

-- The numbers a, a + 1, .., k of them.
abbrev pub span : ℕ → ℕ → List ℕ
span a k = list_of k (λ i. a + i)
