-- What a position says of where a byte of a sample lies.
use Rattle.std.specs.Prelude.{true, false, List, ℕ, MatchOption}
use Rattle.subsample_spec.specs.declared.Entry.{Entry}
use Rattle.scheme.specs.Walk.{Located}
use Rattle.layout.specs.declared.Position.{Position}

-- Position p is where byte x lies.
abbrev pub Lies : List Entry → ℕ → Position → Type 0
Lies es x p = MatchOption p.inside (Located es x false 0 0 p.rank) (λ i. Located es x true i.n i.o p.rank)
