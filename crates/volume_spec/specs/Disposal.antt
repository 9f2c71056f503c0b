-- Document 02, Ask 13: what it takes for a record to be disposed of, so that a clock set back refuses.
use Rattle.std.specs.Prelude.{List, map, ℕ, ◌+◌, ◌≤◌, ◌<◌, length, get_or}
use Rattle.volume_spec.specs.Volume.{trailer, entry_of, none}
use Rattle.volume_spec.specs.Additions.{Addition, accepted}

-- Record k of a volume is there, its day stored plus its term is at most today, and no day stored is after today.
pub record Expired (v : List ℕ) (k today : ℕ) : Type 0 where
  pub there : k < (trailer v).count
  pub over : (entry_of v k).day + (entry_of v k).term ≤ today
  pub no_later : (j : ℕ) → j < (trailer v).count → (entry_of v j).day ≤ today

-- The same of a list of additions to the empty volume: of the kth accepted, by the day and the term that it was added with.
pub record ExpiredOf (adds : List Addition) (k today : ℕ) : Type 0 where
  pub there : k < length (accepted none adds)
  pub over : get_or (map (λ a. a.today) (accepted none adds)) k 0 + get_or (map (λ a. a.term) (accepted none adds)) k 0 ≤ today
  pub no_later : (j : ℕ) → j < length (accepted none adds) → get_or (map (λ a. a.today) (accepted none adds)) j 0 ≤ today
