-- Document 02, Ask 3: "If each state handed back is the one used next, no two grants from one start cover the same counter block";
-- and what each grant of such a list hands out.
use Rattle.std.specs.Prelude.{cond, List, [], ◌∷◌, ◌≡◌, ℕ, zero, suc, ◌+◌, ◌-◌, ◌≤◌, ◌<◌, eqb, get_or}
use Rattle.modes_spec.specs.Modes.{counter_at}
use Rattle.issuer_spec.specs.declared.Issuer.{Issuer}
use Rattle.issuer_spec.specs.Issuer.{Granted}
use Rattle.issuer_spec.specs.Issuer.{largest, most_blocks, exhausted, start, vector, advance, grant}

-- One grant after the other, each from the issuer that the one before handed back.
unfoldable pub run : Issuer → List ℕ → List Granted
run i [] = []
run i (n ∷ ns) = grant i n ∷ run (grant i n).issuer ns

-- What grant k of them answers, counted from 0; past the end of the list a refusal.
abbrev pub grant_at : Issuer → List ℕ → ℕ → Granted
grant_at i ns k = get_or (run i ns) k (grant exhausted 0)

-- By how much the accepted ones among the first k advanced the counter.
unfoldable pub advanced : Issuer → List ℕ → ℕ → ℕ
advanced i ns zero = 0
advanced i [] (suc k) = 0
advanced i (n ∷ ns) (suc k) = cond (eqb (grant i n).answer 0) (advance i.size n) 0 + advanced (grant i n).issuer ns k

-- What accepted grant k of a list hands out: the start vector of the first counter, advanced by the accepted ones before it. Its
-- count is allowed, and no counter that it covers passes the largest.
pub record Granting (i : Issuer) (ns : List ℕ) (k : ℕ) : Type 0 where
  pub handed : (grant_at i ns k).vector.0 ≡ vector i.size i.first (i.counter + advanced i ns k)
  pub some : 1 ≤ get_or ns k 0
  pub few : get_or ns k 0 ≤ most_blocks
  pub below : i.counter + advanced i ns k + (advance i.size (get_or ns k 0) - 1) ≤ largest

-- Grant k from a start's bytes is accepted and covers a counter block: one of as many as it named, from its start vector on.
pub record Covers (bytes counts : List ℕ) (k : ℕ) (block : List ℕ) : Type 0 where
  pub accepted : (grant_at (start bytes).issuer counts k).answer ≡ 0
  pub step : ℕ
  pub named : step < get_or counts k 0
  pub there : block ≡ counter_at (grant_at (start bytes).issuer counts k).vector.0 step
