-- Document 02, Ask 3: an issuer of start vectors for one KID and one IV size, its start (31) and its grants (19 and 20).
use Rattle.std.specs.Prelude.{Bool, true, false, cond, not, ◌||◌, List, [], ◌∷◌, ◌++◌, ℕ, ◌+◌, ◌-◌, eqb, ltb, length, take, replicate}
use Rattle.std.specs.declared.result.Result.{Result}
use Rattle.std.specs.declared.result.Result.TheVariants.{Ok, Err}
use Rattle.refusals.specs.declared.Refusal.{Refusal}
use Rattle.refusals.specs.Refusals.{refusal_number}
use Rattle.octets.specs.Answers.{Row, row, answer}
use Rattle.octets.specs.Bytes.{number, digits}
use Rattle.track_spec.specs.declared.StartVector.{StartVector}
use Rattle.track_spec.specs.Track.{zeros}
use Rattle.issuer_spec.specs.declared.IvSize.{IvSize}
use Rattle.issuer_spec.specs.declared.IvSize.TheVariants.{Eight, Sixteen}
use Rattle.issuer_spec.specs.declared.Issuer.{Issuer}

-- What starting an issuer answers.
pub record Started : Type 0 where
  pub answer : ℕ
  pub issuer : Issuer

-- What a grant answers: the start vector, and the issuer to use next.
pub record Granted : Type 0 where
  pub answer : ℕ
  pub vector : StartVector
  pub issuer : Issuer

-- The largest 64-bit number.
abbrev pub largest : ℕ
largest = 18446744073709551615

-- The most blocks that a grant may name.
abbrev pub most_blocks : ℕ
most_blocks = 1048576

abbrev pub issuer : IvSize → List ℕ → ℕ → Bool → Issuer
issuer size first counter used_up = record { size = size; first = first; counter = counter; used_up = used_up }

-- ---- The start, from 8 or 16 bytes.

-- A refused start is used up and of size 8, all else zero.
abbrev pub exhausted : Issuer
exhausted = issuer Eight (replicate 8 0) 0 true

unfoldable pub start_rows : List ℕ → List Row
start_rows bytes = row 31 (not (eqb (length bytes) 8 || eqb (length bytes) 16)) ∷ []

-- In size 16 the first eight bytes stay, and the low 64 bits are the counter.
unfoldable pub started : List ℕ → Issuer
started bytes =
    cond (eqb (length bytes) 8) (issuer Eight (replicate 8 0) (number 8 bytes 0) false)
    (issuer Sixteen (take 8 bytes) (number 8 bytes 8) false)

-- The answer of a start as a number and an issuer; that of a refusal is used up.
abbrev pub as_started : Result Issuer Refusal → Started
as_started (Ok i) = record { answer = 0; issuer = i }
as_started (Err r) = record { answer = refusal_number r; issuer = exhausted }

unfoldable pub start : List ℕ → Started
start bytes =
    record {
      answer = answer (start_rows bytes);
      issuer = cond (eqb (answer (start_rows bytes)) 0) (started bytes) exhausted;
    }

-- ---- A grant to a sample of n blocks.

-- The start vector of counter v, filled out to 16 bytes in size 8.
unfoldable pub vector : IvSize → List ℕ → ℕ → List ℕ
vector Eight first v = digits 8 v ++ replicate 8 0
vector Sixteen first v = first ++ digits 8 v

-- By how much the sample advances the counter: in size 8 to the next one, in size 16 by its blocks.
unfoldable pub advance : IvSize → ℕ → ℕ
advance Eight n = 1
advance Sixteen n = n

-- The last counter that the sample covers: in size 8 the grant's own, in size 16 its last block's.
unfoldable pub last_counter : Issuer → ℕ → ℕ
last_counter i n = i.counter + (advance i.size n - 1)

-- 19: a count below 1 or above the most.
abbrev pub bad_count : ℕ → Bool
bad_count n = ltb n 1 || ltb most_blocks n

-- 20: the issuer is used up, or the counter, or in size 16 the last block's, would pass the largest.
abbrev pub past_end : Issuer → ℕ → Bool
past_end i n = i.used_up || ltb largest (last_counter i n)

unfoldable pub grant_rows : Issuer → ℕ → List Row
grant_rows i n = row 19 (bad_count n) ∷ row 20 (past_end i n) ∷ []

-- The issuer once all counters up to `last` are covered: it goes on with the next one, and after the largest it is used up.
unfoldable pub after : Issuer → ℕ → Issuer
after i last =
    cond (eqb last largest) (issuer i.size i.first i.counter true) (issuer i.size i.first (last + 1) i.used_up)

-- The answer of a grant as a number and a vector, zeros for a refusal; and the issuer after it.
abbrev pub as_granted : Result StartVector Refusal → Issuer → Granted
as_granted (Ok v) i = record { answer = 0; vector = v; issuer = i }
as_granted (Err r) i = record { answer = refusal_number r; vector = record { 0 = zeros }; issuer = i }

-- A refusal changes nothing and hands out zeros.
unfoldable pub grant : Issuer → ℕ → Granted
grant i n =
    record {
      answer = answer (grant_rows i n);
      vector = record { 0 = cond (eqb (answer (grant_rows i n)) 0) (vector i.size i.first i.counter) zeros };
      issuer = cond (eqb (answer (grant_rows i n)) 0) (after i (last_counter i n)) i;
    }
