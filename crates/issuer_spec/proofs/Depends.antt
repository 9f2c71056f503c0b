-- What the issuer's answers depend on: 31 on the start's length, 19 on the block count, and 20 alone on the start's bytes.
use mathlib.Core.Bool.{Bool, true, false, cond}
use mathlib.Core.List.{List, [], ◌∷◌}
use mathlib.Core.Path.{◌≡◌, refl, sym, ◌∙◌}
use Prim.Native.Nat.{ℕ, zero, suc, ◌+◌}
use lib.Dec.{eqb}
use lib.ListN.{length, get_or}
use Rattle.octets.specs.Answers.{answer}
use Rattle.issuer_spec.specs.declared.Issuer.{Issuer}
use Rattle.issuer_spec.specs.Issuer.{largest, issuer, exhausted, last_counter, bad_count, past_end, grant_rows, start_rows, start, after, grant}
use Rattle.issuer_spec.specs.Grants.{run, grant_at}
use Rattle.issuer_spec.specs.Depends.{AlikeIssuers}

-- ---- The start.

pub start_alike : (bytes bytes' : List ℕ) → length bytes ≡ length bytes' → (start bytes).answer ≡ (start bytes').answer
unfolding start start_rows
start_alike bytes bytes' l = rw l

-- ---- Grants, one after the other.

answer_is : (i : Issuer) (n : ℕ) → (grant i n).answer ≡ cond (bad_count n) 19 (cond (past_end i n) 20 0)
unfolding grant grant_rows answer
answer_is i n = refl

-- an answer other than 20 is 19 or 0 by the count alone
pub by_count : (i : Issuer) (ns : List ℕ) (k : ℕ) → ((grant_at i ns k).answer ≡ 20 → ⊥)
    → (grant_at i ns k).answer ≡ cond (bad_count (get_or ns k 0)) 19 0
unfolding run
by_count i [] k h = answer_is exhausted 0
by_count i (n ∷ ns) zero h = answer_is i n ∙ go (bad_count n) (past_end i n) (λ e. h (answer_is i n ∙ e))
  where
    go : (b c : Bool) → (◌≡◌ {A = ℕ} (cond b 19 (cond c 20 0)) 20 → ⊥) → ◌≡◌ {A = ℕ} (cond b 19 (cond c 20 0)) (cond b 19 0)
    go true c m = refl
    go false true m = absurd (m refl)
    go false false m = refl
by_count i (n ∷ ns) (suc k) h = by_count (grant i n).issuer ns k h

-- so two issuers, whatever they hold, answer one list of counts the same but for 20
pub alike_but_20 : (i j : Issuer) (ns : List ℕ) (k : ℕ) → ((grant_at i ns k).answer ≡ 20 → ⊥) → ((grant_at j ns k).answer ≡ 20 → ⊥)
    → (grant_at i ns k).answer ≡ (grant_at j ns k).answer
alike_but_20 i j ns k p q = by_count i ns k p ∙ sym (by_count j ns k q)

-- 20 depends on size and counter, and not on the bytes before the counter
module _ {i j : Issuer} (s : AlikeIssuers i j) where
  alike_last : (n : ℕ) → last_counter i n ≡ last_counter j n
  unfolding last_counter
  alike_last n = rw (s.size, s.counter)

  alike_answer : (n : ℕ) → answer (grant_rows i n) ≡ answer (grant_rows j n)
  unfolding grant_rows answer
  alike_answer n = rw (alike_last n, s.used_up_lem)

  alike_after : (last : ℕ) → AlikeIssuers (after i last) (after j last)
  unfolding after
  alike_after last = go (eqb last largest)
    where
      go : (b : Bool)
          → AlikeIssuers (cond b (issuer i.size i.first i.counter true) (issuer i.size i.first (last + 1) i.used_up))
          (cond b (issuer j.size j.first j.counter true) (issuer j.size j.first (last + 1) j.used_up))
      go true = record { size = s.size; counter = s.counter; used_up_lem = refl }
      go false = record { size = s.size; counter = refl; used_up_lem = s.used_up_lem }

  alike_issuers : (n : ℕ) → AlikeIssuers (grant i n).issuer (grant j n).issuer
  unfolding grant
  alike_issuers n = rw (alike_answer n, alike_last n) (go (eqb (answer (grant_rows j n)) 0))
    where
      go : (b : Bool) → AlikeIssuers (cond b (after i (last_counter j n)) i) (cond b (after j (last_counter j n)) j)
      go true = alike_after (last_counter j n)
      go false = s

pub run_alike : {i j : Issuer} → AlikeIssuers i j → (ns : List ℕ) (k : ℕ) → (grant_at i ns k).answer ≡ (grant_at j ns k).answer
unfolding run grant
run_alike s [] k = refl
run_alike s (n ∷ ns) zero = alike_answer s n
run_alike {i = i} {j = j} s (n ∷ ns) (suc k) = run_alike {i = (grant i n).issuer} {j = (grant j n).issuer} (alike_issuers s n) ns k
