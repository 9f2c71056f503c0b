-- What a grant answers, by its table, and what follows from the answer.
use mathlib.Core.Bool.{true, false}
use mathlib.Core.Path.{◌≡◌}
use Prim.Native.Nat.{ℕ, ◌≤◌}
use native.Mathlib.Omega.{arith}
use lib.Dec.{ltb}
use borrow.Author.Tests.{ltb-false, le-ltb, ne_eqb}
use Rattle.octets.specs.Answers.{answer}
use Rattle.octets.proofs.Answers.{done_head, done_tail}
use Rattle.octets.proofs.Tests.{or_false_left, or_false_right}
use Rattle.track_spec.specs.Track.{zeros}
use Rattle.issuer_spec.specs.declared.IvSize.{IvSize}
use Rattle.issuer_spec.specs.declared.IvSize.TheVariants.{Eight, Sixteen}
use Rattle.issuer_spec.specs.declared.Issuer.{Issuer}
use Rattle.issuer_spec.specs.Issuer.{Granted}
use Rattle.issuer_spec.specs.Issuer.{largest, most_blocks, vector, advance, last_counter, bad_count, past_end, grant_rows, after, grant}

pub advance-some : (s : IvSize) (n : ℕ) → 1 ≤ n → 1 ≤ advance s n
unfolding advance
advance-some Eight n h = omega arith
advance-some Sixteen n h = omega arith

-- what an allowed count is
pub count-some : (n : ℕ) → bad_count n ≡ false → 1 ≤ n
count-some n c = ltb-false n 1 (or_false_left (ltb n 1) (ltb most_blocks n) c)

pub count_few : (n : ℕ) → bad_count n ≡ false → n ≤ most_blocks
count_few n c = ltb-false most_blocks n (or_false_right (ltb n 1) (ltb most_blocks n) c)

-- A refusal hands out zeros and the issuer as it was.
abbrev pub refusal : ℕ → Issuer → Granted
refusal k i = record { answer = k; vector = record { 0 = zeros }; issuer = i }

module _ (i : Issuer) (n : ℕ) where
  pub grant-refused : (k : ℕ) → answer (grant_rows i n) ≡ k → (k ≡ 0 → ⊥) → grant i n ≡ refusal k i
  unfolding grant
  grant-refused k e h = rw (e, ne_eqb k 0 h)

  pub grant-accepted : answer (grant_rows i n) ≡ 0
      → grant i n ≡ record { answer = 0; vector = record { 0 = vector i.size i.first i.counter }; issuer = after i (last_counter i n) }
  unfolding grant
  grant-accepted e = rw e

  -- ---- The answer in each case.

  module _ (c : bad_count n ≡ false) where
    pub used_up_lem : i.used_up ≡ true → answer (grant_rows i n) ≡ 20
    unfolding grant_rows answer
    used_up_lem h = rw (c, h)

    pub fits : i.used_up ≡ false → last_counter i n ≤ largest → answer (grant_rows i n) ≡ 0
    unfolding grant_rows answer
    fits u h = rw (c, le-ltb largest (last_counter i n) h, u)

-- ---- What an accepted grant says.

-- The count is allowed, the issuer is not used up, and no counter covered passes the largest.
pub record Accepted (i : Issuer) (n : ℕ) : Type 0 where
  pub some : 1 ≤ n
  pub few : n ≤ most_blocks
  pub left : i.used_up ≡ false
  pub below : last_counter i n ≤ largest

pub accepted : (i : Issuer) (n : ℕ) → answer (grant_rows i n) ≡ 0 → Accepted i n
unfolding grant_rows
accepted i n h =
    let c : bad_count n ≡ false = done_head 19 _ _ (omega arith) h in
    let e : past_end i n ≡ false = done_head 20 _ _ (omega arith) (done_tail 19 _ _ (omega arith) h) in
    record {
      some = count-some n c;
      few = count_few n c;
      left = or_false_left i.used_up (ltb largest (last_counter i n)) e;
      below = ltb-false largest (last_counter i n) (or_false_right i.used_up (ltb largest (last_counter i n)) e);
    }

-- ---- What a refused grant leaves.

module _ (i : Issuer) (n : ℕ) where
  -- the issuer as it was, and zeros
  pub refused_stays : ((grant i n).answer ≡ 0 → ⊥) → ((grant i n).issuer ≡ i) × ((grant i n).vector.0 ≡ zeros)
  unfolding grant
  refused_stays h = (rw (ne_eqb (answer (grant_rows i n)) 0 h), rw (ne_eqb (answer (grant_rows i n)) 0 h))

  -- so one refused for too large a count leaves the issuer usable for a smaller one
  pub smaller_granted : ((grant i n).answer ≡ 0 → ⊥) → (m : ℕ) → bad_count m ≡ false → i.used_up ≡ false
      → last_counter i m ≤ largest → (grant (grant i n).issuer m).answer ≡ 0
  unfolding grant
  smaller_granted h m c u l = rw (ne_eqb (answer (grant_rows i n)) 0 h) (fits i m c u l)
