-- A list of grants, each from the issuer that the one before handed back: what an accepted one hands out.
use mathlib.Core.Bool.{Bool, true, false, cond, true≢false}
use mathlib.Core.List.{List, [], ◌∷◌}
use mathlib.Core.Path.{◌≡◌, refl, sym, ◌∙◌}
use Prim.Native.Nat.{ℕ, zero, suc, ◌+◌, ◌-◌, ◌≤◌, ◌<◌}
use native.Mathlib.Omega.{arith}
use lib.Dec.{eqb}
use lib.ListN.{get_or}
use borrow.Author.Tests.{eqb-true, eqb-false, ne_eqb}
use Rattle.octets.specs.Answers.{answer}
use Rattle.issuer_spec.specs.declared.Issuer.{Issuer}
use Rattle.issuer_spec.specs.Issuer.{largest, issuer, exhausted, advance, last_counter, grant_rows, after, grant}
use Rattle.issuer_spec.specs.Grants.{run, grant_at, advanced, Granting}
use Rattle.issuer_spec.proofs.Granting.{advance-some, grant-refused, grant-accepted, Accepted, accepted}

-- ---- One grant.

-- The issuer after it: as it was, with the counter advanced, or used up.
data Outcome (i : Issuer) (n : ℕ) : Type 0 where
  refused : ((grant i n).answer ≡ 0 → ⊥) → (grant i n).issuer ≡ i → Outcome i n
  further : Accepted i n → (grant i n).answer ≡ 0
      → (grant i n).issuer ≡ issuer i.size i.first (i.counter + advance i.size n) false → Outcome i n
  finished : Accepted i n → (grant i n).answer ≡ 0 → (grant i n).issuer ≡ issuer i.size i.first i.counter true → Outcome i n

module _ (i : Issuer) (n : ℕ) where
  answer_is : (grant i n).answer ≡ answer (grant_rows i n)
  unfolding grant
  answer_is = refl

  after_further : Accepted i n → (last_counter i n ≡ largest → ⊥)
      → after i (last_counter i n) ≡ issuer i.size i.first (i.counter + advance i.size n) false
  unfolding after last_counter
  after_further a h =
      let e : i.counter + (advance i.size n - 1) + 1 ≡ i.counter + advance i.size n = omega (arith, advance-some i.size n a.some) in
      rw (ne_eqb (i.counter + (advance i.size n - 1)) largest h, e, a.left)

  after_finished : last_counter i n ≡ largest → after i (last_counter i n) ≡ issuer i.size i.first i.counter true
  unfolding after
  after_finished e = rw e

  outcome : Outcome i n
  outcome = go (eqb (answer (grant_rows i n)) 0) refl
    where
      last : answer (grant_rows i n) ≡ 0 → (b : Bool) → eqb (last_counter i n) largest ≡ b → Outcome i n
      last z true e =
          finished (accepted i n z) (answer_is ∙ z) (rw (grant-accepted i n z) (after_finished (eqb-true (last_counter i n) largest e)))
      last z false e =
          further (accepted i n z) (answer_is ∙ z)
          (rw (grant-accepted i n z) (after_further (accepted i n z) (eqb-false (last_counter i n) largest e)))

      go : (b : Bool) → eqb (answer (grant_rows i n)) 0 ≡ b → Outcome i n
      go true e = last (eqb-true (answer (grant_rows i n)) 0 e) (eqb (last_counter i n) largest) refl
      go false e =
          let h = eqb-false (answer (grant_rows i n)) 0 e in
          refused (λ z. h (sym answer_is ∙ z)) (rw (grant-refused i n (answer (grant_rows i n)) refl h))

-- ---- A list of them.

past_end_lem : (grant exhausted 0).answer ≡ 0 → ⊥
unfolding grant grant_rows answer
past_end_lem h = omega arith

-- a used-up issuer grants nothing
pub never_again : (i : Issuer) → i.used_up ≡ true → (ns : List ℕ) (k : ℕ) → (grant_at i ns k).answer ≡ 0 → ⊥
unfolding run
never_again i u [] k h = past_end_lem h
never_again i u (n ∷ ns) zero h = true≢false (sym u ∙ (accepted i n (sym (answer_is i n) ∙ h)).left)
never_again i u (n ∷ ns) (suc k) h = go (outcome i n) (never_again i u ns k)
  where
    go : Outcome i n → ((grant_at i ns k).answer ≡ 0 → ⊥) → ⊥
    go (refused r e) next = next (rw e at h)
    go (further a z e) next = true≢false (sym u ∙ a.left)
    go (finished a z e) next = true≢false (sym u ∙ a.left)

-- the first of a list
granted_first : (i : Issuer) (n : ℕ) (ns : List ℕ) → (grant i n).answer ≡ 0 → Granting i (n ∷ ns) 0
unfolding run advanced last_counter
granted_first i n ns h =
    let z : answer (grant_rows i n) ≡ 0 = sym (answer_is i n) ∙ h in
    let e : i.counter + 0 ≡ i.counter = omega arith in
    record {
      handed = rw (grant-accepted i n z, e);
      some = (accepted i n z).some;
      few = (accepted i n z).few;
      below = rw e (accepted i n z).below;
    }

-- a later one is one of the issuer that the first leaves
module _ (i : Issuer) (n : ℕ) (ns : List ℕ) (k d : ℕ) (u : Bool) where
  abbrev left : Issuer
  left = issuer i.size i.first (i.counter + d) u

  granted_later : cond (eqb (grant i n).answer 0) (advance i.size n) 0 ≡ d → (grant i n).issuer ≡ left → Granting left ns k
      → Granting i (n ∷ ns) (suc k)
  unfolding run advanced
  granted_later a e g =
      let s : i.counter + d + advanced left ns k ≡ i.counter + (d + advanced left ns k) = omega arith in
      record {
        handed = rw (e, a, ← s) g.handed;
        some = g.some;
        few = g.few;
        below = rw (e, a, ← s) g.below;
      }

pub in_order : (i : Issuer) (ns : List ℕ) (k : ℕ) → (grant_at i ns k).answer ≡ 0 → Granting i ns k
unfolding run
in_order i [] k h = absurd (past_end_lem h)
in_order i (n ∷ ns) zero h = granted_first i n ns h
in_order i (n ∷ ns) (suc k) h = go (outcome i n) (in_order (grant i n).issuer ns k h)
  where
    go : Outcome i n → Granting (grant i n).issuer ns k → Granting i (n ∷ ns) (suc k)
    go (refused r e) g =
        let s : i.counter + 0 ≡ i.counter = omega arith in
        granted_later i n ns k 0 i.used_up (rw (ne_eqb (grant i n).answer 0 r)) (rw s e) (rw (e, ← s) at g)
    go (further a z e) g =
        granted_later i n ns k (advance i.size n) false (rw z) e (rw e at g)
    go (finished a z e) g = absurd (never_again (grant i n).issuer (rw e) ns k h)

size_stays : (i : Issuer) (n : ℕ) → (grant i n).issuer.size ≡ i.size
size_stays i n = go (outcome i n)
  where
    go : Outcome i n → (grant i n).issuer.size ≡ i.size
    go (refused r e) = rw e
    go (further a z e) = rw e
    go (finished a z e) = rw e

-- a later grant lies past all counters of an accepted one
pub advanced_later : (i : Issuer) (ns : List ℕ) (j k : ℕ) → j < k → (grant_at i ns j).answer ≡ 0
    → advanced i ns j + advance i.size (get_or ns j 0) ≤ advanced i ns k
unfolding run advanced
advanced_later i [] j k l h = absurd (past_end_lem h)
advanced_later i (n ∷ ns) j zero l h = absurd (omega arith)
advanced_later i (n ∷ ns) zero (suc k) l h = rw h (omega arith)
advanced_later i (n ∷ ns) (suc j) (suc k) l h =
    let next = advanced_later (grant i n).issuer ns j k (omega arith) h in
    omega (arith, rw (size_stays i n) at next)
