-- The start: which issuer its bytes give, and that the first grant hands out the start itself.
use mathlib.Core.Bool.{Bool, true, false}
use mathlib.Core.List.{List, [], ◌∷◌}
use mathlib.Core.Path.{◌≡◌, refl, sym, ◌∙◌}
use Prim.Native.Nat.{ℕ, zero, suc, ◌+◌, ◌≤◌, ◌<◌}
use native.Mathlib.Omega.{arith}
use lib.Dec.{eqb}
use lib.ListN.{length, get_or, take, drop, replicate, length-drop, take-append-drop}
use lib.Seq.{length-take-le, take_all}
use borrow.Author.Tests.{eqb-true, eqb-false, eq-eqb, ne_eqb}
use Rattle.octets.specs.Answers.{answer}
use Rattle.octets.specs.Bytes.{number, filled}
use Rattle.octets.proofs.Bytes.{digits_number, filled-short, filled_all}
use Rattle.issuer_spec.specs.declared.IvSize.TheVariants.{Eight, Sixteen}
use Rattle.issuer_spec.specs.declared.Issuer.{Issuer}
use Rattle.issuer_spec.specs.Issuer.{issuer, exhausted, start_rows, started, start, vector, grant}
use Rattle.issuer_spec.specs.Grants.{run, grant_at, advanced}
use Rattle.issuer_spec.proofs.Order.{never_again, in_order}

abbrev started_eight : List ℕ → Issuer
started_eight bytes = issuer Eight (replicate 8 0) (number 8 bytes 0) false

abbrev started_sixteen : List ℕ → Issuer
started_sixteen bytes = issuer Sixteen (take 8 bytes) (number 8 bytes 8) false

-- A start of 8 bytes, of 16, or refused.
pub data Begun (bytes : List ℕ) : Type 0 where
  eight : length bytes ≡ 8 → (start bytes).issuer ≡ started_eight bytes → Begun bytes
  sixteen : length bytes ≡ 16 → (start bytes).issuer ≡ started_sixteen bytes → Begun bytes
  refused : (start bytes).issuer ≡ exhausted → Begun bytes

module _ (bytes : List ℕ) where
  begun-eight : length bytes ≡ 8 → (start bytes).issuer ≡ started_eight bytes
  unfolding start start_rows started answer
  begun-eight e = rw (eq-eqb (length bytes) 8 e)

  begun_sixteen : (length bytes ≡ 8 → ⊥) → length bytes ≡ 16 → (start bytes).issuer ≡ started_sixteen bytes
  unfolding start start_rows started answer
  begun_sixteen n e = rw (ne_eqb (length bytes) 8 n, eq-eqb (length bytes) 16 e)

  begun-refused : (length bytes ≡ 8 → ⊥) → (length bytes ≡ 16 → ⊥) → (start bytes).issuer ≡ exhausted
  unfolding start start_rows started answer
  begun-refused n m = rw (ne_eqb (length bytes) 8 n, ne_eqb (length bytes) 16 m)

  pub begun : Begun bytes
  begun = go (eqb (length bytes) 8) refl (eqb (length bytes) 16) refl
    where
      go : (b : Bool) → eqb (length bytes) 8 ≡ b → (c : Bool) → eqb (length bytes) 16 ≡ c → Begun bytes
      go true e c f = eight (eqb-true (length bytes) 8 e) (begun-eight (eqb-true (length bytes) 8 e))
      go false e true f =
          sixteen (eqb-true (length bytes) 16 f) (begun_sixteen (eqb-false (length bytes) 8 e) (eqb-true (length bytes) 16 f))
      go false e false f = refused (begun-refused (eqb-false (length bytes) 8 e) (eqb-false (length bytes) 16 f))

  pub first_length : length (start bytes).issuer.first ≡ 8
  first_length = go begun
    where
      go : Begun bytes → length (start bytes).issuer.first ≡ 8
      go (eight l e) = rw e
      go (sixteen l e) = rw e (length-take-le 8 bytes (omega arith))
      go (refused e) = rw e

-- ---- The first grant.

-- none accepted before it, so the counter stands where it began
not_advanced : (i : Issuer) (ns : List ℕ) (k : ℕ) → ((j : ℕ) → j < k → (grant_at i ns j).answer ≡ 0 → ⊥) → advanced i ns k ≡ 0
unfolding run advanced
not_advanced i ns zero h = refl
not_advanced i [] (suc k) h = refl
not_advanced i (n ∷ ns) (suc k) h =
    rw (
      ne_eqb (grant i n).answer 0 (h 0 (omega arith)),
      not_advanced (grant i n).issuer ns k (λ j l. h (suc j) (omega arith)),
    )

module _ (bytes : List ℕ) (small : (i : ℕ) → get_or bytes i 0 < 256) where
  start-vector : Begun bytes → ((start bytes).issuer.used_up ≡ true → ⊥)
      → vector (start bytes).issuer.size (start bytes).issuer.first (start bytes).issuer.counter ≡ filled 16 bytes
  unfolding vector
  start-vector (eight l e) u =
      rw (e, digits_number 8 bytes 0 small (omega arith), take_all 8 bytes (omega arith)) (sym (filled-short 16 bytes (omega arith) ∙ rw l))
  start-vector (sixteen l e) u =
      let d : length (drop 8 bytes) ≤ 8 = simp length-drop (omega arith) in
      rw (e, digits_number 8 bytes 8 small (omega arith), take_all 8 (drop 8 bytes) d)
      (take-append-drop 8 bytes ∙ sym (filled_all 16 bytes l))
  start-vector (refused e) u = absurd (u (rw e))

  -- the first accepted grant hands out the start, filled out
  pub first_grant : (counts : List ℕ) (k : ℕ) → ((j : ℕ) → j < k → (grant_at (start bytes).issuer counts j).answer ≡ 0 → ⊥)
      → (grant_at (start bytes).issuer counts k).answer ≡ 0 → (grant_at (start bytes).issuer counts k).vector.0 ≡ filled 16 bytes
  first_grant counts k h a =
      let i = (start bytes).issuer in
      let z : i.counter + advanced i counts k ≡ i.counter = omega (arith, not_advanced i counts k h) in
      (in_order i counts k a).handed ∙ rw z (start-vector (begun bytes) (λ u. never_again i u counts k a))
