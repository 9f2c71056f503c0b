-- Pieces of a sample (demand 3): feeding is by the byte, so a cutting doesn't matter, and what is released and held adds up.
use mathlib.Core.Path.{◌≡◌, refl, sym, ◌∙◌}
use mathlib.Core.Bool.{Bool, true, false, cond}
use mathlib.Core.List.{List, [], ◌∷◌, ◌++◌, append_assoc}
use Prim.Native.Nat.{ℕ, zero, suc, ◌+◌, ◌%◌}
use native.Mathlib.Nat.{add-zero, suc-add}
use native.Mathlib.Omega.{arith}
use lib.Dec.{eqb}
use lib.ListN.{length, get_or, take, length-append}
use borrow.Author.Tests.{eqb-true, eqb-false}
use Rattle.modes_spec.specs.declared.Direction.{Direction}
use Rattle.modes_spec.specs.declared.Direction.TheVariants.{Lock, Open}
use Rattle.modes_spec.specs.Modes.{Cipher, Sized, xors, block_out}
use Rattle.modes_spec.proofs.Strings.{length-xors}
use Rattle.scheme.specs.Layout.{count}
use Rattle.scheme.specs.declared.Mode.{Mode}
use Rattle.scheme.specs.declared.Mode.TheVariants.{Counter, Chain}
use Rattle.scheme.specs.Machine.{State, Stepped, chain_at, plain, counted, chained, ciphered_step, step, feed}

-- what holds of both holds of the one picked
pub cond_law {ℓ} : {X : Type ℓ} (P : X → Type 0) (b : Bool) {x y : X} → (b ≡ true → P x) → (b ≡ false → P y) → P (cond b x y)
cond_law P true f g = f refl
cond_law P false f g = g refl

-- one mark more
pub count_next : (l : List Bool) (p : ℕ) → count (take (suc p) l) ≡ count (take p l) + count (get_or l p false ∷ [])
unfolding count
count_next [] zero = refl
count_next [] (suc p) = refl
count_next (true ∷ l) zero = refl
count_next (false ∷ l) zero = refl
count_next (true ∷ l) (suc p) = rw (count_next l p) (sym (suc-add _ _))
count_next (false ∷ l) (suc p) = count_next l p

pub count-marked : (l : List Bool) (p : ℕ) → get_or l p false ≡ true → count (take (suc p) l) ≡ suc (count (take p l))
unfolding count
count-marked l p e = omega (arith, rw e at (count_next l p))

pub count-unmarked : (l : List Bool) (p : ℕ) → get_or l p false ≡ false → count (take (suc p) l) ≡ count (take p l)
unfolding count
count-unmarked l p e = omega (arith, rw e at (count_next l p))

module _ (E D : Cipher) (sE : Sized E) (sD : Sized D) where
  pub length_block_out : (d : Direction) (c b : List ℕ) → length b ≡ 16 → length (block_out E D d c b) ≡ 16
  unfolding block_out
  length_block_out Lock c b l = sE (xors b c) (length-xors b c ∙ l)
  length_block_out Open c b l = length-xors (D b) c ∙ sD b l

module _ (E D : Cipher) (d : Direction) (k : Mode) (iv : List ℕ) (M F : List Bool) where
  pub feed-append_state : (t : State) (xs ys : List ℕ)
      → (feed E D d k iv M F t (xs ++ ys)).state ≡ (feed E D d k iv M F (feed E D d k iv M F t xs).state ys).state
  unfolding feed
  feed-append_state t [] ys = refl
  feed-append_state t (x ∷ xs) ys = feed-append_state (step E D d k iv M F t x).state xs ys

  pub feed-append : (t : State) (xs ys : List ℕ)
      → (feed E D d k iv M F t (xs ++ ys)).released
      ≡ (feed E D d k iv M F t xs).released ++ (feed E D d k iv M F (feed E D d k iv M F t xs).state ys).released
  unfolding feed
  feed-append t [] ys = refl
  feed-append t (x ∷ xs) ys = simp (feed-append (step E D d k iv M F t x).state xs ys, append_assoc)

  -- what a step does to the position
  pub step_position : (t : State) (b : ℕ) → (step E D d k iv M F t b).state.position ≡ suc t.position
  unfolding step plain ciphered_step counted chained
  step_position t b =
      cond_law (λ (s : Stepped). s.state.position ≡ suc t.position) (get_or M t.position false) (λ e. go k) (λ e. refl)
    where
      go : (k : Mode) → (ciphered_step E D d k iv M F k t b).state.position ≡ suc t.position
      go Counter = refl
      go Chain =
          cond_law (λ (s : Stepped). s.state.position ≡ suc t.position) (eqb (length t.held) 15) (λ e. refl) (λ e. refl)

  pub feed_position : (t : State) (xs : List ℕ) → (feed E D d k iv M F t xs).state.position ≡ t.position + length xs
  unfolding feed
  feed_position t [] = sym (add-zero _)
  feed_position t (x ∷ xs) = feed_position (step E D d k iv M F t x).state xs ∙ omega (arith, step_position t x)

-- how many bytes are held after r ciphered ones
unfoldable pub held_after : Mode → ℕ → ℕ
held_after Counter r = 0
held_after Chain r = r % 16

-- a state's held bytes are as many as its position calls for
abbrev pub Sound : Mode → List Bool → State → Type 0
Sound k M t = length t.held ≡ held_after k (count (take t.position M))

-- after held bytes and a new one: the released and the held add up, and the state is sound
pub record Added (k : Mode) (M : List Bool) (n : ℕ) (s : Stepped) : Type 0 where
  pub sum : length s.released + length s.state.held ≡ n
  pub sound : Sound k M s.state

module _ (E D : Cipher) (sE : Sized E) (sD : Sized D) (d : Direction) (iv : List ℕ) (M F : List Bool) where
  ciphered_adds : (k : Mode) (t : State) (b : ℕ) → get_or M t.position false ≡ true → Sound k M t
      → Added k M (suc (length t.held)) (ciphered_step E D d k iv M F k t b)
  unfolding ciphered_step counted chained held_after count
  ciphered_adds Counter t b e h = record { sum = omega arith; sound = h }
  ciphered_adds Chain t b e h =
      cond_law (Added Chain M (suc (length t.held))) (eqb (length t.held) 15)
      (λ full.
      let n : length t.held ≡ 15 = eqb-true _ _ full in
      record {
        sum = rw (length_block_out E D sE sD d (chain_at E D d Chain iv M F t.position t.block) (t.held ++ (b ∷ []))
            (simp length-append (omega arith)))
            (omega arith);
        sound = rw (count-marked M t.position e) (omega arith);
      })
      (λ short.
      let n : (length t.held ≡ 15) → ⊥ = eqb-false _ _ short in
      record {
        sum = simp length-append (omega arith);
        sound = simp (
          length-append,
          count-marked M t.position e,
        ) (omega arith);
      })

  step_adds : (k : Mode) (t : State) (b : ℕ) → Sound k M t → Added k M (suc (length t.held)) (step E D d k iv M F t b)
  unfolding step plain held_after count
  step_adds k t b h =
      cond_law (Added k M (suc (length t.held))) (get_or M t.position false)
      (λ e. ciphered_adds k t b e h)
      (λ e. record { sum = omega arith; sound = rw (count-unmarked M t.position e) h })

  pub feed_adds : (k : Mode) (t : State) (xs : List ℕ) → Sound k M t
      → Added k M (length t.held + length xs) (feed E D d k iv M F t xs)
  unfolding feed
  feed_adds k t [] h = record { sum = omega arith; sound = h }
  feed_adds k t (x ∷ xs) h =
      record {
        sum = simp length-append
            (omega (
              arith,
              (step_adds k t x h).sum,
              (feed_adds k (step E D d k iv M F t x).state xs (step_adds k t x h).sound).sum,
            ));
        sound = (feed_adds k (step E D d k iv M F t x).state xs (step_adds k t x h).sound).sound;
      }
