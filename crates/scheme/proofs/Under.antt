-- The machine under parameters and a map, from the start on, gives what the whole-sample definition makes of the sample.
use mathlib.Core.Bool.{Bool, true, false}
use mathlib.Core.List.{List, [], ◌∷◌}
use mathlib.Core.Path.{◌≡◌, refl, sym, ◌∙◌}
use Prim.Native.Nat.{ℕ, ◌+◌, ◌-◌, ◌≤◌}
use native.Mathlib.Omega.{arith}
use lib.Dec.{eqb}
use lib.ListN.{length, get_or, take}
use borrow.Author.Tests.{eqb-true}
use Rattle.modes_spec.specs.declared.Direction.{Direction}
use Rattle.modes_spec.specs.Modes.{Cipher, Sized}
use Rattle.track_spec.specs.declared.Parameters.{Parameters}
use Rattle.subsample_spec.specs.declared.Entry.{Entry}
use Rattle.subsample_spec.specs.Auxiliary.{entry}
use Rattle.subsample_spec.specs.declared.SubsampleMap.{SubsampleMap}
use Rattle.scheme.specs.declared.Pattern.{Pattern}
use Rattle.scheme.specs.declared.Scheme.{Scheme}
use Rattle.scheme.specs.declared.Scheme.TheVariants.{Cenc, Cbc1, Cens, Cbcs}
use Rattle.scheme.specs.Layout.{pattern_of, scheme_of, restarts, total, mask, restart_mask}
use Rattle.scheme.specs.declared.Mode.{Mode}
use Rattle.scheme.specs.declared.Mode.TheVariants.{Counter, Chain}
use Rattle.scheme.specs.Machine.{State, mode_of, free, chain_at, plain, counted, chained, ciphered_step, step, feed, feed_sample}
use Rattle.scheme.specs.Held.{Place, Clear, Inside, place, in_place}
use Rattle.scheme.specs.Part as part
use Rattle.scheme.proofs.Agreement.{machine_whole, released}
use Rattle.scheme.proofs.Positions.{marks_at, held_at_is}
use Rattle.scheme.proofs.Unprotected.{held_clear, mask_clear, feed-unmarked, whole_clear}

-- where no chain starts anew the constant IV is never taken
module _ (E D : Cipher) (d : Direction) (v w : List ℕ) (M F : List Bool) (never : (x : ℕ) → get_or F x false ≡ false) where
  chain_never : (x : ℕ) (c : List ℕ) → (k : Mode) → chain_at E D d k v M F x c ≡ chain_at E D d k w M F x c
  unfolding chain_at
  chain_never x c k = rw (never x)

  step_never : (k : Mode) (t : State) (b : ℕ) → step E D d k v M F t b ≡ step E D d k w M F t b
  unfolding step ciphered_step counted chained plain
  step_never Counter t b = refl
  step_never Chain t b = rw (chain_never t.position t.block Chain)

  pub feed_never : (k : Mode) (t : State) (xs : List ℕ) → feed E D d k v M F t xs ≡ feed E D d k w M F t xs
  unfolding feed
  feed_never k t [] = refl
  feed_never k t (x ∷ xs) = rw (step_never k t x, feed_never k (step E D d k w M F t x).state xs)

never_marked : (f : ℕ → ℕ → Bool) → ((n o : ℕ) → f n o ≡ false) → (p : Place) → in_place false f p ≡ false
unfolding in_place
never_marked f h Clear = refl
never_marked f h (Inside n o) = h n o

module _ (es : List Entry) (x : ℕ) where
  never : (s : Scheme) → ((n o : ℕ) → restarts s n o ≡ false) → get_or (restart_mask s es) x false ≡ false
  unfolding restart_mask
  never s h = marks_at (restarts s) es x ∙ never_marked (restarts s) h (place es x)

-- in any scheme the machine goes as with the IV in place of the constant one
module _ (E D : Cipher) (d : Direction) (pattern : Pattern) (v iv : List ℕ) (es : List Entry) (t : State) (xs : List ℕ) where
  one_iv : (s : Scheme) → (s ≡ Cbcs → v ≡ iv) → feed_sample E D d s pattern v es t xs ≡ feed_sample E D d s pattern iv es t xs
  unfolding feed_sample restarts
  one_iv Cenc h =
      feed_never E D d v iv (mask Cenc pattern es) (restart_mask Cenc es) (λ x. never es x Cenc (λ n o. refl))
      (mode_of Cenc) t xs
  one_iv Cbc1 h =
      feed_never E D d v iv (mask Cbc1 pattern es) (restart_mask Cbc1 es) (λ x. never es x Cbc1 (λ n o. refl))
      (mode_of Cbc1) t xs
  one_iv Cens h =
      feed_never E D d v iv (mask Cens pattern es) (restart_mask Cens es) (λ x. never es x Cens (λ n o. refl))
      (mode_of Cens) t xs
  one_iv Cbcs h = rw (h refl)

-- of an unprotected track nothing is held,
pub clear_held : (p : Parameters) (m : SubsampleMap) (n : ℕ) → eqb p.protected 1 ≡ false → (x : ℕ) → part.held_under p m n x ≡ 0
unfolding part.held_under part.entries_of
clear_held p m n e x = rw e (held_clear (pattern_of p) n (scheme_of p.code) x)

-- and every byte passes
module _ (E D : Cipher) (d : Direction) (p : Parameters) (m : SubsampleMap) (n : ℕ) (e : eqb p.protected 1 ≡ false) where
  pub clear_fed : (x : ℕ) (c h xs : List ℕ)
      → part.feed_under E D d p m n (record { position = x; block = c; held = h }) xs
      ≡ record { state = record { position = x + length xs; block = c; held = h }; released = xs }
  unfolding part.feed_under feed_sample part.entries_of
  clear_fed x c h xs =
      rw e
      (feed-unmarked E D d (mode_of (scheme_of p.code)) p.constant_iv.0
      (mask (scheme_of p.code) (pattern_of p) (entry n 0 ∷ []))
      (restart_mask (scheme_of p.code) (entry n 0 ∷ [])) (mask_clear (scheme_of p.code) (pattern_of p) n) x c h xs)

  pub clear_ciphered : (iv xs : List ℕ) → length xs ≡ n → part.ciphered E D d p m iv xs ≡ xs
  unfolding part.ciphered part.entries_of
  clear_ciphered iv xs l = rw e (whole_clear E D iv (pattern_of p) (length xs) d (scheme_of p.code) xs)

module _ (E D : Cipher) (sE : Sized E) (sD : Sized D) (d : Direction) (p : Parameters) (m : SubsampleMap) (iv : List ℕ)
    (b : part.Begins p iv)
    (xs : List ℕ) (l : length xs ≡ total (part.entries_of p m (length xs))) where
  module _ (one : p.protected ≡ 1) where
    abbrev s : Scheme
    s = scheme_of p.code

    abbrev es : List Entry
    es = part.entries_of p m (length xs)

    under_iv : (ys : List ℕ)
        → part.feed_under E D d p m (length xs) (free 0 iv) ys ≡ feed_sample E D d s (pattern_of p) iv es (free 0 iv) ys
    unfolding part.feed_under
    under_iv ys = one_iv E D d (pattern_of p) p.constant_iv.0 iv es (free 0 iv) ys s (b.constant one)

    protected_released : (x : ℕ) → x ≤ length xs
        → (part.feed_under E D d p m (length xs) (free 0 iv) (take x xs)).released
        ≡ take (x - part.held_under p m (length xs) x) (part.ciphered E D d p m iv xs)
    unfolding part.held_under part.ciphered
    protected_released x u =
        rw (under_iv (take x xs), sym (held_at_is (pattern_of p) es s x))
        (released E D sE sD d iv b.bytes (pattern_of p) es s xs l x u)

    protected_whole : (part.feed_under E D d p m (length xs) (free 0 iv) xs).released ≡ part.ciphered E D d p m iv xs
    unfolding part.ciphered
    protected_whole = rw (under_iv xs) (machine_whole E D sE sD d iv b.bytes (pattern_of p) es s xs l)

  -- what has been released at position x is the beginning of the whole sample's result, but for the bytes held
  pub fed_released : (x : ℕ) → x ≤ length xs
      → (part.feed_under E D d p m (length xs) (free 0 iv) (take x xs)).released
      ≡ take (x - part.held_under p m (length xs) x) (part.ciphered E D d p m iv xs)
  fed_released x u = go (eqb p.protected 1) refl
    where
      go : (q : Bool) → eqb p.protected 1 ≡ q
          → (part.feed_under E D d p m (length xs) (free 0 iv) (take x xs)).released
          ≡ take (x - part.held_under p m (length xs) x) (part.ciphered E D d p m iv xs)
      go true e = protected_released (eqb-true p.protected 1 e) x u
      go false e =
          let z : x - 0 ≡ x = omega arith in
          rw (
            clear_fed E D d p m (length xs) e 0 iv [] (take x xs),
            clear_held p m (length xs) e x,
            clear_ciphered E D d p m (length xs) e iv xs refl,
            z,
          )

  -- and the whole sample's at its end
  pub fed_whole : (part.feed_under E D d p m (length xs) (free 0 iv) xs).released ≡ part.ciphered E D d p m iv xs
  fed_whole = go (eqb p.protected 1) refl
    where
      go : (q : Bool) → eqb p.protected 1 ≡ q
          → (part.feed_under E D d p m (length xs) (free 0 iv) xs).released ≡ part.ciphered E D d p m iv xs
      go true e = protected_whole (eqb-true p.protected 1 e)
      go false e = rw (clear_fed E D d p m (length xs) e 0 iv [] xs, clear_ciphered E D d p m (length xs) e iv xs refl)
