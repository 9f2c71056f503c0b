-- The runs of a range.
use mathlib.Core.Path.{◌≡◌, refl, sym, ap, ◌∙◌}
use mathlib.Core.Bool.{Bool, true, false, ◌&&◌, and-true}
use Prim.Native.Nat.{ℕ, ◌+◌, ◌-◌, ◌*◌, ◌/◌, ◌%◌, ◌≤◌, ◌<◌, min}
use native.Mathlib.Nat.{mod-eq_of_lt, mul-add-mod_self_left, div-add-mod, mod-le, mod-lt}
use native.Mathlib.Omega.{arith}
use lib.Dec.{ltb}
use borrow.Author.Tests.{lt-ltb, le-ltb}
use Rattle.scheme.specs.declared.Pattern.{Pattern}
use Rattle.scheme.specs.declared.Scheme.{Scheme}
use Rattle.scheme.specs.declared.Scheme.TheVariants.{Cenc, Cbc1, Cens, Cbcs}
use Rattle.scheme.specs.Layout.{period, in_whole_block, in_crypt_run, is_ciphered}
use Rattle.scheme.specs.declared.Mode.TheVariants.{Counter, Chain}
use Rattle.scheme.specs.Machine.{mode_of}
use Rattle.scheme.specs.Walk.{RunAt}
use Rattle.scheme.proofs.Patterns.{every_block, by_period}

-- a counter scheme is no chain scheme, and a test that failed did not hold
pub apart : {A : Type 0} → Counter ≡ Chain → A
apart e = absurd (let z : ◌≡◌ {A = ℕ} 0 1 = cc in omega arith)

unheld : {A : Type 0} {b : Bool} → b ≡ false → b ≡ true → A
unheld f e = absurd (let z : ◌≡◌ {A = ℕ} 0 1 = cc in omega arith)

-- cenc: the whole range
pub run_cenc : (pattern : Pattern) (n o : ℕ) → o < n → RunAt Cenc pattern n o true n
unfolding is_ciphered mode_of
run_cenc pattern n o l =
    record { past = l; within = omega arith; same = λ x a b. refl; aligned = λ e. apart e; freed = λ e. apart e }

-- the whole blocks, as one run
pub run_whole : (pattern : Pattern) (n o : ℕ) → o < n / 16 * 16 → RunAt Cbc1 pattern n o true (n / 16 * 16)
unfolding is_ciphered in_whole_block
run_whole pattern n o l =
    record {
      past = l;
      within = omega arith;
      same = λ x a b. lt-ltb (x / 16) (n / 16) (omega arith);
      aligned = λ e f. omega arith;
      freed = λ e f. omega arith;
    }

-- what is left after the whole blocks
module _ (pattern : Pattern) (n o : ℕ) (l : o < n) (w : n / 16 * 16 ≤ o) where
  out : (x : ℕ) → o ≤ x → ltb (x / 16) (n / 16) ≡ false
  out x a = le-ltb (x / 16) (n / 16) (omega arith)

  pub run_last1 : RunAt Cbc1 pattern n o false n
  unfolding is_ciphered in_whole_block
  run_last1 =
      record {
        past = l;
        within = omega arith;
        same = λ x a b. out x a;
        aligned = λ e f. unheld refl f;
        freed = λ e f. unheld (out n (omega arith)) f;
      }

  pub run_last : (s : Scheme) → ((x : ℕ) → is_ciphered s pattern n x ≡ (in_whole_block n x) && (in_crypt_run pattern x))
      → RunAt s pattern n o false n
  unfolding in_whole_block
  run_last s h =
      record {
        past = l;
        within = omega arith;
        same = λ x a b. h x ∙ rw (out x a);
        aligned = λ e f. unheld refl f;
        freed = λ e f. unheld (h n ∙ rw (out n (omega arith))) f;
      }

-- 0:0: the runs of cbc1
pub run_every : (pattern : Pattern) (n o e : ℕ) (b : Bool) → period pattern ≡ 0 → RunAt Cbc1 pattern n o b e → (s : Scheme)
    → ((x : ℕ) → is_ciphered s pattern n x ≡ (in_whole_block n x) && (in_crypt_run pattern x)) → RunAt s pattern n o b e
unfolding is_ciphered mode_of
run_every pattern n o e b z r s h =
    let every : (x : ℕ) → is_ciphered s pattern n x ≡ in_whole_block n x =
    λ x. h x ∙ rw (every_block pattern x z) (and-true (in_whole_block n x)) in
    record {
      past = r.past;
      within = r.within;
      same = λ x l u. every x ∙ r.same x l u;
      aligned = λ k f. r.aligned refl f;
      freed = λ k f. r.freed refl (sym (every e) ∙ f);
    }

-- the blocks of one turn of the pattern: f is its first block's number
within_turn : (m q t : ℕ) → t < m → (m * q + t) % m ≡ t
within_turn m q t l = mul-add-mod_self_left m q t ∙ mod-eq_of_lt l

module _ (pattern : Pattern) (n o f : ℕ) (q : ℕ) (ef : f ≡ (period pattern) * q) (lf : f ≤ o / 16) (w : o < n / 16 * 16)
    (some : 1 ≤ period pattern) where
  at_block : (y : ℕ) → f ≤ y → y - f < period pattern → y % (period pattern) ≡ y - f
  at_block y a l =
      let e : y ≡ (period pattern) * q + (y - f) = omega arith in
      ap (λ (z : ℕ). z % (period pattern)) e ∙ within_turn (period pattern) q (y - f) l

  module _ (s : Scheme) (h : (x : ℕ) → is_ciphered s pattern n x ≡ (in_whole_block n x) && (in_crypt_run pattern x)) where
    pub run_crypt : o / 16 - f < pattern.crypt → RunAt s pattern n o true (min ((f + pattern.crypt) * 16) (n / 16 * 16))
    unfolding in_whole_block
    run_crypt l =
        record {
          past = omega arith;
          within = omega arith;
          same = λ x a b. h x
              ∙ rw (lt-ltb (x / 16) (n / 16) (omega arith), by_period pattern x some, at_block (x / 16) (omega arith) (omega arith))
              (lt-ltb (x / 16 - f) pattern.crypt (omega arith));
          aligned = λ e g. omega arith;
          freed = λ e g. omega arith;
        }

    pub run_skip : pattern.crypt ≤ o / 16 - f → o / 16 - f < period pattern
        → RunAt s pattern n o false (min ((f + (period pattern)) * 16) (n / 16 * 16))
    unfolding in_whole_block
    run_skip l k =
        record {
          past = omega arith;
          within = omega arith;
          same = λ x a b. h x
              ∙ rw (lt-ltb (x / 16) (n / 16) (omega arith), by_period pattern x some, at_block (x / 16) (omega arith) (omega arith))
              (le-ltb (x / 16 - f) pattern.crypt (omega arith));
          aligned = λ e g. omega arith;
          freed = λ e g. omega arith;
        }

-- what is said of a scheme that ciphers by the pattern holds of both
pub in_both : (pattern : Pattern) (n o e : ℕ) (b : Bool)
    → ((s : Scheme) → ((x : ℕ) → is_ciphered s pattern n x ≡ (in_whole_block n x) && (in_crypt_run pattern x)) → RunAt s pattern n o b e)
    → (RunAt Cens pattern n o b e) × (RunAt Cbcs pattern n o b e)
unfolding is_ciphered
in_both pattern n o e b f = (f Cens (λ x. refl), f Cbcs (λ x. refl))

-- the same by the block's place in its turn of the pattern
module _ (pattern : Pattern) (n o e : ℕ) (some : 1 ≤ period pattern) (w : o < n / 16 * 16) (s : Scheme)
    (h : (x : ℕ) → is_ciphered s pattern n x ≡ (in_whole_block n x) && (in_crypt_run pattern x)) where
  abbrev first : ℕ
  first = o / 16 - o / 16 % (period pattern)

  first_is : first ≡ (period pattern) * (o / 16 / (period pattern))
  first_is = omega (arith, div-add-mod (o / 16) (period pattern))

  pub pattern_crypt : o / 16 % (period pattern) < pattern.crypt → e ≡ min ((first + pattern.crypt) * 16) (n / 16 * 16)
      → RunAt s pattern n o true e
  pattern_crypt l g =
      rw g
      (run_crypt pattern n o first (o / 16 / (period pattern)) first_is (omega arith) w some s h
      (omega (arith, mod-le (o / 16) (period pattern))))

  pub pattern_skip : pattern.crypt ≤ o / 16 % (period pattern) → e ≡ min ((first + (period pattern)) * 16) (n / 16 * 16)
      → RunAt s pattern n o false e
  pattern_skip l g =
      let k : o / 16 % (period pattern) < period pattern = mod-lt (o / 16) (omega arith) in
      rw g
      (run_skip pattern n o first (o / 16 / (period pattern)) first_is (omega arith) w some s h
      (omega (arith, mod-le (o / 16) (period pattern))) (omega (arith, mod-le (o / 16) (period pattern))))
