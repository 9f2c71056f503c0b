-- What 0 says when disposal is asked for: the term is over, by a clock that isn't set back. And the answer in each case.
use mathlib.Core.Bool.{true, false}
use mathlib.Core.List.{List}
use mathlib.Core.Path.{◌≡◌}
use Prim.Native.Nat.{ℕ, ◌+◌, ◌≤◌, ◌<◌}
use native.Mathlib.Omega.{arith}
use borrow.Author.Tests.{not-false, ltb-false, leb-false, le-leb, lt-leb, lt-ltb, le-ltb}
use Rattle.octets.specs.Answers.{answer}
use Rattle.octets.proofs.Answers.{done_head, done_tail}
use Rattle.volume_spec.specs.Volume.{trailer, valid, entry_of, disposable}
use Rattle.volume_spec.specs.Disposal.{Expired}
use Rattle.volume_spec.proofs.Entries.{day_within}
use Rattle.volume_spec.proofs.Valid.{valid_has}

-- no day stored is after the latest
day_at_most : (v : List ℕ) → valid v ≡ true → (j : ℕ) → j < (trailer v).count → (entry_of v j).day ≤ (trailer v).latest
day_at_most v h j l = rw (valid_has v h).latest (day_within v (trailer v).offset (trailer v).count j l)

-- ---- What 0 says.

module _ (v : List ℕ) (k today : ℕ) where
  pub backward_clock : disposable v k today ≡ 0 → Expired v k today
  unfolding disposable
  backward_clock z =
      let h = not-false (valid v) (done_head 50 _ _ (omega arith) z) in
      let z₂ = done_tail 50 _ _ (omega arith) z in
      let z₃ = done_tail 51 _ _ (omega arith) z₂ in
      let l = ltb-false today (trailer v).latest (done_head 52 _ _ (omega arith) z₃) in
      record {
        there = leb-false (trailer v).count k (done_head 51 _ _ (omega arith) z₂);
        over = ltb-false _ _ (done_head 54 _ _ (omega arith) (done_tail 52 _ _ (omega arith) z₃));
        no_later = λ j m. omega (arith, day_at_most v h j m);
      }

-- ---- The answer in each case.

module _ (v : List ℕ) (k today : ℕ) where
  pub dispose_not_valid : valid v ≡ false → disposable v k today ≡ 50
  unfolding disposable answer
  dispose_not_valid h = rw h

  module _ (h : valid v ≡ true) where
    pub dispose_missing : (trailer v).count ≤ k → disposable v k today ≡ 51
    unfolding disposable answer
    dispose_missing l = rw (h, le-leb (trailer v).count k l)

    module _ (l : k < (trailer v).count) where
      pub dispose_set-back : today < (trailer v).latest → disposable v k today ≡ 52
      unfolding disposable answer
      dispose_set-back b = rw (h, lt-leb (trailer v).count k l, lt-ltb today (trailer v).latest b)

      -- a clock set back behind any day stored refuses, whatever the record
      pub set_back_lem : (j : ℕ) → j < (trailer v).count → today < (entry_of v j).day → disposable v k today ≡ 52
      set_back_lem j m b = dispose_set-back (omega (arith, day_at_most v h j m))

      module _ (n : (trailer v).latest ≤ today) where
        pub dispose_early : today < (entry_of v k).day + (entry_of v k).term → disposable v k today ≡ 54
        unfolding disposable answer
        dispose_early b =
            rw (
              h,
              lt-leb (trailer v).count k l,
              le-ltb today (trailer v).latest n,
              lt-ltb today ((entry_of v k).day + (entry_of v k).term) b,
            )

        pub dispose_done : (entry_of v k).day + (entry_of v k).term ≤ today → disposable v k today ≡ 0
        unfolding disposable answer
        dispose_done b =
            rw (
              h,
              lt-leb (trailer v).count k l,
              le-ltb today (trailer v).latest n,
              le-ltb today ((entry_of v k).day + (entry_of v k).term) b,
            )
