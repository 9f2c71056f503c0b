-- The counter mode over a slice, one key stream block a turn.
use mathlib.Core.List.{List, [], ◌∷◌, ◌++◌}
use mathlib.Core.Path.{◌≡◌, refl, sym, ap, ◌∙◌}
use Prim.Native.Nat.{ℕ, suc, ◌+◌, ◌-◌, ◌*◌, ◌/◌, ◌%◌, ◌≤◌}
use native.Mathlib.Nat.{add-zero}
use native.Mathlib.Omega.{arith}
use lib.ListN.{length, get_or, take, drop, length-take, length-drop}
use lib.Seq.{drop-cons, take-add, length-take-le}
use borrow.Rule.Slice.PartMut.{put_mid}
use Rattle.octets.specs.Xor.{◌⊕◌}
use Rattle.octets.proofs.Fill.{Filled, fill_none, fill_drop, fill_part}
use Rattle.modes_spec.specs.Modes.{Cipher, xors, counter_at, stream_byte, ctr}
use Rattle.modes_spec.proofs.Counter.{steps}
use Rattle.modes_spec.proofs.Strings.{length-xors}

-- a part is no longer than it is asked to be
pub shorter : (n : ℕ) (xs : List ℕ) → length (take n xs) ≤ n
shorter n xs = rw length-take (omega arith)

pub ctr_append : (E : Cipher) (iv : List ℕ) (k : ℕ) (xs ys : List ℕ)
    → ctr E iv k (xs ++ ys) ≡ ctr E iv k xs ++ ctr E iv (k + length xs) ys
unfolding ctr
ctr_append E iv k [] ys = rw add-zero
ctr_append E iv k (x ∷ xs) ys =
    let s : k + suc (length xs) ≡ suc k + length xs = omega arith in
    rw s (ap (λ (l : List ℕ). x ⊕ stream_byte E iv k ∷ l) (ctr_append E iv (suc k) xs ys))

-- within one block of the key stream: k is q blocks and o bytes
ctr_within : (E : Cipher) (iv : List ℕ) (q : ℕ) → length (E (counter_at iv q)) ≡ 16 → (o k : ℕ) (xs : List ℕ) → k ≡ q * 16 + o
    → o + length xs ≤ 16 → xors xs (drop o (E (counter_at iv q))) ≡ ctr E iv k xs
unfolding ctr xors stream_byte
ctr_within E iv q n o k [] e l = refl
ctr_within E iv q n o k (x ∷ xs) e l =
    let d : k / 16 ≡ q = omega arith in
    let m : k % 16 ≡ o = omega arith in
    rw (drop-cons (E (counter_at iv q)) o 0 (omega arith), d, m)
    (ap (λ (l : List ℕ). x ⊕ get_or (E (counter_at iv q)) o 0 ∷ l) (ctr_within E iv q n (suc o) (suc k) xs (omega arith) (omega arith)))

-- i bytes of xs are done, and the counter block stands at b
pub record Streamed (E : Cipher) (c : List ℕ) (u : ℕ) (xs ys b : List ℕ) (i : ℕ) : Type 0 where
  pub filled : Filled xs ys (ctr E c u (take i xs)) i
  pub block : b ≡ counter_at c ((u + i) / 16)

pub stream_start : (E : Cipher) (c : List ℕ) (u : ℕ) (xs b : List ℕ) → b ≡ counter_at c (u / 16) → Streamed E c u xs xs b 0
unfolding ctr
stream_start E c u xs b e =
    let z : u + 0 ≡ u = omega arith in
    record { filled = fill_none xs [] refl; block = rw z e }

module _ {E : Cipher} {c : List ℕ} {u : ℕ} {xs ys b : List ℕ} {i : ℕ} (s : Streamed E c u xs ys b i) (n : ℕ) (some : 1 ≤ n)
    (within : (u + i) % 16 + n ≤ 16) where
  pub stream_part : i + n ≤ length xs → (pad z : List ℕ) → length pad ≡ 16 → pad ≡ E b
      → z ≡ xors (take (i + n - i) (drop i ys)) (drop ((u + i) % 16) pad)
      → Filled xs (put_mid i (i + n - i) ys z) (ctr E c u (take (i + n) xs)) (i + n)
  stream_part fits pad z k ep ez =
      let m : i + n - i ≡ n = omega arith in
      let p : length (E (counter_at c ((u + i) / 16))) ≡ 16 = ap (λ (l : List ℕ). length (E l)) (sym s.block) ∙ ap length (sym ep) ∙ k in
      let t : length (take n (drop i xs)) ≡ n = length-take-le n (drop i xs) (simp length-drop (omega arith)) in
      let w : length (take i xs) ≡ i = length-take-le i xs (omega arith) in
      let e : z ≡ ctr E c (u + i) (take n (drop i xs)) =
      ez
      ∙ rw (m, fill_drop s.filled, ep, s.block)
      (ctr_within E c ((u + i) / 16) p ((u + i) % 16) (u + i) (take n (drop i xs)) (omega arith) (rw t within)) in
      fill_part s.filled (i + n) (omega arith) fits z (ctr E c u (take (i + n) xs))
      (ap length ez ∙ length-xors _ _ ∙ rw (m, fill_drop s.filled) t)
      (rw take-add
      (rw w at (ctr_append E c u (take i xs) (take n (drop i xs))) ∙ ap (λ (l : List ℕ). ctr E c u (take i xs) ++ l) (sym e)))

  pub stream_next : 8 ≤ length c → (u + (i + n)) % 16 ≡ 0 → counter_at b 1 ≡ counter_at c ((u + (i + n)) / 16)
  stream_next l e =
      let q : (u + i) / 16 + 1 ≡ (u + (i + n)) / 16 = omega arith in
      ap (λ (b : List ℕ). counter_at b 1) s.block ∙ steps c l ((u + i) / 16) 1 ∙ ap (counter_at c) q

  pub stream_same : ((u + (i + n)) % 16 ≡ 0 → ⊥) → b ≡ counter_at c ((u + (i + n)) / 16)
  stream_same e =
      let q : (u + i) / 16 ≡ (u + (i + n)) / 16 = omega arith in
      s.block ∙ ap (counter_at c) q

-- from q blocks on, the stream of the counter block q steps on
pub ctr_from : (E : Cipher) (c : List ℕ) → 8 ≤ length c → (q k : ℕ) (xs : List ℕ)
    → ctr E (counter_at c q) k xs ≡ ctr E c (q * 16 + k) xs
unfolding ctr stream_byte
ctr_from E c l q k [] = refl
ctr_from E c l q k (x ∷ xs) =
    let d : (q * 16 + k) / 16 ≡ q + k / 16 = omega arith in
    let m : (q * 16 + k) % 16 ≡ k % 16 = omega arith in
    let t : suc (q * 16 + k) ≡ q * 16 + suc k = omega arith in
    rw (d, m, ← (steps c l q (k / 16)))
    (ap (λ (r : List ℕ). x ⊕ get_or (E (counter_at (counter_at c q) (k / 16))) (k % 16) 0 ∷ r)
    (ctr_from E c l q (suc k) xs ∙ ap (λ (n : ℕ). ctr E c n xs) (sym t)))
