-- No two grants from one start cover the same counter block.
use mathlib.Core.List.{List}
use mathlib.Core.Path.{◌≡◌, sym, ap, ◌∙◌}
use Prim.Native.Nat.{ℕ, ◌+◌, ◌-◌, ◌%◌, ◌^◌, ◌≤◌, ◌<◌}
use native.Mathlib.Omega.{arith}
use lib.ListN.{length, get_or, take, replicate, length-append}
use lib.Seq.{take_at}
use Rattle.octets.specs.Bytes.{number, digits}
use Rattle.octets.proofs.Bytes.{length_digits, number_digits, number-after}
use Rattle.modes_spec.specs.Modes.{counter_at}
use Rattle.modes_spec.proofs.Counter.{count_at_lem, head_at, distinct}
use Rattle.issuer_spec.specs.declared.IvSize.{IvSize}
use Rattle.issuer_spec.specs.declared.IvSize.TheVariants.{Eight, Sixteen}
use Rattle.issuer_spec.specs.declared.Issuer.{Issuer}
use Rattle.issuer_spec.specs.Issuer.{largest, vector, advance, start}
use Rattle.issuer_spec.specs.Grants.{grant_at, advanced, Covers}
use Rattle.issuer_spec.proofs.Order.{in_order, advanced_later}
use Rattle.issuer_spec.proofs.Starting.{first_length}

-- ---- One counter block.

-- The counter that block a of a grant takes up, where v is the grant's own.
unfoldable taken_up : IvSize → ℕ → ℕ → ℕ
taken_up Eight v a = v
taken_up Sixteen v a = v + a

module _ (f : List ℕ) (l : length f ≡ 8) where
  pub vector-length : (s : IvSize) (v : ℕ) → length (vector s f v) ≡ 16
  unfolding vector
  vector-length Eight v = length-append (digits 8 v) (replicate 8 0) ∙ rw (length_digits 8 v)
  vector-length Sixteen v = length-append f (digits 8 v) ∙ rw (l, length_digits 8 v)

  vector_head : (v : ℕ) → take 8 (vector Eight f v) ≡ digits 8 v
  unfolding vector
  vector_head v = take_at (digits 8 v) (replicate 8 0) 8 (length_digits 8 v)

  vector-count : (v : ℕ) → v ≤ largest → number 8 (vector Sixteen f v) 8 ≡ v
  unfolding vector
  vector-count v h = number-after 8 f (digits 8 v) 8 l ∙ number_digits 8 v (omega arith)

  module _ (v w a b : ℕ) (hv : v ≤ largest) (hw : w ≤ largest) where
    heads : (s : IvSize) → counter_at (vector s f v) a ≡ counter_at (vector s f w) b → take 8 (vector s f v) ≡ take 8 (vector s f w)
    heads s e =
        sym (head_at (vector s f v) (omega (arith, vector-length s v)) a) ∙ ap (take 8) e
        ∙ head_at (vector s f w) (omega (arith, vector-length s w)) b

    counts : (s : IvSize) → counter_at (vector s f v) a ≡ counter_at (vector s f w) b
        → (number 8 (vector s f v) 8 + a) % 2 ^ 64 ≡ (number 8 (vector s f w) 8 + b) % 2 ^ 64
    counts s e =
        sym (count_at_lem (vector s f v) (omega (arith, vector-length s v)) a) ∙ ap (λ (x : List ℕ). number 8 x 8) e
        ∙ count_at_lem (vector s f w) (omega (arith, vector-length s w)) b

    -- equal blocks take up the same counter
    same_counter : (s : IvSize) → taken_up s v a ≤ largest → taken_up s w b ≤ largest
        → counter_at (vector s f v) a ≡ counter_at (vector s f w) b → taken_up s v a ≡ taken_up s w b
    unfolding taken_up
    same_counter Eight p q e =
        let d : digits 8 v ≡ digits 8 w = sym (vector_head v) ∙ heads Eight e ∙ vector_head w in
        sym (number_digits 8 v (omega arith)) ∙ ap (λ (x : List ℕ). number 8 x 0) d ∙ number_digits 8 w (omega arith)
    same_counter Sixteen p q e = omega (arith, counts Sixteen e, vector-count v hv, vector-count w hw)

-- the blocks of a grant take up fewer counters than it advances by, so that a later one is past them
apart : (s : IvSize) (v w n a b : ℕ) → a < n → v + advance s n ≤ w → taken_up s v a < taken_up s w b
unfolding taken_up advance
apart Eight v w n a b h l = omega arith
apart Sixteen v w n a b h l = omega arith

within : (s : IvSize) (v n a : ℕ) → a < n → v + (advance s n - 1) ≤ largest → taken_up s v a ≤ largest
unfolding taken_up advance
within Eight v n a h l = omega arith
within Sixteen v n a h l = omega arith

-- ---- Any list of grants.

module _ (i : Issuer) (l : length i.first ≡ 8) (ns : List ℕ) where
  -- the counter of grant k
  abbrev at : ℕ → ℕ
  at k = i.counter + advanced i ns k

  -- block a of accepted grant k
  module _ (k a : ℕ) (h : (grant_at i ns k).answer ≡ 0) (n : a < get_or ns k 0) where
    counter_below : at k ≤ largest
    counter_below = omega (arith, (in_order i ns k h).below)

    taken_below : taken_up i.size (at k) a ≤ largest
    taken_below = within i.size (at k) (get_or ns k 0) a n (in_order i ns k h).below

  module _ (j k a b : ℕ) (hj : (grant_at i ns j).answer ≡ 0) (hk : (grant_at i ns k).answer ≡ 0) (nj : a < get_or ns j 0)
      (nk : b < get_or ns k 0) (e : counter_at (grant_at i ns j).vector.0 a ≡ counter_at (grant_at i ns k).vector.0 b) where
    same_taken : taken_up i.size (at j) a ≡ taken_up i.size (at k) b
    same_taken =
        same_counter i.first l (at j) (at k) a b (counter_below j a hj nj) (counter_below k b hk nk) i.size (taken_below j a hj nj)
        (taken_below k b hk nk) (rw ((in_order i ns j hj).handed, (in_order i ns k hk).handed) at e)

    not_before : j < k → ⊥
    not_before h =
        let p : at j + advance i.size (get_or ns j 0) ≤ at k = omega (arith, advanced_later i ns j k h hj) in
        omega (arith, apart i.size (at j) (at k) (get_or ns j 0) a b nj p, same_taken)

-- ---- From a start.

module _ (bytes counts : List ℕ) (j k : ℕ) (block : List ℕ) (p : Covers bytes counts j block) (q : Covers bytes counts k block) where
  abbrev i : Issuer
  i = (start bytes).issuer

  same_block : counter_at (grant_at i counts j).vector.0 p.step ≡ counter_at (grant_at i counts k).vector.0 q.step
  same_block = sym p.there ∙ q.there

  same-grant : j ≡ k
  same-grant =
      let l = first_length bytes in
      let after : j < k → ⊥ = not_before i l counts j k p.step q.step p.accepted q.accepted p.named q.named same_block in
      let before : k < j → ⊥ = not_before i l counts k j q.step p.step q.accepted p.accepted q.named p.named (sym same_block) in
      omega arith

  same_step : p.step ≡ q.step
  same_step =
      let g = in_order i counts j p.accepted in
      let h = in_order i counts k q.accepted in
      let v = vector-length i.first (first_length bytes) i.size (i.counter + advanced i counts j) in
      let l : length (grant_at i counts j).vector.0 ≡ 16 = rw g.handed v in
      distinct (grant_at i counts j).vector.0 (omega arith) p.step q.step (omega (arith, p.named, g.few))
      (omega (arith, q.named, h.few))
      (same_block ∙ ap (λ (n : ℕ). counter_at (grant_at i counts n).vector.0 q.step) (sym same-grant))

-- For every start and every list of grants after it: no two accepted ones cover the same counter block, and none covers one twice.
pub never_twice : (bytes counts : List ℕ) (j k : ℕ) (block : List ℕ) (p : Covers bytes counts j block)
    (q : Covers bytes counts k block) → (j ≡ k) × (p.step ≡ q.step)
never_twice bytes counts j k block p q = (same-grant bytes counts j k block p q, same_step bytes counts j k block p q)
