-- Samples locked with start vectors of one issuer share no counter block.
use mathlib.Core.Bool.{false}
use mathlib.Core.List.{List, []}
use mathlib.Core.Path.{◌≡◌, ◌∙◌}
use Prim.Native.Nat.{ℕ, ◌+◌, ◌/◌, ◌≤◌, ◌<◌}
use native.Mathlib.Omega.{arith}
use lib.ListN.{length, take, replicate}
use lib.Seq.{take_at, take_all}
use borrow.Author.Tests.{le-ltb, ne_eqb}
use Rattle.octets.specs.Bytes.{digits, filled}
use Rattle.octets.proofs.Bytes.{length_digits, filled-short, filled_all, get_d_list_of}
use Rattle.modes_spec.specs.Modes.{counter_at}
use Rattle.subsample_spec.specs.Auxiliary.{iv_read}
use Rattle.scheme.specs.Counters.{counter_blocks}
use Rattle.sample_spec.specs.Sample.{Inputs, parameters_of, iv_of}
use Rattle.sample_spec.proofs.Counters.{blocks_fit, blocks_by_length}
use Rattle.issuer_spec.specs.declared.IvSize.TheVariants.{Eight, Sixteen}
use Rattle.issuer_spec.specs.declared.Issuer.{Issuer}
use Rattle.issuer_spec.specs.Issuer.{most_blocks, start, vector, bad_count}
use Rattle.issuer_spec.specs.Grants.{grant_at, advanced, Covers}
use Rattle.issuer_spec.specs.Archive.{Sample, answer_to, needed, block_of, LockedWith}
use Rattle.issuer_spec.proofs.Order.{never_again, in_order}
use Rattle.issuer_spec.proofs.Starting.{Begun, eight, sixteen, refused, begun, first_length}
use Rattle.issuer_spec.proofs.NeverTwice.{vector-length, never_twice}

-- ---- How many blocks a sample needs.

-- an accepted sample never needs more than a grant may name
pub needs_at_most : (x : Sample) → answer_to x ≡ 0 → needed x ≤ most_blocks
needs_at_most x h = blocks_fit x.inputs x.length h

-- a count of its length by 16, rounded up, is always enough
pub needs_by_length : (x : Sample) → answer_to x ≡ 0 → needed x ≤ (x.length + 15) / 16
needs_by_length x h = blocks_by_length x.inputs x.length h

-- its own count is allowed, where it needs any
pub count-allowed : (x : Sample) → answer_to x ≡ 0 → 1 ≤ needed x → bad_count (needed x) ≡ false
count-allowed x h l = rw (le-ltb (needed x) 1 l, le-ltb most_blocks (needed x) (needs_at_most x h))

-- ---- Two samples.

block_is : (x : Sample) (a : ℕ) → a < needed x → block_of x a ≡ counter_at (iv_of x.inputs) a
unfolding counter_blocks
block_is x a h = get_d_list_of (needed x) (counter_at (iv_of x.inputs)) [] a h

module _ (bytes counts : List ℕ) where
  -- a block that a sample needs is one that its grant covers
  covered : (k : ℕ) (x : Sample) → LockedWith bytes counts k x → (a : ℕ) → a < needed x → Covers bytes counts k (block_of x a)
  covered k x l a h =
      record {
        accepted = l.grant;
        step = a;
        named = omega (arith, l.enough);
        there = block_is x a h ∙ rw l.iv;
      }

  -- with a start vector of its own each, they share none
  pub no_block_shared : (j k : ℕ) → (j ≡ k → ⊥) → (x y : Sample) → LockedWith bytes counts j x → LockedWith bytes counts k y
      → (a b : ℕ) → a < needed x → b < needed y → block_of x a ≡ block_of y b → ⊥
  no_block_shared j k d x y l m a b p q e =
      d (never_twice bytes counts j k (block_of x a) (covered j x l a p) (rw e (covered k y m b q))).0

-- ---- Handing a start vector on.

-- a start vector is its own bytes, filled out
filled-eight : (f : List ℕ) (v : ℕ) → filled 16 (take 8 (vector Eight f v)) ≡ vector Eight f v
unfolding vector
filled-eight f v =
    let l = length_digits 8 v in
    rw (take_at (digits 8 v) (replicate 8 0) 8 l) (filled-short 16 (digits 8 v) (omega arith) ∙ rw l)

filled_sixteen : (f : List ℕ) (v : ℕ) → length f ≡ 8 → filled 16 (take 16 (vector Sixteen f v)) ≡ vector Sixteen f v
filled_sixteen f v l =
    let n = vector-length f l Sixteen v in
    rw (take_all 16 (vector Sixteen f v) (omega arith)) (filled_all 16 (vector Sixteen f v) n)

-- Auxiliary data of a protected track that begins with a granted start vector, as many bytes of it as the issuer was started from, has
-- that IV.
module _ (bytes counts : List ℕ) (k : ℕ) (a : (grant_at (start bytes).issuer counts k).answer ≡ 0) (x : Inputs)
    (o : (parameters_of x).protected ≡ 1) (s : (parameters_of x).iv_size ≡ length bytes)
    (e : take (length bytes) x.auxiliary ≡ take (length bytes) (grant_at (start bytes).issuer counts k).vector.0) where
  abbrev i : Issuer
  i = (start bytes).issuer

  granted_vector : Begun bytes
      → (filled 16 (take (length bytes) (grant_at i counts k).vector.0) ≡ (grant_at i counts k).vector.0) × (0 < length bytes)
  granted_vector (eight l f) =
      let v = i.counter + advanced i counts k in
      let h : (grant_at i counts k).vector.0 ≡ vector Eight i.first v = (in_order i counts k a).handed ∙ rw f in
      (rw (l, h) (filled-eight i.first v), omega arith)
  granted_vector (sixteen l f) =
      let v = i.counter + advanced i counts k in
      let h : (grant_at i counts k).vector.0 ≡ vector Sixteen i.first v = (in_order i counts k a).handed ∙ rw f in
      (rw (l, h) (filled_sixteen i.first v (first_length bytes)), omega arith)
  granted_vector (refused f) = absurd (never_again i (rw f) counts k a)

  pub iv_handed_on : iv_of x ≡ (grant_at (start bytes).issuer counts k).vector.0
  unfolding iv_of iv_read
  iv_handed_on =
      let g = granted_vector (begun bytes) in
      let z : length bytes ≡ 0 → ⊥ = λ n. omega arith in
      rw (o, s, ne_eqb (length bytes) 0 z, e) g.0
