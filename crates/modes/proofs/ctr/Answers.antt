use Rattle.std.proofs.Common.{◌≡◌, ℕ, ◌+◌, ◌-◌, ◌*◌, ◌/◌, ◌%◌, List, length, get_or, take, sym, ◌∙◌, arith, take_all, w8, Fits, rules}
use borrow.Rule.Slice.PartMut.{put_mid}
use Rattle.aes.specs.Block.{encipher}
use Rattle.octets.proofs.Fill.{Filled, fill_length, fill_all}
use Rattle.modes_spec.specs.Modes.{ctr}
use Rattle.modes_spec.proofs.Counter.{steps, no_step}
use Rattle.modes_spec.proofs.Streamed.{stream_start, stream_part, stream_next, stream_same, ctr_from}
use Rattle.modes.proofs.ctr.Goals.{After-xor_part}
use Rattle.modes.proofs.ctr.Goals as goal

pub loop-at-init : goal.loop-at-init
loop-at-init c =
    let b = c.counter_after-b.result in
    let n : length b ≡ 16 = search rules in
    let f : (i : ℕ) → Fits w8 (get_or b i 0) = λ i. search rules in
    let z : (c.args.used % 16) / 16 ≡ 0 = omega arith in
    stream_start _ b _ _ b (rw z (sym (no_step b n (λ i. (f i).fits))))

-- one part more is done, whether or not it ends a block
turned : (c : After-xor_part) → (let l = c.loop-at in let n : ℕ = c.min.result in let a = c.args in
    Filled a.part.now (put_mid l.at (l.at + n - l.at) l.part c.xor_part.new.part)
    (ctr (encipher a.keys) c.counter_after-b.result (a.used % 16) (take (l.at + n) a.part.now)) (l.at + n))
turned c =
    let l = c.loop-at in
    let n : ℕ = c.min.result in
    let m = c.min.ensures in
    let t = c.loop-at-test.true in
    let pad = c.encipher.result.0 in
    let k : length pad ≡ 16 = search rules in
    stream_part l.invariant n (omega (arith, m, t)) (omega (arith, m)) (omega (arith, m, t, fill_length l.invariant.filled))
    pad c.xor_part.new.part k c.encipher.ensures c.xor_part.ensures

pub loop-at-preserved-then-from-at-eq0 : goal.loop-at-preserved-then-from-at-eq0
loop-at-preserved-then-from-at-eq0 c =
    let e = c.min.ensures in
    let l = c.loop-at-test.true in
    let k : length c.counter_after-b.result ≡ 16 = search rules in
    record {
      filled = turned (goal.at.loop-at-preserved-then-from-at-eq0 c).After-xor_part;
      block = c.counter_after-next.ensures ∙ stream_next c.loop-at.invariant c.min.result (omega (arith, e, l)) (omega (arith, e, l)) (omega arith) c.if-from-at-eq0.true;
    }

pub loop-at-preserved : goal.loop-at-preserved
loop-at-preserved c =
    let e = c.min.ensures in
    let l = c.loop-at-test.true in
    record {
      filled = turned (goal.at.loop-at-preserved c).After-xor_part;
      block = stream_same c.loop-at.invariant c.min.result (omega (arith, e, l)) (omega (arith, e, l)) c.if-from-at-eq0.false;
    }

pub returns : goal.returns
returns c =
    let s = c.loop-at.invariant in
    let a = c.args in
    let xs : List ℕ = a.part.now in
    let i : ℕ = c.loop-at.at in
    let l : length xs ≡ i = omega (arith, fill_length s.filled, s.filled.fits) in
    let k : length a.counter.0 ≡ 16 = search rules in
    let q : a.used / 16 * 16 + a.used % 16 ≡ a.used = omega arith in
    let r : a.used / 16 + (a.used % 16 + i) / 16 ≡ (a.used + i) / 16 = omega arith in (
      (rw (take_all i xs (omega arith)) at (fill_all s.filled (omega arith)))
          ∙ rw c.counter_after-b.ensures (ctr_from (encipher a.keys) a.counter.0 (omega arith) (a.used / 16) (a.used % 16) xs ∙ rw q),
      s.block ∙ rw (c.counter_after-b.ensures, l) (steps a.counter.0 (omega arith) (a.used / 16) ((a.used % 16 + i) / 16) ∙ rw r),
    )
