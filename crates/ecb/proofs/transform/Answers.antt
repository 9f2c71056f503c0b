use Rattle.std.proofs.Common.{◌≡◌, ◌≤◌, ◌+◌, ◌-◌, ◌*◌, length, take, drop, ap, sym, ◌∙◌, arith, length-drop, length-take-le, rules}
use borrow.Rule.Slice.PartMut.{same_len_mid}
use Rattle.octets.proofs.Bytes.{filled_all}
use Rattle.ecb.proofs.Blocks.{next, end}
use Rattle.ecb.proofs.transform.Goals as goal

pub loop-i-preserved : goal.loop-i-preserved
loop-i-preserved g c =
    let l = c.loop-i in
    let at = l.i * 16 in
    let within : at + 16 ≤ length l.«data» = omega (arith, c.loop-i-test.true, l.invariant.0) in
    let m : at + 16 - at ≡ 16 = omega arith in
    let n : (l.i + 1) * 16 ≡ at + 16 = omega arith in
    let rest : 16 ≤ length (drop at l.«data») = simp length-drop (omega (arith, within)) in
    let k : length c.f-out.result.0 ≡ 16 = search rules in
    let z = c.copy_from_slice.ensures.after in
    let t : length (take (at + 16 - at) (drop at l.«data»)) ≡ 16 = rw m (length-take-le 16 (drop at l.«data») rest) in (
      same_len_mid at _ l.«data» _ (ap length z ∙ k ∙ sym t) ∙ l.invariant.0,
      λ e h. rw n (next (l.invariant.1 e h) (omega (arith, within, l.invariant.0)) _ (ap length z ∙ k)
          (z ∙ h _ _ c.f-out.ensures ∙ ap e (c.filled.ensures ∙ filled_all 16 _ t))),
    )

pub returns : goal.returns
returns g c = λ e h.
    end (c.loop-i.invariant.1 e h) (omega (arith, c.loop-i-test.false, c.loop-i.invariant.0))
