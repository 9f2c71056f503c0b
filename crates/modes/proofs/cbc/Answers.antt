use Rattle.std.proofs.Common.{◌≡◌, ◌+◌, ◌-◌, ◌*◌, ◌<◌, length, take, drop, ◌∙◌, arith, length-drop, length-take-le}
use Rattle.octets.proofs.Fill.{fill_length}
use Rattle.modes_spec.proofs.Chained.{chain_start, chain_next, chain_done, chain_last}
use Rattle.modes.proofs.cbc.Goals as goal

pub loop-i-init : goal.loop-i-init
loop-i-init c = chain_start _ _ _ _ _

pub loop-i-preserved : goal.loop-i-preserved
loop-i-preserved c =
    let l = c.loop-i in
    let at = l.i * 16 in
    let s = l.invariant in
    let m : at + 16 - at ≡ 16 = omega arith in
    let n : (l.i + 1) * 16 ≡ at + 16 = omega arith in
    let k : length (take (at + 16 - at) (drop at l.part)) ≡ 16 =
    rw m (length-take-le 16 (drop at l.part) (simp length-drop (omega (arith, c.loop-i-test.true, fill_length s.filled)))) in
    let e = c.chain_block-next.ensures in
    rw n
    (chain_next s (omega (arith, c.loop-i-test.true)) c.chain_block-next.new.part c.chain_block-next.result
    (c.chain_block-next.auto.part ∙ k) e.0 e.1)

pub returns : goal.returns
returns c =
    let s = c.loop-i.invariant in
    let l : length c.args.part.now - c.loop-i.i * 16 < 16 = omega (arith, c.loop-i-test.false) in
    (chain_done s l, chain_last s l)
