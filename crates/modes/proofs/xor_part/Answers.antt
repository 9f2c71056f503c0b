use Rattle.std.proofs.Common.{◌≡◌, ℕ, ◌+◌, ◌<◌, ◌≤◌, List, length, get_or, drop, arith, length-drop, get_or-drop, take_all, rules}
use Rattle.octets.specs.Xor.{◌⊕◌}
use Rattle.octets.proofs.Fill.{fill_none, fill_length, fill_all, fill_at, fill_next}
use Rattle.modes_spec.proofs.Strings.{xors-none, xors-next}
use Rattle.modes.proofs.xor_part.Goals as goal

pub loop-i-init : goal.loop-i-init
loop-i-init c = fill_none _ _ (xors-none _)

pub loop-i-preserved : goal.loop-i-preserved
unfolding ◌⊕◌
loop-i-preserved c =
    let a = c.args in
    let i : ℕ = c.loop-i.i in
    let xs : List ℕ = a.part.now in
    let f = c.loop-i.invariant in
    let n : length a.pad ≡ 16 = search rules in
    let l : i < length xs = omega (arith, fill_length f) in
    let k : i < length (drop a.used a.pad) = simp length-drop (omega (arith, fill_length f)) in
    rw (fill_at f l)
    (fill_next f l (get_or xs i 0 ⊕ get_or a.pad (a.used + i) 0) _
    (rw get_or-drop at (xors-next xs (drop a.used a.pad) i l k)))

pub returns : goal.returns
returns c =
    let f = c.loop-i.invariant in
    let l : length c.args.part.now ≤ c.loop-i.i = omega (arith, fill_length f) in
    rw (take_all c.loop-i.i c.args.part.now l) at (fill_all f l)
