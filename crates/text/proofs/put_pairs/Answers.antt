use mathlib.Core.Path.{◌≡◌, refl, ◌∙◌}
use Prim.Native.Nat.{◌*◌}
use lib.ListN.{length, length-set}
use lib.Seq.{paste-zero}
use Rattle.octets.proofs.Bytes.{paste-placed, placed_whole}
use Rattle.text.specs.Text as spec
use Rattle.text.proofs.Pairs.{hex_length, paste_pair}
use native.Mathlib.Omega.{arith}
use Rattle.text.proofs.put_pairs.Goals as goal

pub loop-i-init : goal.loop-i-init
loop-i-init c = (refl, paste-zero c.args.out.now 0 (spec.hex c.args.s.now))

pub loop-i-preserved : goal.loop-i-preserved
loop-i-preserved c =
    let a = c.args in
    let l = c.loop-i in (
      simp length-set l.invariant.0,
      rw (l.invariant.1, c.digit.ensures, c.digit-in-loop-i.ensures) (paste_pair a.out.now a.s.now l.i (omega arith) (omega arith)),
    )

pub returns : goal.returns
returns c =
    let a = c.args in
    let l = c.loop-i in
    let n = hex_length a.s.now in
    let e : 2 * l.i ≡ length (spec.hex a.s.now) = omega (arith, n) in
    l.invariant.1 ∙ rw e (paste-placed a.out.now 0 (spec.hex a.s.now) (omega (arith, n))) ∙ placed_whole a.out.now (spec.hex a.s.now) (omega (arith, n))
