use mathlib.Core.List.{◌∷◌}
use mathlib.Core.Path.{◌≡◌, refl, sym, ap, ap₂, subst, ◌∙◌}
use Prim.Native.Nat.{◌+◌}
use lib.ListN.{set}
use Rattle.std.proofs.Common.{append-nil}
use native.Mathlib.Numerals.{add-one}
use native.Mathlib.Omega.{arith}
use Rattle.fips197.specs.Field.{xtime}
use Rattle.fips197.specs.KeyExpansion.{rcon, next_key}
use Rattle.fips197.proofs.KeyExpansion.{AreKeys, round_key_zero, round_key-next, rcon-next, keys_start, keys_next, keys_all}
use Rattle.aes.proofs.key_expansion.Goals as goal

pub loop-slot-init : goal.loop-slot-init
unfolding rcon
loop-slot-init c =
    let key = c.args.key in
    rw c.load-k.ensures (sym (round_key_zero key), refl, keys_start key)

pub loop-slot-preserved : goal.loop-slot-preserved
loop-slot-preserved c =
    let l = c.loop-slot in
    let k = c.load-k.result in
    let i = l.slot-index in
    let next = c.next_key-next.result in
    let e = c.next_key-next.ensures ∙ ap₂ next_key l.invariant.0 l.invariant.1 ∙ sym (round_key-next k i) in
    let s : set (k ∷ l.slot-items) (i + 1) next ≡ k ∷ set l.slot-items i next = rw add-one in (
      e,
      c.xtime-rcon.ensures ∙ ap xtime l.invariant.1 ∙ sym (rcon-next i),
      rw s at (keys_next k (i + 1) (k ∷ l.slot-items) next (omega (arith, c.loop-slot-test.true)) l.invariant.2 e),
    )

pub returns : goal.returns
returns c =
    let l = c.loop-slot in
    let e : l.slot-index + 1 ≡ 11 = omega (arith, c.loop-slot-test.false, l.auto.slot-index-end) in
    let k = c.load-k.ensures in
    ap (λ r. c.load-k.result ∷ r) (append-nil l.slot-items)
    ∙ keys_all c.args.key (c.load-k.result ∷ l.slot-items) (subst (λ s. AreKeys s 11 (c.load-k.result ∷ l.slot-items)) k (rw e at l.invariant.2))
