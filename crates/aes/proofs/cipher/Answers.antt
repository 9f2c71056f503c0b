use Rattle.std.proofs.Common.{◌≡◌, refl, ◌∙◌, [], ◌+◌, length, take, drop, get_or, arith, length-drop, length-take-le}
use Rattle.std.proofs.lemmas.List.{get_or-take, get_or-drop}
use Rattle.fips197.specs.Cipher.{sub_byte, rounds, cipher}
use Rattle.fips197.specs.Table.{sbox}
use Rattle.fips197.proofs.SBox.{sbox_rule}
use Rattle.fips197.proofs.Rounds.{rounds-next}
use Rattle.aes.proofs.cipher.Goals as goal

pub loop-k-init : goal.loop-k-init
unfolding rounds
loop-k-init c = refl

pub loop-k-preserved : goal.loop-k-preserved
loop-k-preserved c =
    let i = c.loop-k.k-index in
    let ks = c.args.keys in
    let n : length (take 9 (drop 1 ks)) ≡ 9 = length-take-le 9 (drop 1 ks) (simp length-drop (omega arith)) in
    let k : get_or (take 9 (drop 1 ks)) i [] ≡ get_or ks (1 + i) [] =
    get_or-take 9 (drop 1 ks) i [] (omega (arith, c.loop-k-test.true, n)) ∙ get_or-drop 1 ks i [] in
    let m : 1 + i ≡ i + 1 = omega arith in
    rw (rounds-next ks c.add_round_key-t.result i, ← c.loop-k.invariant, ← m, ← k) c.round-next.ensures

pub returns : goal.returns
unfolding cipher sbox
returns c =
    let ks = c.args.keys in
    let n : length (take 9 (drop 1 ks)) ≡ 9 = length-take-le 9 (drop 1 ks) (simp length-drop (omega arith)) in
    let e : c.loop-k.k-index ≡ 9 = omega (arith, c.loop-k-test.false, c.loop-k.auto.k-index-end, n) in
    rw (
      c.add_round_key.ensures,
      c.shift_rows.ensures,
      c.sub_bytes.ensures sub_byte sbox_rule,
      c.loop-k.invariant,
      e,
      c.add_round_key-t.ensures,
    )
