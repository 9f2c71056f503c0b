use Rattle.std.proofs.Common.{◌≡◌, refl, sym, ap, ◌∙◌, List, [], ◌∷◌, ◌++◌, ℕ, ◌+◌, ◌-◌, length, take, drop, get_or, arith, length-drop, length-take-le}
use Rattle.std.proofs.lemmas.List.{get_or-take, get_or-drop, get_or_push, length_push, take-take}
use Rattle.std.proofs.Math.Seq.{take-append_seam}
use Rattle.fips197.specs.InvCipher.{inv_sub_byte, inv_rounds, inv_cipher}
use Rattle.fips197.specs.Table.{inv_sbox}
use Rattle.fips197.proofs.SBox.{inv_sbox_rule}
use Rattle.fips197.proofs.Rounds.{inv_rounds-next, inv_rounds_end}
use Rattle.aes.proofs.inv_cipher.Goals as goal

-- The last of what is left of a list's start, and what is left before it.
last : {X : Type 0} (ks xs ys : List X) (k d : X) → xs ≡ take (length xs) ks → xs ≡ ys ++ k ∷ []
    → (get_or ks (length ys) d ≡ k) × (ys ≡ take (length ys) ks)
last ks xs ys k d e s =
    let m = length ys in
    let n : length xs ≡ m + 1 = ap length s ∙ length_push ys k in
    let t : take (m + 1) ks ≡ ys ++ k ∷ [] = ap (λ (j : ℕ). take j ks) (sym n) ∙ sym e ∙ s in (
      sym (get_or-take (m + 1) ks m d (omega arith)) ∙ ap (λ l. get_or l m d) t ∙ get_or_push ys k d m refl,
      sym (sym (take-take m (m + 1) ks (omega arith)) ∙ ap (take m) t ∙ take-append_seam ys (k ∷ [])),
    )

pub loop-k-init : goal.loop-k-init
loop-k-init c =
    let ks = take 9 (drop 1 c.args.keys) in
    let e : c.into_iter-k-iterator.result.iter.rest.now ≡ ks =
    ap (λ r. r.iter.rest.now) c.into_iter-k-iterator.ensures.into_iter_gives ∙ ap (λ r. r.rest.now) c.rev-k-items.ensures.source ∙ c.iter.ensures.rest in
    let n : length ks ≡ 9 = length-take-le 9 (drop 1 c.args.keys) (simp length-drop (omega arith)) in
    rw (e, n) (omega arith, sym (take-take 9 9 (drop 1 c.args.keys) (omega arith)), refl)

pub loop-k-preserved : goal.loop-k-preserved
loop-k-preserved c =
    let ks = c.args.keys in
    let i = c.loop-k.invariant in
    let xs = c.loop-k.k-iterator.iter.rest.now in
    let ys = c.next.new.self.iter.rest.now in
    let m = length ys in
    let s = c.in-Some.ensures.steps in
    let n : length xs ≡ m + 1 = ap length s ∙ length_push ys c.in-Some.k.now in
    let p = last (take 9 (drop 1 ks)) xs ys c.in-Some.k.now [] i.1 s in
    let k : get_or ks (length xs) [] ≡ c.in-Some.k.now =
    ap (λ (j : ℕ). get_or ks j []) (omega (arith, n)) ∙ sym (get_or-drop 1 ks m []) ∙ sym (get_or-take 9 (drop 1 ks) m [] (omega (arith, n, i.0))) ∙ p.0 in
    let d : length xs - 1 ≡ m = omega (arith, n) in (
      omega (arith, n, i.0),
      p.1,
      ap (inv_rounds ks m) c.inv_round-next.ensures ∙ sym (rw (k, d) at (inv_rounds-next ks c.loop-k.t (length xs) (omega (arith, n)))) ∙ i.2,
    )

pub returns : goal.returns
unfolding inv_cipher inv_sbox
returns c =
    let l = c.loop-k in
    let z = c.in-None.ensures.steps in
    rw (
      c.add_round_key.ensures,
      c.sub_bytes.ensures inv_sub_byte inv_sbox_rule,
      c.inv_shift_rows.ensures,
      inv_rounds_end c.args.keys l.t _ (length l.k-iterator.iter.rest.now) (omega (arith, z.0)) l.invariant.2,
      c.add_round_key-t.ensures,
    )
