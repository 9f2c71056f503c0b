use mathlib.Core.List.{List, []}
use mathlib.Core.Path.{◌≡◌, refl, ap, ◌∙◌}
use Prim.Native.Nat.{ℕ, ◌+◌, ◌*◌, ◌/◌, ◌<◌}
use lib.ListN.{length, get_or, length-set}
use lib.Seq.{paste-zero}
use Rattle.std.proofs.Common.{Option, true}
use Rattle.std.specs.Option.{unwrap_or}
use Rattle.std.specs.Simd.{first_chunks}
use Rattle.octets.proofs.Bytes.{paste-placed, placed_whole}
use Rattle.text.specs.Text as spec
use Rattle.text.proofs.Digits.{some_worth}
use Rattle.text.proofs.Pairs.{unhex-length, unhex-next, pair_at, pair_below}
use native.Mathlib.Omega.{arith}
use Rattle.text.proofs.read_pairs.Goals as goal

-- What a digit of a pair is worth.
digit : (word : List ℕ) (ps : List (List ℕ)) (i r j : ℕ) → ps ≡ first_chunks 2 (length word / 2) word → j ≡ 2 * i + r
    → i < length word / 2 → r < 2 → spec.is_bytes word ≡ true → {v : Option ℕ} → v ≡ spec.value (get_or (get_or ps i []) r 0)
    → {u : ℕ} → u ≡ unwrap_or v 0 → (u ≡ spec.worth (get_or word j 0)) × (spec.worth (get_or word j 0) < 16)
digit word ps i r j e f l h b v u =
    let below = pair_below word b j (omega arith) (omega arith) in
    let at = ap (λ (s : List (List ℕ)). get_or (get_or s i []) r 0) e ∙ pair_at word (length word / 2) i r j f l h in
    (u ∙ ap (λ o. unwrap_or o 0) (v ∙ ap spec.value at) ∙ some_worth (spec.value (get_or word j 0)) below, below)

pub loop-i-init : goal.loop-i-init
loop-i-init c = (refl, paste-zero c.args.out.now 0 (spec.unhex c.args.word.now))

pub overflow_mul-out : goal.overflow_mul-out
overflow_mul-out c =
    let i = c.loop-i.i in
    let w = c.args.word.now in
    let ps = c.as_chunks.result.0.now in
    let n : i < length w / 2 = omega (arith, c.loop-i-test.true, c.as_chunks.ensures.front_len) in
    let front = c.as_chunks.ensures.front in
    let high = digit w ps i 0 (2 * i) front (omega arith) n (omega arith) c.requires.1 c.value.ensures c.unwrap_or-high.ensures in
    omega (arith, high.0, high.1)

pub overflow_add-out : goal.overflow_add-out
overflow_add-out c =
    let i = c.loop-i.i in
    let w = c.args.word.now in
    let ps = c.as_chunks.result.0.now in
    let n : i < length w / 2 = omega (arith, c.loop-i-test.true, c.as_chunks.ensures.front_len) in
    let front = c.as_chunks.ensures.front in
    let high = digit w ps i 0 (2 * i) front (omega arith) n (omega arith) c.requires.1 c.value.ensures c.unwrap_or-high.ensures in
    let low = digit w ps i 1 (2 * i + 1) front refl n (omega arith) c.requires.1 c.value-in-loop-i.ensures c.unwrap_or-low.ensures in
    omega (arith, high.0, high.1, low.0, low.1)

pub loop-i-preserved : goal.loop-i-preserved
loop-i-preserved c =
    let i = c.loop-i.i in
    let w = c.args.word.now in
    let ps = c.as_chunks.result.0.now in
    let n : i < length w / 2 = omega (arith, c.loop-i-test.true, c.as_chunks.ensures.front_len) in
    let front = c.as_chunks.ensures.front in
    let high = digit w ps i 0 (2 * i) front (omega arith) n (omega arith) c.requires.1 c.value.ensures c.unwrap_or-high.ensures in
    let low = digit w ps i 1 (2 * i + 1) front refl n (omega arith) c.requires.1 c.value-in-loop-i.ensures c.unwrap_or-low.ensures in
    let l = c.loop-i in
    (simp length-set l.invariant.0, rw (high.0, low.0, l.invariant.1) (unhex-next c.args.out.now w i n (omega (arith, c.requires.0))))

pub returns : goal.returns
returns c =
    let a = c.args in
    let l = c.loop-i in
    let n = unhex-length a.word.now in
    let e : l.i ≡ length (spec.unhex a.word.now) = omega (arith, n, c.loop-i-test.false, l.auto.i-end, c.as_chunks.ensures.front_len) in
    l.invariant.1 ∙ rw e (paste-placed a.out.now 0 (spec.unhex a.word.now) (omega (arith, n))) ∙ placed_whole a.out.now (spec.unhex a.word.now) (omega (arith, n))
