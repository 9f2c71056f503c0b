use mathlib.Core.Bool.{cond}
use mathlib.Core.Path.{◌≡◌, refl, sym, ◌∙◌}
use Prim.Native.Nat.{ℕ}
use mir.Val.{Fits}
use mir.Syntax.{w8}
use lib.ListN.{length, get_or}
use Rattle.aes.specs.Block.{encipher_length, decipher_length}
use Rattle.scheme.proofs.Ciphering.{run_counter, run_chain}
use borrow.Author.Rules.{rules}
use Rattle.part.proofs.walk.cipher_run.Goals as goal
use Rattle.part.proofs.walk.cipher_run.Goals.{then-restart, else-restart}

pub returns-in-Counter : goal.returns-in-Counter
returns-in-Counter c =
    let sized : length c.args.progress.block.0 ≡ 16 = search rules in
    let small : (i : ℕ) → Fits w8 (get_or c.args.progress.block.0 i 0) = λ i. search rules in
    λ fs.
    run_counter _ _ _ _ _ fs _ c.args.progress.block.0 _ _ _ _ (sym c.mode.ensures ∙ c.in-Counter.is)
    (record { size = sized; small = λ i. (small i).fits }) c.requires.0 c.ctr.ensures.0 c.ctr.ensures.1

pub returns-after-restart : goal.returns-after-restart
returns-after-restart c =
    λ fs.
    let m = sym c.mode.ensures ∙ c.in-Chain.is in
    let o : c.if-restart.chain.0 ≡ cond c.args.restart c.args.how.iv.0 c.args.progress.block.0 =
    elim c.if-restart.branch [
      | then-restart w ↦ rw (w.chain-is, w.if-restart.true) w.first_block-chain.ensures
      | else-restart w ↦ rw (w.chain-is, w.if-restart.false) refl
    ]
    in
    run_chain _ _ _ _ _ fs _ c.args.progress.block.0 _ _ _ _ m (λ b l. encipher_length c.args.how.keys.now b)
    (λ b l. decipher_length c.args.how.keys.now b) (c.requires.1 m) (rw o at c.cbc.ensures.0) (rw o at c.cbc.ensures.1)
