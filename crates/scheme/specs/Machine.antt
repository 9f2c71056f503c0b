-- Document 01, "Pieces": a sample taken one byte at a time.
use Rattle.std.specs.Prelude.{Bool, false, cond, List, [], ◌∷◌, ◌++◌, ℕ, suc, ◌%◌, eqb, length, get_or, take}
use Rattle.octets.specs.Xor.{◌⊕◌}
use Rattle.modes_spec.specs.declared.Direction.{Direction}
use Rattle.modes_spec.specs.Modes.{Cipher, counter_at, block_out, block_chain}
use Rattle.subsample_spec.specs.declared.Entry.{Entry}
use Rattle.scheme.specs.declared.Pattern.{Pattern}
use Rattle.scheme.specs.declared.Mode.{Mode}
use Rattle.scheme.specs.declared.Mode.TheVariants.{Counter, Chain}
use Rattle.scheme.specs.declared.Scheme.{Scheme}
use Rattle.scheme.specs.declared.Scheme.TheVariants.{Cenc, Cbc1, Cens, Cbcs}
use Rattle.scheme.specs.Layout.{mask, restart_mask, count}

-- What is kept between two bytes: the position, the counter or chain block, and the bytes held.
pub record State : Type 0 where
  pub position : ℕ
  pub block : List ℕ
  pub held : List ℕ

-- A state with nothing held.
abbrev pub free : ℕ → List ℕ → State
free p c = record { position = p; block = c; held = [] }

-- A state, and the bytes that a step released.
pub record Stepped : Type 0 where
  pub state : State
  pub released : List ℕ

-- The mode of operation that a scheme uses.
unfoldable pub mode_of : Scheme → Mode
mode_of Cenc = Counter
mode_of Cens = Counter
mode_of Cbc1 = Chain
mode_of Cbcs = Chain

-- The machine over a sample's marks: M, which bytes are ciphered, and F, in which the chain starts anew.
module _ (E D : Cipher) (d : Direction) (k : Mode) (iv : List ℕ) (M F : List Bool) where
  -- The block that a block at position x is chained to.
  unfoldable pub chain_at : ℕ → List ℕ → List ℕ
  chain_at x chain = cond (get_or F x false) iv chain

  -- A byte that is not ciphered passes.
  unfoldable pub plain : State → ℕ → Stepped
  plain t b = record { state = record { position = suc t.position; block = t.block; held = t.held }; released = b ∷ [] }

  -- A ciphered byte of a counter scheme: r ciphered bytes came before it, and the counter is raised at each 16th.
  unfoldable pub counted : ℕ → State → ℕ → Stepped
  counted r t b =
      record {
        state = record {
          position = suc t.position;
          block = cond (eqb (r % 16) 15) (counter_at t.block 1) t.block;
          held = t.held;
        };
        released = b ⊕ get_or (E t.block) (r % 16) 0 ∷ [];
      }

  -- A ciphered byte of a chain scheme is held until its block is complete.
  unfoldable pub chained : State → ℕ → Stepped
  chained t b =
      cond (eqb (length t.held) 15)
      (record {
        state = record {
          position = suc t.position;
          block = block_chain E D d (chain_at t.position t.block) (t.held ++ (b ∷ []));
          held = [];
        };
        released = block_out E D d (chain_at t.position t.block) (t.held ++ (b ∷ []));
      })
      (record { state = record { position = suc t.position; block = t.block; held = t.held ++ (b ∷ []) }; released = [] })

  unfoldable pub ciphered_step : Mode → State → ℕ → Stepped
  ciphered_step Counter t b = counted (count (take t.position M)) t b
  ciphered_step Chain t b = chained t b

  unfoldable pub step : State → ℕ → Stepped
  step t b = cond (get_or M t.position false) (ciphered_step k t b) (plain t b)

  -- A piece is fed byte by byte.
  unfoldable pub feed : State → List ℕ → Stepped
  feed t [] = record { state = t; released = [] }
  feed t (b ∷ bs) =
      record {
        state = (feed (step t b).state bs).state;
        released = (step t b).released ++ (feed (step t b).state bs).released;
      }

-- A piece of a sample of a scheme, fed from a state on.
module _ (E D : Cipher) (d : Direction) (s : Scheme) (pattern : Pattern) (iv : List ℕ) (es : List Entry) where
  unfoldable pub feed_sample : State → List ℕ → Stepped
  feed_sample t xs = feed E D d (mode_of s) iv (mask s pattern es) (restart_mask s es) t xs
