-- The cipher and the inverse cipher undo each other, under any eleven round keys that are states.
use mathlib.Core.List.{List, []}
use mathlib.Core.Path.{◌≡◌, refl, ap, ◌∙◌}
use Prim.Native.Nat.{ℕ, zero, suc, ◌<◌}
use native.Mathlib.Omega.{arith}
use lib.ListN.{get_or}
use Rattle.octets.proofs.Xor.{⊕_back}
use Rattle.fips197.specs.State.{Word, State, IsWord, word, IsState, state}
use Rattle.fips197.specs.Cipher.{sub_byte, sub_bytes, shift_rows, matrix, mix_columns, add_word, add_round_key, round, rounds, cipher}
use Rattle.fips197.specs.InvCipher.{inv_sub_byte, inv_sub_bytes, inv_shift_rows, inv_mix_columns, inv_round, inv_rounds, inv_cipher}
use Rattle.fips197.proofs.SBox.{inv_sub-sub, sub_inv_sub}
use Rattle.fips197.proofs.Lists.{same}
use Rattle.fips197.proofs.Shape.{bytewise, bytewise_undone, columnwise_undone, sub_state, inv_sub_state, shift_state, inv_shift_state, mix_state, inv_mix_state, add_state}
use Rattle.fips197.proofs.Matrix.{inv_mix_mix, mix_inv_mix}

-- Each step, and what undoes it.
inv_shift_shift : {s : State} → IsState s → inv_shift_rows (shift_rows s) ≡ s
inv_shift_shift (state (word a b c d) (word e f g h) (word i j k l) (word m n o p)) = refl

shift_inv_shift : {s : State} → IsState s → shift_rows (inv_shift_rows s) ≡ s
shift_inv_shift (state (word a b c d) (word e f g h) (word i j k l) (word m n o p)) = refl

inv_sub-sub_state : {s : State} → IsState s → inv_sub_bytes (sub_bytes s) ≡ s
inv_sub-sub_state =
    columnwise_undone (bytewise sub_byte) (bytewise inv_sub_byte) (bytewise_undone sub_byte inv_sub_byte inv_sub-sub)

sub_inv_sub_state : {s : State} → IsState s → sub_bytes (inv_sub_bytes s) ≡ s
sub_inv_sub_state =
    columnwise_undone (bytewise inv_sub_byte) (bytewise sub_byte) (bytewise_undone inv_sub_byte sub_byte sub_inv_sub)

inv_mix_mix_state : {s : State} → IsState s → inv_mix_columns (mix_columns s) ≡ s
inv_mix_mix_state = columnwise_undone (matrix 2 3 1 1) (matrix 14 11 13 9) inv_mix_mix

mix_inv_mix_state : {s : State} → IsState s → mix_columns (inv_mix_columns s) ≡ s
mix_inv_mix_state = columnwise_undone (matrix 14 11 13 9) (matrix 2 3 1 1) mix_inv_mix

add-add-word : {w k : Word} → IsWord w → IsWord k → add_word (add_word w k) k ≡ w
unfolding add_word
add-add-word (word a b c d) (word e f g h) = same (⊕_back _ _) (⊕_back _ _) (⊕_back _ _) (⊕_back _ _)

add-add : {s k : State} → IsState s → IsState k → add_round_key (add_round_key s k) k ≡ s
add-add (state a b c d) (state e f g h) = same (add-add-word a e) (add-add-word b f) (add-add-word c g) (add-add-word d h)

-- SubBytes and ShiftRows, and both undone.
abbrev sub_shift : State → State
sub_shift s = shift_rows (sub_bytes s)

abbrev inv_sub_shift : State → State
inv_sub_shift s = inv_sub_bytes (inv_shift_rows s)

sub_shift_state : {s : State} → IsState s → IsState (sub_shift s)
sub_shift_state h = shift_state (sub_state h)

inv_sub_shift_state : {s : State} → IsState s → IsState (inv_sub_shift s)
inv_sub_shift_state h = inv_sub_state (inv_shift_state h)

inv_sub_shift_lem : {s : State} → IsState s → inv_sub_shift (sub_shift s) ≡ s
inv_sub_shift_lem h = ap inv_sub_bytes (inv_shift_shift (sub_state h)) ∙ inv_sub-sub_state h

sub_shift_inv : {s : State} → IsState s → sub_shift (inv_sub_shift s) ≡ s
sub_shift_inv h = ap shift_rows (sub_inv_sub_state (inv_shift_state h)) ∙ shift_inv_shift h

-- Under round keys that are states.
module _ (w : List State) (keys : (n : ℕ) → n < 11 → IsState (get_or w n [])) where
  rounds_state : (n : ℕ) {s : State} → n < 11 → IsState s → IsState (rounds w n s)
  unfolding rounds round
  rounds_state zero h g = g
  rounds_state (suc n) h g = add_state (mix_state (sub_shift_state (rounds_state n (omega arith) g))) (keys (suc n) h)

  inv_rounds-rounds : (n : ℕ) {s : State} → n < 11 → IsState s
      → inv_rounds w n (sub_shift (rounds w n s)) ≡ sub_shift s
  unfolding rounds round inv_rounds inv_round
  inv_rounds-rounds zero h g = refl
  inv_rounds-rounds (suc n) h g =
      let r = rounds_state n (omega arith) g in
      ap (inv_rounds w n)
      (ap inv_mix_columns
      (ap (λ (x : State). add_round_key x (get_or w (suc n) [])) (inv_sub_shift_lem (rounds_state (suc n) h g))
      ∙ add-add (mix_state (sub_shift_state r)) (keys (suc n) h))
      ∙ inv_mix_mix_state (sub_shift_state r))
      ∙ inv_rounds-rounds n (omega arith) g

  rounds_inv_rounds : (n : ℕ) {s : State} → n < 11 → IsState s
      → sub_shift (rounds w n (inv_sub_shift (inv_rounds w n s))) ≡ s
  unfolding rounds round inv_rounds inv_round
  rounds_inv_rounds zero h g = sub_shift_inv g
  rounds_inv_rounds (suc n) h g =
      let u = add_state (inv_sub_shift_state g) (keys (suc n) h) in
      ap sub_shift
      (ap (λ (x : State). add_round_key (mix_columns x) (get_or w (suc n) [])) (rounds_inv_rounds n (omega arith) (inv_mix_state u))
      ∙ ap (λ (x : State). add_round_key x (get_or w (suc n) [])) (mix_inv_mix_state u)
      ∙ add-add (inv_sub_shift_state g) (keys (suc n) h))
      ∙ sub_shift_inv g

  inv_rounds_state : (n : ℕ) {s : State} → n < 11 → IsState s → IsState (inv_rounds w n s)
  unfolding inv_rounds inv_round
  inv_rounds_state zero h g = g
  inv_rounds_state (suc n) h g =
      inv_rounds_state n (omega arith) (inv_mix_state (add_state (inv_sub_shift_state g) (keys (suc n) h)))

  start : {s : State} → IsState s → IsState (add_round_key s (get_or w 0 []))
  start g = add_state g (keys 0 (omega arith))

  end : {s : State} → IsState s → IsState (add_round_key s (get_or w 10 []))
  end g = add_state g (keys 10 (omega arith))

  pub inv_cipher-cipher : {s : State} → IsState s → inv_cipher w (cipher w s) ≡ s
  unfolding cipher inv_cipher
  inv_cipher-cipher g =
      ap (λ (x : State). add_round_key (inv_sub_shift (inv_rounds w 9 x)) (get_or w 0 []))
      (add-add (sub_shift_state (rounds_state 9 (omega arith) (start g))) (keys 10 (omega arith)))
      ∙ ap (λ (x : State). add_round_key (inv_sub_shift x) (get_or w 0 [])) (inv_rounds-rounds 9 (omega arith) (start g))
      ∙ ap (λ (x : State). add_round_key x (get_or w 0 [])) (inv_sub_shift_lem (start g))
      ∙ add-add g (keys 0 (omega arith))

  pub cipher_inv_cipher : {s : State} → IsState s → cipher w (inv_cipher w s) ≡ s
  unfolding cipher inv_cipher
  cipher_inv_cipher g =
      ap (λ (x : State). add_round_key (sub_shift (rounds w 9 x)) (get_or w 10 []))
      (add-add (inv_sub_shift_state (inv_rounds_state 9 (omega arith) (end g))) (keys 0 (omega arith)))
      ∙ ap (λ (x : State). add_round_key x (get_or w 10 [])) (rounds_inv_rounds 9 (omega arith) (end g))
      ∙ add-add g (keys 10 (omega arith))

  pub cipher_state : {s : State} → IsState s → IsState (cipher w s)
  unfolding cipher
  cipher_state g = end (sub_shift_state (rounds_state 9 (omega arith) (start g)))

  pub inv_cipher_state : {s : State} → IsState s → IsState (inv_cipher w s)
  unfolding inv_cipher
  inv_cipher_state g = start (inv_sub_shift_state (inv_rounds_state 9 (omega arith) (end g)))
