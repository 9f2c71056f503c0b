-- Words of four bytes and states of four words: every step of the cipher keeps them so.
use mathlib.Core.List.{List, [], ◌∷◌, ◌++◌}
use mathlib.Core.Path.{◌≡◌, refl, sym, ap, ◌∙◌, subst⁻¹}
use Prim.Native.Nat.{ℕ, zero, suc, ◌<◌}
use native.Mathlib.Numerals.{add-one}
use native.Mathlib.Omega.{arith}
use lib.ListN.{get_or}
use Rattle.octets.specs.Bytes.{Bytes, list_of}
use Rattle.octets.proofs.Bytes.{get_d_list_of, list_of_get_d}
use Rattle.octets.specs.Xor.{◌⊕◌}
use Rattle.octets.proofs.Xor.{⊕_below}
use Rattle.fips197.specs.Field.{◌·◌}
use Rattle.fips197.specs.State.{Word, State, IsWord, word, IsState, state, byte, column, four, load, store}
use Rattle.fips197.specs.Cipher.{sub_byte, sub_bytes, shift_rows, row, matrix, mix_columns, add_word, add_round_key}
use Rattle.fips197.specs.KeyExpansion.{rot_word, rcon, round_key, key_expansion, next_key}
use Rattle.fips197.specs.InvCipher.{inv_sub_byte, inv_sub_bytes, inv_shift_rows, inv_mix_columns}
use Rattle.fips197.proofs.Field.{xtime_below, ·_below}
use Rattle.fips197.proofs.SBox.{sub_below, inv_sub_below}
use Rattle.fips197.proofs.Lists.{same}
use Rattle.fips197.proofs.KeyExpansion.{round_key_zero, round_key-next}

-- A step that goes byte by byte, and one that goes column by column.
abbrev pub bytewise : (ℕ → ℕ) → Word → Word
bytewise f w = four (λ r. f (byte w r))

abbrev pub columnwise : (Word → Word) → State → State
columnwise f s = four (λ c. f (column s c))

bytewise_word : (f : ℕ → ℕ) → ((a : ℕ) → a < 256 → f a < 256) → (w : Word) → IsWord w → IsWord (bytewise f w)
bytewise_word f h _ (word a b c d) = word (h _ a) (h _ b) (h _ c) (h _ d)

columnwise_state : (f : Word → Word) → ((w : Word) → IsWord w → IsWord (f w)) → {s : State} → IsState s → IsState (columnwise f s)
columnwise_state f h (state a b c d) = state (h _ a) (h _ b) (h _ c) (h _ d)

-- What undoes a step at each byte, or at each column, undoes it whole.
pub bytewise_undone : (f g : ℕ → ℕ) → ((a : ℕ) → a < 256 → g (f a) ≡ a) → (w : Word) → IsWord w
    → bytewise g (bytewise f w) ≡ w
bytewise_undone f g h _ (word a b c d) = same (h _ a) (h _ b) (h _ c) (h _ d)

pub columnwise_undone : (f g : Word → Word) → ((w : Word) → IsWord w → g (f w) ≡ w) → {s : State} → IsState s
    → columnwise g (columnwise f s) ≡ s
columnwise_undone f g h (state a b c d) = same (h _ a) (h _ b) (h _ c) (h _ d)

pub sub_state : {s : State} → IsState s → IsState (sub_bytes s)
sub_state = columnwise_state (bytewise sub_byte) (bytewise_word sub_byte sub_below)

pub inv_sub_state : {s : State} → IsState s → IsState (inv_sub_bytes s)
inv_sub_state = columnwise_state (bytewise inv_sub_byte) (bytewise_word inv_sub_byte inv_sub_below)

pub shift_state : {s : State} → IsState s → IsState (shift_rows s)
shift_state (state (word a b c d) (word e f g h) (word i j k l) (word m n o p)) =
    state (word a f k p) (word e j o d) (word i n c h) (word m b g l)

pub inv_shift_state : {s : State} → IsState s → IsState (inv_shift_rows s)
inv_shift_state (state (word a b c d) (word e f g h) (word i j k l) (word m n o p)) =
    state (word a n k h) (word e b o l) (word i f c p) (word m j g d)

matrix-word : (p q r s : ℕ) (w : Word) → IsWord w → IsWord (matrix p q r s w)
unfolding matrix row
matrix-word p q r s _ (word a b c d) = word (go a b c d) (go b c d a) (go c d a b) (go d a b c)
  where
    go : {a b c d : ℕ} → a < 256 → b < 256 → c < 256 → d < 256 → p · a ⊕ q · b ⊕ r · c ⊕ s · d < 256
    go a b c d = ⊕_below _ _ (·_below p _ a) (⊕_below _ _ (·_below q _ b) (⊕_below _ _ (·_below r _ c) (·_below s _ d)))

pub mix_state : {s : State} → IsState s → IsState (mix_columns s)
mix_state = columnwise_state (matrix 2 3 1 1) (matrix-word 2 3 1 1)

pub inv_mix_state : {s : State} → IsState s → IsState (inv_mix_columns s)
inv_mix_state = columnwise_state (matrix 14 11 13 9) (matrix-word 14 11 13 9)

add-word : {w k : Word} → IsWord w → IsWord k → IsWord (add_word w k)
unfolding add_word
add-word (word a b c d) (word e f g h) = word (⊕_below _ _ a e) (⊕_below _ _ b f) (⊕_below _ _ c g) (⊕_below _ _ d h)

pub add_state : {s k : State} → IsState s → IsState k → IsState (add_round_key s k)
add_state (state a b c d) (state e f g h) = state (add-word a e) (add-word b f) (add-word c g) (add-word d h)

-- The round keys of a key of bytes are states.
rcon_below : (n : ℕ) → rcon n < 256
unfolding rcon
rcon_below zero = omega arith
rcon_below (suc n) = xtime_below (rcon n)

rot_word_lem : {w : Word} → IsWord w → IsWord (rot_word w)
rot_word_lem (word a b c d) = word b c d a

next_state : {k : State} {rc : ℕ} → IsState k → rc < 256 → IsState (next_key k rc)
unfolding next_key
next_state (state a b c d) h =
    let z : 0 < 256 = omega arith in
    let w = add-word a (add-word (bytewise_word sub_byte sub_below _ (rot_word_lem d)) (word h z z z)) in
    let x = add-word b w in
    let y = add-word c x in
    state w x y (add-word d y)

pub load_state : {b : List ℕ} → Bytes 16 b → IsState (load b)
load_state g =
    let h = g.small in
    state (word (h 0) (h 1) (h 2) (h 3)) (word (h 4) (h 5) (h 6) (h 7)) (word (h 8) (h 9) (h 10) (h 11))
    (word (h 12) (h 13) (h 14) (h 15))

round_key_state : {key : List ℕ} → Bytes 16 key → (n : ℕ) → IsState (round_key (load key) n)
round_key_state {key} g zero = subst⁻¹ IsState (round_key_zero key) (load_state g)
round_key_state {key} g (suc n) =
    subst⁻¹ IsState (ap (round_key (load key)) (sym (add-one n)) ∙ round_key-next (load key) n)
    (next_state (round_key_state g n) (rcon_below n))

pub schedule_states : {key : List ℕ} → Bytes 16 key → (n : ℕ) → n < 11 → IsState (get_or (key_expansion key) n [])
unfolding key_expansion
schedule_states {key} g n h = subst⁻¹ IsState (get_d_list_of 11 (round_key (load key)) [] n h) (round_key_state g n)

-- A block through the state and back, and a state through a block.
pub store-load : {b : List ℕ} → Bytes 16 b → store (load b) ≡ b
store-load {b} g = ap (λ (n : ℕ). list_of n (λ i. get_or b i 0)) (sym g.size) ∙ list_of_get_d 0 b

pub load_store : {s : State} → IsState s → load (store s) ≡ s
load_store (state (word a b c d) (word e f g h) (word i j k l) (word m n o p)) = refl

data Small : List ℕ → Type 0 where
  none : Small []
  more : {a : ℕ} {b : List ℕ} → a < 256 → Small b → Small (a ∷ b)

small_at : {b : List ℕ} → Small b → (i : ℕ) → get_or b i 0 < 256
small_at none i = omega arith
small_at (more h t) zero = h
small_at (more h t) (suc i) = small_at t i

before : {w b : List ℕ} → IsWord w → Small b → Small (w ++ b)
before (word a b c d) t = more a (more b (more c (more d t)))

pub store_bytes : {s : State} → IsState s → Bytes 16 (store s)
store_bytes (state (word a b c d) (word e f g h) (word i j k l) (word m n o p)) =
    record {
      size = refl;
      small = small_at (before (word a b c d) (before (word e f g h) (before (word i j k l) (before (word m n o p) none))));
    }
