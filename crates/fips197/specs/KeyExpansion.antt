-- FIPS 197, section 5.2: the key schedule, word by word.
use Rattle.std.specs.Prelude.{Bool, true, false, List, [], ◌∷◌, ℕ, zero, suc, ◌+◌, ◌-◌, ◌*◌, ◌/◌, ◌%◌, eqb}
use Rattle.octets.specs.Bytes.{list_of}
use Rattle.fips197.specs.Field.{xtime}
use Rattle.fips197.specs.State.{Word, State, byte, column, four, load}
use Rattle.fips197.specs.Cipher.{sub_word, add_word}

abbrev pub rot_word : Word → Word
rot_word w = four (λ r. byte w ((r + 1) % 4))

-- The first byte of Rcon[n + 1], which is x^n; the other three are zero.
unfoldable pub rcon : ℕ → ℕ
rcon zero = 1
rcon (suc n) = xtime (rcon n)

abbrev pub pick : Bool → Word → Word → Word
pick true a b = a
pick false a b = b

-- What is added to w[i - 4] for w[i], where w is w[i - 1].
unfoldable pub temp : ℕ → Word → Word
temp i w = pick (eqb (i % 4) 0) (add_word (sub_word (rot_word w)) (rcon (i / 4 - 1) ∷ 0 ∷ 0 ∷ 0 ∷ [])) w

-- The word w[i]; the first four are the key's columns.
unfoldable pub word : State → ℕ → Word
word k zero = column k 0
word k (suc zero) = column k 1
word k (suc (suc zero)) = column k 2
word k (suc (suc (suc zero))) = column k 3
word k (suc (suc (suc (suc i)))) = add_word (word k i) (temp (i + 4) (word k (suc (suc (suc i)))))

-- The words w[4r] to w[4r + 3].
unfoldable pub round_key : State → ℕ → State
round_key k r = four (λ c. word k (4 * r + c))

-- The round keys 0 to 10 of a key of 16 bytes.
unfoldable pub key_expansion : List ℕ → List State
key_expansion key = list_of 11 (round_key (load key))

-- The first word of the round key after k, where rc is the first byte of its round constant.
abbrev pub first_word : State → ℕ → Word
first_word k rc = add_word (column k 0) (add_word (sub_word (rot_word (column k 3))) (rc ∷ 0 ∷ 0 ∷ 0 ∷ []))

-- The four words after those of k, of which w is the first.
abbrev pub chained : Word → State → State
chained w k =
    w ∷ add_word (column k 1) w ∷ add_word (column k 2) (add_word (column k 1) w)
    ∷ add_word (column k 3) (add_word (column k 2) (add_word (column k 1) w)) ∷ []

-- The round key after k.
unfoldable pub next_key : State → ℕ → State
next_key k rc = chained (first_word k rc) k
