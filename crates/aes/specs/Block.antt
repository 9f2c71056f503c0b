-- The block cipher as the layers above see it: FIPS 197, section 5, for keys of 128 bits.
-- The three definitions are shut: above this crate only the laws below are known of them.
use Rattle.std.specs.Prelude.{List, ◌≡◌, refl, ℕ, length}
use Rattle.std.proofs.Math.Path.{ap}
use Rattle.std.proofs.Common.{◌∙◌}
use Rattle.octets.specs.Bytes.{Bytes}
use Rattle.fips197.specs.State.{State, load, store}
use Rattle.fips197.specs.Cipher.{cipher}
use Rattle.fips197.specs.KeyExpansion.{key_expansion}
use Rattle.fips197.specs.InvCipher.{inv_cipher}
use Rattle.fips197.proofs.Shape.{load_state, schedule_states, store-load, load_store, store_bytes}
use Rattle.fips197.proofs.Inverse.{cipher_state, inv_cipher_state, inv_cipher-cipher, cipher_inv_cipher}

-- The eleven round keys of a key of 16 bytes.
pub round_keys : List ℕ → List (List (List ℕ))
round_keys key = key_expansion key

-- A block of 16 bytes under round keys.
pub encipher : List (List (List ℕ)) → List ℕ → List ℕ
encipher keys block = store (cipher keys (load block))

pub decipher : List (List (List ℕ)) → List ℕ → List ℕ
decipher keys block = store (inv_cipher keys (load block))

-- What the code of this crate is held to.
pub round_keys_is : (key : List ℕ) → round_keys key ≡ key_expansion key
unfolding round_keys
round_keys_is key = refl

pub encipher_is : (keys : List State) (block : List ℕ) → encipher keys block ≡ store (cipher keys (load block))
unfolding encipher
encipher_is keys block = refl

pub decipher_is : (keys : List State) (block : List ℕ) → decipher keys block ≡ store (inv_cipher keys (load block))
unfolding decipher
decipher_is keys block = refl

-- A block out has 16 bytes, under any round keys at all.
pub encipher_length : (keys : List State) (block : List ℕ) → length (encipher keys block) ≡ 16
unfolding encipher
encipher_length keys block = refl

pub decipher_length : (keys : List State) (block : List ℕ) → length (decipher keys block) ≡ 16
unfolding decipher
decipher_length keys block = refl

module _ {key block : List ℕ} (hk : Bytes 16 key) (hb : Bytes 16 block) where
  -- each of them below 256
  pub encipher_bytes : Bytes 16 (encipher (round_keys key) block)
  unfolding encipher round_keys
  encipher_bytes = store_bytes (cipher_state (key_expansion key) (schedule_states hk) (load_state hb))

  pub decipher_bytes : Bytes 16 (decipher (round_keys key) block)
  unfolding decipher round_keys
  decipher_bytes = store_bytes (inv_cipher_state (key_expansion key) (schedule_states hk) (load_state hb))

  -- For every key, deciphering an enciphered block gives the block back, and the other way round.
  pub decipher_encipher : decipher (round_keys key) (encipher (round_keys key) block) ≡ block
  unfolding encipher decipher round_keys
  decipher_encipher =
      let ks = schedule_states hk in
      ap (λ (s : State). store (inv_cipher (key_expansion key) s)) (load_store (cipher_state (key_expansion key) ks (load_state hb)))
      ∙ ap store (inv_cipher-cipher (key_expansion key) ks (load_state hb)) ∙ store-load hb

  pub encipher_decipher : encipher (round_keys key) (decipher (round_keys key) block) ≡ block
  unfolding encipher decipher round_keys
  encipher_decipher =
      let ks = schedule_states hk in
      ap (λ (s : State). store (cipher (key_expansion key) s)) (load_store (inv_cipher_state (key_expansion key) ks (load_state hb)))
      ∙ ap store (cipher_inv_cipher (key_expansion key) ks (load_state hb)) ∙ store-load hb
