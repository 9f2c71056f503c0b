-- Demand 2, "open after lock and lock after open give back every byte", of the modes of SP 800-38A: what it is for a direction, a
-- cipher or a function over strings of bytes to be undone by another.
use Rattle.std.specs.Prelude.{List, ◌≡◌, ℕ}
use Rattle.octets.specs.Bytes.{Bytes}
use Rattle.modes_spec.specs.declared.Direction.{Direction}
use Rattle.modes_spec.specs.declared.Direction.TheVariants.{Lock, Open}
use Rattle.modes_spec.specs.Modes.{Cipher}

-- The direction that undoes a direction.
unfoldable pub back : Direction → Direction
back Lock = Open
back Open = Lock

-- Two ciphers under one key, each of which undoes the other on blocks of 16 bytes.
pub record Inverse (E D : Cipher) : Type 0 where
  pub deciphered : {b : List ℕ} → Bytes 16 b → D (E b) ≡ b
  pub enciphered : {b : List ℕ} → Bytes 16 b → E (D b) ≡ b
  pub encipher_bytes : {b : List ℕ} → Bytes 16 b → Bytes 16 (E b)
  pub decipher_bytes : {b : List ℕ} → Bytes 16 b → Bytes 16 (D b)

-- f makes of bytes as many bytes, and g gives them back.
pub record Undoes (g f : List ℕ → List ℕ) : Type 0 where
  pub keeps : {n : ℕ} {xs : List ℕ} → Bytes n xs → Bytes n (f xs)
  pub undone : {n : ℕ} {xs : List ℕ} → Bytes n xs → g (f xs) ≡ xs
