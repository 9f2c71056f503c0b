-- The modes undo each other: over strings of bytes, opening gives back what was locked and locking what was opened.
use mathlib.Core.List.{List, [], ◌∷◌}
use mathlib.Core.Path.{◌≡◌, refl, sym, ap, ◌∙◌}
use Prim.Native.Nat.{ℕ, zero, suc, ◌-◌, ◌*◌, ◌/◌, ◌%◌, ◌≤◌, ◌<◌}
use native.Mathlib.Omega.{arith}
use lib.ListN.{length, get_or, take, drop, length-drop, take-append-drop}
use lib.Seq.{take_at, drop_at, length-take-le}
use Rattle.octets.specs.Bytes.{Bytes}
use Rattle.octets.proofs.OfBytes.{bytes_take, bytes_drop, bytes_append, digits_bytes}
use Rattle.octets.proofs.Xor.{⊕_back, ⊕_below}
use Rattle.modes_spec.specs.declared.Direction.{Direction}
use Rattle.modes_spec.specs.declared.Direction.TheVariants.{Lock, Open}
use Rattle.modes_spec.specs.Modes.{Cipher, xors, counter_at, stream_byte, ctr, block_out, block_chain, cbc_blocks, cbc}
use Rattle.modes_spec.specs.Undone.{back, Inverse, Undoes}
use Rattle.modes_spec.proofs.Strings.{length-xors}

pub same_undone : Undoes (λ xs. xs) (λ xs. xs)
same_undone = record { keeps = λ b. b; undone = λ b. refl }

-- ---- Strings added.

pub xors_bytes : {m n : ℕ} (xs ks : List ℕ) → Bytes m xs → Bytes n ks → Bytes m (xors xs ks)
unfolding xors
xors_bytes xs ks b c = record { size = length-xors xs ks ∙ b.size; small = go xs ks b.small c.small }
  where
    go : (xs ks : List ℕ) → ((i : ℕ) → get_or xs i 0 < 256) → ((i : ℕ) → get_or ks i 0 < 256) → (i : ℕ) → get_or (xors xs ks) i 0 < 256
    go [] ks h k i = h i
    go (x ∷ xs) [] h k i = h i
    go (x ∷ xs) (y ∷ ks) h k zero = ⊕_below x y (h 0) (k 0)
    go (x ∷ xs) (y ∷ ks) h k (suc i) = go xs ks (λ j. h (suc j)) (λ j. k (suc j)) i

pub xors-back : (xs ks : List ℕ) → xors (xors xs ks) ks ≡ xs
unfolding xors
xors-back [] ks = refl
xors-back (x ∷ xs) [] = refl
xors-back (x ∷ xs) (y ∷ ks) = rw (⊕_back x y, xors-back xs ks)

-- ---- The counter mode.

pub ctr_ctr : (E : Cipher) (iv : List ℕ) (k : ℕ) (xs : List ℕ) → ctr E iv k (ctr E iv k xs) ≡ xs
unfolding ctr
ctr_ctr E iv k [] = refl
ctr_ctr E iv k (x ∷ xs) = rw (⊕_back x (stream_byte E iv k), ctr_ctr E iv (suc k) xs)

pub length_ctr : (E : Cipher) (iv : List ℕ) (k : ℕ) (xs : List ℕ) → length (ctr E iv k xs) ≡ length xs
unfolding ctr
length_ctr E iv k [] = refl
length_ctr E iv k (x ∷ xs) = ap suc (length_ctr E iv (suc k) xs)

pub counter_bytes : {iv : List ℕ} → Bytes 16 iv → (n : ℕ) → Bytes 16 (counter_at iv n)
unfolding counter_at
counter_bytes {iv} w n =
    bytes_append (bytes_take 8 iv w (length-take-le 8 iv (omega (arith, w.size)))) (digits_bytes 8 _) refl

module _ {E D : Cipher} (v : Inverse E D) {iv : List ℕ} (w : Bytes 16 iv) where
  stream_below : (k : ℕ) → stream_byte E iv k < 256
  unfolding stream_byte
  stream_below k = (v.encipher_bytes (counter_bytes w (k / 16))).small (k % 16)

  ctr_below : (k : ℕ) (xs : List ℕ) → ((i : ℕ) → get_or xs i 0 < 256) → (i : ℕ) → get_or (ctr E iv k xs) i 0 < 256
  unfolding ctr
  ctr_below k [] h i = h i
  ctr_below k (x ∷ xs) h zero = ⊕_below x _ (h 0) (stream_below k)
  ctr_below k (x ∷ xs) h (suc i) = ctr_below (suc k) xs (λ j. h (suc j)) i

  -- the counter mode undoes itself
  pub ctr_undone : (k : ℕ) → Undoes (ctr E iv k) (ctr E iv k)
  ctr_undone k =
      record {
        keeps = λ {xs = xs} b. record { size = length_ctr E iv k xs ∙ b.size; small = ctr_below k xs b.small };
        undone = λ {xs = xs} b. ctr_ctr E iv k xs;
      }

-- ---- Cipher block chaining.

first : {n : ℕ} {xs : List ℕ} → 16 ≤ n → Bytes n xs → Bytes 16 (take 16 xs)
first {n} {xs} l b = bytes_take 16 xs b (length-take-le 16 xs (omega (arith, b.size)))

rest : {n : ℕ} {xs : List ℕ} → Bytes n xs → Bytes (n - 16) (drop 16 xs)
rest {n} {xs} b = bytes_drop 16 xs b (simp length-drop (omega (arith, b.size)))

module _ {E D : Cipher} (v : Inverse E D) where
  -- one block
  module _ {c b : List ℕ} (hc : Bytes 16 c) (hb : Bytes 16 b) where
    block_bytes : (d : Direction) → Bytes 16 (block_out E D d c b)
    unfolding block_out
    block_bytes Lock = v.encipher_bytes (xors_bytes b c hb hc)
    block_bytes Open = xors_bytes (D b) c (v.decipher_bytes hb) hc

    chain_bytes : (d : Direction) → Bytes 16 (block_chain E D d c b)
    unfolding block_chain
    chain_bytes Lock = v.encipher_bytes (xors_bytes b c hb hc)
    chain_bytes Open = hb

    relocked : E (xors (xors (D b) c) c) ≡ b
    relocked = ap E (xors-back (D b) c) ∙ v.enciphered hb

    block_back : (d : Direction) → block_out E D (back d) c (block_out E D d c b) ≡ b
    unfolding block_out back
    block_back Lock = ap (λ (x : List ℕ). xors x c) (v.deciphered (xors_bytes b c hb hc)) ∙ xors-back b c
    block_back Open = relocked

    -- both directions chain to the cipher text
    chain_back : (d : Direction) → block_chain E D (back d) c (block_out E D d c b) ≡ block_chain E D d c b
    unfolding block_out block_chain back
    chain_back Lock = refl
    chain_back Open = relocked

  -- n blocks, and what follows them
  module _ (d : Direction) where
    blocks_bytes : (n : ℕ) {m : ℕ} {c xs : List ℕ} → n * 16 ≤ m → Bytes 16 c → Bytes m xs → Bytes m (cbc_blocks E D d n c xs)
    unfolding cbc_blocks
    blocks_bytes zero l hc b = b
    blocks_bytes (suc n) {m} {c} {xs} l hc b =
        let h : Bytes 16 (take 16 xs) = first (omega arith) b in
        bytes_append (block_bytes hc h d) (blocks_bytes n (omega arith) (chain_bytes hc h d) (rest b)) (omega arith)

    blocks-back : (n : ℕ) {m : ℕ} {c xs : List ℕ} → n * 16 ≤ m → Bytes 16 c → Bytes m xs
        → cbc_blocks E D (back d) n c (cbc_blocks E D d n c xs) ≡ xs
    unfolding cbc_blocks
    blocks-back zero l hc b = refl
    blocks-back (suc n) {m} {c} {xs} l hc b =
        let h : Bytes 16 (take 16 xs) = first (omega arith) b in
        let u : List ℕ = block_out E D d c (take 16 xs) in
        let r : List ℕ = cbc_blocks E D d n (block_chain E D d c (take 16 xs)) (drop 16 xs) in
        rw (
          take_at u r 16 (block_bytes hc h d).size,
          drop_at u r 16 (block_bytes hc h d).size,
          block_back hc h d,
          chain_back hc h d,
          blocks-back n (omega arith) (chain_bytes hc h d) (rest b),
        )
        (take-append-drop 16 xs)

    -- every whole block
    module _ {c : List ℕ} (hc : Bytes 16 c) where
      pub cbc_bytes : {n : ℕ} {xs : List ℕ} → Bytes n xs → Bytes n (cbc E D d c xs)
      unfolding cbc
      cbc_bytes {n} {xs} b = blocks_bytes (length xs / 16) (omega (arith, b.size)) hc b

      pub cbc_back : {n : ℕ} {xs : List ℕ} → Bytes n xs → cbc E D (back d) c (cbc E D d c xs) ≡ xs
      unfolding cbc
      cbc_back {n} {xs} b =
          rw ((cbc_bytes b).size ∙ sym b.size) (blocks-back (length xs / 16) (omega (arith, b.size)) hc b)

      pub cbc_undone : Undoes (cbc E D (back d) c) (cbc E D d c)
      cbc_undone = record { keeps = cbc_bytes; undone = cbc_back }
