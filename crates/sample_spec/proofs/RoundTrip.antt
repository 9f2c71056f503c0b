-- Locking and opening undo each other, byte for byte, and a byte that is not marked never changes.
use mathlib.Core.Bool.{Bool, true, false, cond}
use mathlib.Core.List.{List}
use mathlib.Core.Path.{◌≡◌, refl, ap, ◌∙◌}
use Prim.Native.Nat.{ℕ, ◌<◌}
use lib.Dec.{eqb}
use lib.ListN.{length, get_or, drop}
use borrow.Author.Tests.{eqb-true, eqb-false, ne_eqb}
use Rattle.octets.specs.Bytes.{Bytes, filled}
use Rattle.octets.proofs.OfBytes.{bytes_drop, zeros_bytes, filled_bytes}
use Rattle.aes.specs.Block.{round_keys, encipher, decipher, encipher_bytes, decipher_bytes, decipher_encipher, encipher_decipher}
use Rattle.modes_spec.specs.declared.Direction.{Direction}
use Rattle.modes_spec.specs.Modes.{Cipher}
use Rattle.modes_spec.specs.Undone.{back, Inverse}
use Rattle.track_spec.specs.declared.Parameters.{Parameters}
use Rattle.track_spec.specs.Track.{zeros}
use Rattle.subsample_spec.specs.declared.SubsampleMap.{SubsampleMap}
use Rattle.scheme.specs.Layout.{scheme_of, pattern_of}
use Rattle.scheme.specs.Part.{entries_of, ciphered}
use Rattle.scheme.proofs.Undone.{whole_back, length_whole, unmarked_stay}
use Rattle.scheme.proofs.Under.{clear_ciphered}
use Rattle.sample_spec.specs.Sample.{Inputs, OfBytes, key_in, parameters_of, key_of, map_of, iv_of, answered, ciphered_by, sample_after}
use Rattle.sample_spec.specs.Counters.{marked_for}
use Rattle.sample_spec.proofs.Accepted.{begins, after_refusal}

-- the block under a key of 16 bytes
aes_inverse : {key : List ℕ} → Bytes 16 key → Inverse (encipher (round_keys key)) (decipher (round_keys key))
aes_inverse k =
    record {
      deciphered = decipher_encipher k;
      enciphered = encipher_decipher k;
      encipher_bytes = encipher_bytes k;
      decipher_bytes = decipher_bytes k;
    }

-- the key is 16 bytes
key_bytes : (p : Parameters) (keys : List ℕ) → ((k : ℕ) → get_or keys k 0 < 256) → Bytes 16 (key_in p keys)
unfolding key_in
key_bytes p keys hk = go (eqb p.protected 1)
  where
    go : (t : Bool) → Bytes 16 (cond t (filled 16 (drop 16 keys)) zeros)
    go true = filled_bytes 16 (drop 16 keys) (bytes_drop 16 keys (record { size = refl; small = hk }) refl).small
    go false = zeros_bytes 16

-- a sample under parameters and a map
module _ (E D : Cipher) (d : Direction) (p : Parameters) (m : SubsampleMap) (iv xs : List ℕ) where
  length-ciphered : length (ciphered E D d p m iv xs) ≡ length xs
  unfolding ciphered
  length-ciphered = length_whole E D iv (pattern_of p) (entries_of p m (length xs)) d (scheme_of p.code) xs

  ciphered-back : Inverse E D → Bytes 16 iv → ((k : ℕ) → get_or xs k 0 < 256)
      → ciphered E D (back d) p m iv (ciphered E D d p m iv xs) ≡ xs
  unfolding ciphered
  ciphered-back v w hx =
      rw (length_whole E D iv (pattern_of p) (entries_of p m (length xs)) d (scheme_of p.code) xs)
      (whole_back v w (pattern_of p) (entries_of p m (length xs)) d (scheme_of p.code) (record { size = refl; small = hx }))

module _ (i : Inputs) where
  module _ (d : Direction) (xs : List ℕ) where
    pub accepted-after : answered i (length xs) ≡ 0 → sample_after d i xs ≡ ciphered_by d i xs
    unfolding sample_after
    accepted-after h = rw h

    -- A refused call changes nothing.
    pub refused_stays : (answered i (length xs) ≡ 0 → ⊥) → sample_after d i xs ≡ xs
    refused_stays h = after_refusal d i xs h

    -- what holds of the sample ciphered, where the call is accepted, and of the sample as it was holds after the call
    either : (P : List ℕ → Type 0) → (answered i (length xs) ≡ 0 → P (ciphered_by d i xs)) → P xs → P (sample_after d i xs)
    unfolding sample_after
    either P done refused = go (eqb (answered i (length xs)) 0) refl
      where
        go : (t : Bool) → eqb (answered i (length xs)) 0 ≡ t → P (cond t (ciphered_by d i xs) xs)
        go true e = done (eqb-true (answered i (length xs)) 0 e)
        go false e = refused

    -- No byte comes or goes.
    pub length-after : length (sample_after d i xs) ≡ length xs
    unfolding ciphered_by
    length-after =
        either (λ (ys : List ℕ). length ys ≡ length xs)
        (λ h. length-ciphered _ _ d (parameters_of i) (map_of i) (iv_of i) xs) refl

    -- The answer depends on the length alone, and not on the direction: the call that undoes this one gets the same.
    pub answer-after : answered i (length (sample_after d i xs)) ≡ answered i (length xs)
    answer-after = ap (answered i) length-after

    -- A byte that is not marked never changes.
    pub unmarked_stays : (k : ℕ) → get_or (marked_for i (length xs)) k false ≡ false → get_or (sample_after d i xs) k 0 ≡ get_or xs k 0
    unfolding ciphered_by ciphered
    unmarked_stays k m =
        either (λ (ys : List ℕ). get_or ys k 0 ≡ get_or xs k 0)
        (λ h. unmarked_stay _ _ (iv_of i) (pattern_of (parameters_of i)) (entries_of (parameters_of i) (map_of i) (length xs)) d
        (scheme_of (parameters_of i).code) xs k m)
        refl

    -- Of an unprotected track nothing changes at all.
    pub unprotected_stays : ((parameters_of i).protected ≡ 1 → ⊥) → sample_after d i xs ≡ xs
    unfolding ciphered_by
    unprotected_stays u =
        either (λ (ys : List ℕ). ys ≡ xs)
        (λ h. clear_ciphered _ _ d (parameters_of i) (map_of i) (length xs) (ne_eqb (parameters_of i).protected 1 u) (iv_of i) xs refl)
        refl

  -- Opening a locked sample and locking an opened one give every byte back; so do two refused calls.
  module _ (b : OfBytes i) (hk : (k : ℕ) → get_or i.keys k 0 < 256) where
    ciphered_again : (d : Direction) (xs : List ℕ) → answered i (length xs) ≡ 0 → ((k : ℕ) → get_or xs k 0 < 256)
        → ciphered_by (back d) i (ciphered_by d i xs) ≡ xs
    unfolding ciphered_by key_of
    ciphered_again d xs h hx =
        ciphered-back _ _ d (parameters_of i) (map_of i) (iv_of i) xs (aes_inverse (key_bytes (parameters_of i) i.keys hk))
        (begins i (length xs) h b).bytes hx

    pub given_back : (d : Direction) (xs : List ℕ) → ((k : ℕ) → get_or xs k 0 < 256)
        → sample_after (back d) i (sample_after d i xs) ≡ xs
    given_back d xs hx = go (eqb (answered i (length xs)) 0) refl
      where
        go : (t : Bool) → eqb (answered i (length xs)) 0 ≡ t → sample_after (back d) i (sample_after d i xs) ≡ xs
        go true e =
            let h : answered i (length xs) ≡ 0 = eqb-true (answered i (length xs)) 0 e in
            accepted-after (back d) (sample_after d i xs) (answer-after d xs ∙ h)
            ∙ ap (λ (ys : List ℕ). ciphered_by (back d) i ys) (accepted-after d xs h) ∙ ciphered_again d xs h hx
        go false e =
            let h : (answered i (length xs) ≡ 0) → ⊥ = eqb-false (answered i (length xs)) 0 e in
            ap (sample_after (back d) i) (refused_stays d xs h) ∙ refused_stays (back d) xs h
