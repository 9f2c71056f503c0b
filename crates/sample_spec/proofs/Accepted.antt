-- What accepted inputs say: the sample's entries, its IV, and that the transform of the whole is the whole-sample definition.
use mathlib.Core.Bool.{Bool, true, false, cond}
use mathlib.Core.List.{List}
use mathlib.Core.Path.{◌≡◌, refl, sym, ap, ◌∙◌}
use Prim.Native.Nat.{ℕ, ◌≤◌}
use native.Mathlib.Omega.{arith}
use lib.Dec.{eqb}
use lib.ListN.{length, take}
use borrow.Author.Tests.{eqb-true, ne_eqb, ltb-false}
use Rattle.octets.specs.Answers.{answer}
use Rattle.octets.specs.Bytes.{Bytes, filled}
use Rattle.octets.proofs.Answers.{done_head, done_tail}
use Rattle.octets.proofs.OfBytes.{bytes_take, filled-length, filled_bytes}
use Rattle.aes.specs.Block.{round_keys, encipher, decipher, encipher_length, decipher_length}
use Rattle.modes_spec.specs.declared.Direction.{Direction}
use Rattle.modes_spec.specs.Modes.{Cipher, Sized}
use Rattle.track_spec.specs.declared.Parameters.{Parameters}
use Rattle.track_spec.specs.Track.{known, has_constant, allowed, fields_from, fields}
use Rattle.track_spec.proofs.Fields.{constant_length, constant_bytes}
use Rattle.track_spec.proofs.RoundTrip.{accepted}
use Rattle.subsample_spec.specs.declared.SubsampleMap.{SubsampleMap}
use Rattle.subsample_spec.proofs.Counting.{length-places}
use Rattle.subsample_spec.specs.Auxiliary.{limit, longest, map_rows, map_read, iv_length, iv_read, auxiliary_rows}
use Rattle.scheme.specs.Layout.{total}
use Rattle.scheme.specs.Part.{entries_of, ciphered, fits, transformed, Begins}
use Rattle.scheme.proofs.Allowed.{cbcs_constant, protected_total, accepted-total}
use Rattle.scheme.proofs.Under.{clear_ciphered, fed_whole}
use Rattle.scheme.proofs.Fitting.{fits_whole, transformed_clear}
use Rattle.sample_spec.specs.Sample.{InputsRead}
use Rattle.sample_spec.specs.Sample.{Inputs, OfBytes, parameters_of, key_of, map_of, iv_of, sample_rows, handed_out, read_inputs, ciphered_by, sample_after}
use Rattle.sample_spec.proofs.Tables.{box_accepted, auxiliary_accepted, inputs-accepted}

-- ---- What any inputs say.

module _ (i : Inputs) where
  constant_of : length (parameters_of i).constant_iv.0 ≡ 16
  unfolding parameters_of fields
  constant_of = constant_length 12 i.code _ i.box

  pub iv_length_lem : length (iv_of i) ≡ 16
  unfolding iv_of iv_read
  iv_length_lem = go (has_constant (parameters_of i).protected (parameters_of i).iv_size)
    where
      go : (t : Bool)
          → length (cond t (parameters_of i).constant_iv.0 (filled 16 (take (iv_length (parameters_of i)) i.auxiliary))) ≡ 16
      go true = constant_of
      go false = filled-length 16 _

  module _ (b : OfBytes i) where
    constant_bytes_of : Bytes 16 (parameters_of i).constant_iv.0
    unfolding parameters_of fields
    constant_bytes_of = constant_bytes 12 i.code _ i.box b.box

    iv_bytes : Bytes 16 (iv_of i)
    unfolding iv_of iv_read
    iv_bytes = go (has_constant (parameters_of i).protected (parameters_of i).iv_size)
      where
        go : (t : Bool)
            → Bytes 16 (cond t (parameters_of i).constant_iv.0 (filled 16 (take (iv_length (parameters_of i)) i.auxiliary)))
        go true = constant_bytes_of
        go false =
            filled_bytes 16 (take (iv_length (parameters_of i)) i.auxiliary)
            (bytes_take (iv_length (parameters_of i)) i.auxiliary (record { size = refl; small = b.auxiliary }) refl).small

-- ---- What accepted inputs say.

module _ (i : Inputs) (n : ℕ) (h : answer (sample_rows i n) ≡ 0) where
  abbrev p : Parameters
  p = parameters_of i

  abbrev m : SubsampleMap
  m = map_of i

  known_code : known p.code ≡ true
  unfolding parameters_of fields fields_from
  known_code = (accepted i.code i.box (box_accepted i n h)).known_code

  pub permitted : allowed p ≡ true
  unfolding parameters_of
  permitted = (accepted i.code i.box (box_accepted i n h)).permitted

  data_accepted : answer (auxiliary_rows p i.auxiliary n) ≡ 0
  data_accepted = auxiliary_accepted i n h

  pub length-allowed : n ≤ longest
  unfolding auxiliary_rows
  length-allowed = ltb-false longest n (done_head 7 _ _ (omega arith) data_accepted)

  pub map-accepted : answer (map_rows p.code m n) ≡ 0
  unfolding auxiliary_rows map_of
  map-accepted = done_tail 8 _ _ (omega arith) (done_tail 7 _ _ (omega arith) data_accepted)

  as_many_places : length m.entries ≡ limit
  unfolding map_of map_read
  as_many_places = length-places _

  -- the entries call for as many bytes as the sample has
  pub accepted-length : total (entries_of p m n) ≡ n
  accepted-length = accepted-total p m n as_many_places map-accepted

  module _ (b : OfBytes i) where
    -- the IV is one to begin with
    pub begins : Begins p (iv_of i)
    unfolding iv_of iv_read
    begins =
        record {
          bytes = iv_bytes i b;
          constant = λ one s. rw (one, cbcs_constant p known_code permitted one s);
        }

    -- the transform of the whole sample
    pub transformed_whole : (E D : Cipher) → Sized E → Sized D → (d : Direction) (xs : List ℕ) → length xs ≡ n
        → (transformed E D d p m n 0 (iv_of i) xs).released ≡ ciphered E D d p m (iv_of i) xs
    unfolding transformed
    transformed_whole E D sE sD d xs l = go (eqb p.protected 1) refl
      where
        go : (t : Bool) → eqb p.protected 1 ≡ t
            → (transformed E D d p m n 0 (iv_of i) xs).released ≡ ciphered E D d p m (iv_of i) xs
        go true e =
            let one : p.protected ≡ 1 = eqb-true p.protected 1 e in
            let f : fits p m n 0 n ≡ true =
            fits_whole p m n one length-allowed (protected_total p m n as_many_places map-accepted) in
            rw (l, f) (rw l at (fed_whole E D sE sD d p m (iv_of i) begins xs (rw l (sym accepted-length))))
        go false e =
            (transformed_clear E D d p m n 0 (iv_of i) xs e).0 ∙ sym (clear_ciphered E D d p m n e (iv_of i) xs l)

-- ---- The sample after a call.

-- a refusal changes nothing
pub after_refusal : (d : Direction) (i : Inputs) (xs : List ℕ) → (answer (sample_rows i (length xs)) ≡ 0 → ⊥)
    → sample_after d i xs ≡ xs
unfolding sample_after
after_refusal d i xs h = rw (ne_eqb (answer (sample_rows i (length xs))) 0 h)

-- what a call makes of the inputs read
module _ (i : Inputs) (xs : List ℕ) (r : InputsRead) (er : r ≡ read_inputs i (length xs)) where
  pub inputs-answer : r.answer ≡ answer (sample_rows i (length xs))
  unfolding read_inputs handed_out
  inputs-answer = ap (λ (r : InputsRead). r.answer) er

  pub after-refused : (d : Direction) → (r.answer ≡ 0 → ⊥) → xs ≡ sample_after d i xs
  after-refused d h = sym (after_refusal d i xs (λ e. h (inputs-answer ∙ e)))

  pub after_done : (d : Direction) → r.answer ≡ 0 → OfBytes i
      → (transformed (encipher (round_keys r.key.0)) (decipher (round_keys r.key.0)) d r.parameters r.map (length xs) 0
      r.iv.0 xs).released
      ≡ sample_after d i xs
  unfolding sample_after ciphered_by
  after_done d z b =
      let h : answer (sample_rows i (length xs)) ≡ 0 = sym inputs-answer ∙ z in
      let ks = round_keys (key_of i) in
      rw (er, inputs-accepted i (length xs) h, h)
      (transformed_whole i (length xs) h b (encipher ks) (decipher ks) (λ b l. encipher_length ks b)
      (λ b l. decipher_length ks b) d xs refl)
