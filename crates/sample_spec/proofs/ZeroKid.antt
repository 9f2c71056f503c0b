-- A whole-sample call that is accepted is not under the zero KID, and under the zero KID nothing is ciphered; what was locked under it comes
-- back under another KID.
use mathlib.Core.Bool.{Bool, true, false}
use mathlib.Core.List.{List}
use mathlib.Core.Path.{◌≡◌, refl, sym, ap, ◌∙◌}
use Prim.Native.Nat.{ℕ, ◌<◌}
use native.Mathlib.Omega.{arith}
use lib.Dec.{eqb}
use lib.ListN.{length, get_or}
use borrow.Author.Tests.{eqb-true, eqb-false}
use Rattle.octets.proofs.Alike.{filled_alike}
use Rattle.modes_spec.specs.declared.Direction.{Direction}
use Rattle.modes_spec.specs.Undone.{back}
use Rattle.track_spec.specs.declared.Parameters.{Parameters}
use Rattle.track_spec.specs.Track.{zero_kid, fields_from, fields}
use Rattle.track_spec.specs.ZeroKid.{NonzeroIfProtected}
use Rattle.track_spec.proofs.ZeroKid.{read_nonzero, zero_kid_unprotected}
use Rattle.subsample_spec.specs.Auxiliary.{iv_read}
use Rattle.subsample_spec.specs.Depends.{AlikeData}
use Rattle.subsample_spec.proofs.Depends.{map_alike}
use Rattle.scheme.specs.Layout.{pattern_of, in_crypt_run}
use Rattle.scheme.proofs.SamePattern.{ciphered-same}
use Rattle.sample_spec.specs.Sample.{Inputs, OfBytes, key_in, parameters_of, key_of, map_of, iv_of, answered, ciphered_by, sample_after}
use Rattle.sample_spec.specs.ZeroKid.{OtherKid}
use Rattle.sample_spec.proofs.Tables.{box_accepted}
use Rattle.sample_spec.proofs.Accepted.{permitted}
use Rattle.sample_spec.proofs.RoundTrip.{accepted-after, refused_stays, unprotected_stays, given_back}

module _ (i : Inputs) where
  pub sample_nonzero : (n : ℕ) → answered i n ≡ 0 → NonzeroIfProtected (parameters_of i)
  unfolding parameters_of
  sample_nonzero n h = read_nonzero i.code i.box (box_accepted i n h)

  -- under the zero KID the sample stays as it is, whatever is answered
  pub zero_kid_stays : zero_kid (parameters_of i).kid.0 ≡ true → (d : Direction) (xs : List ℕ) → sample_after d i xs ≡ xs
  zero_kid_stays z d xs = go (eqb (answered i (length xs)) 0) refl
    where
      go : (t : Bool) → eqb (answered i (length xs)) 0 ≡ t → sample_after d i xs ≡ xs
      go true e =
          let h = permitted i (length xs) (eqb-true (answered i (length xs)) 0 e) in
          unprotected_stays i d xs (zero_kid_unprotected (parameters_of i) h z)
      go false e = refused_stays i d xs (eqb-false (answered i (length xs)) 0 e)

-- ---- A sample that was locked under the zero KID.

-- No ciphered byte depends on the KID.
module _ {i j : Inputs} (s : OtherKid i j) where
  abbrev p : Parameters
  p = parameters_of i

  abbrev q : Parameters
  q = parameters_of j

  data_alike : AlikeData p q i.auxiliary j.auxiliary
  unfolding parameters_of fields fields_from
  data_alike =
      record {
        code = s.code;
        protected = s.box_before 14 (omega arith);
        iv_size = s.box_before 15 (omega arith);
        size = ap length s.auxiliary;
        after = λ k l. ap (λ (b : List ℕ). get_or b k 0) s.auxiliary;
      }

  same_crypt_runs : (o : ℕ) → in_crypt_run (pattern_of p) o ≡ in_crypt_run (pattern_of q) o
  unfolding pattern_of parameters_of fields fields_from
  same_crypt_runs o = rw (s.box_before 13 (omega arith))

  same_constant : p.constant_iv.0 ≡ q.constant_iv.0
  unfolding parameters_of fields fields_from
  same_constant =
      rw (s.box_before 14 (omega arith), s.box_before 15 (omega arith), filled_alike i.box j.box 16 33 (λ k l m. s.box_behind k (omega arith)))

  same_key : key_of i ≡ key_of j
  unfolding key_of key_in
  same_key = rw (data_alike.protected, filled_alike i.keys j.keys 16 16 (λ k l m. s.key k l))

  same_map : map_of i ≡ map_of j
  unfolding map_of
  same_map = map_alike data_alike

  same_iv : iv_of i ≡ iv_of j
  unfolding iv_of iv_read
  same_iv = rw (data_alike.protected, data_alike.iv_size, same_constant, s.auxiliary)

  pub other_kid_ciphers_alike : (d : Direction) (xs : List ℕ) → ciphered_by d i xs ≡ ciphered_by d j xs
  unfolding ciphered_by
  other_kid_ciphers_alike d xs =
      rw (same_key, same_map, same_iv)
      (ciphered-same p q data_alike.code data_alike.protected same_crypt_runs _ _ d (map_of j) (iv_of j) xs)

  -- what the one inputs make of a sample the other turns back, if they are accepted
  pub other_kid_gives-back : OfBytes j → ((k : ℕ) → get_or j.keys k 0 < 256) → (d : Direction) (xs : List ℕ)
      → ((k : ℕ) → get_or xs k 0 < 256) → answered j (length xs) ≡ 0 → sample_after (back d) j (ciphered_by d i xs) ≡ xs
  other_kid_gives-back b hk d xs hx h =
      ap (sample_after (back d) j) (other_kid_ciphers_alike d xs ∙ sym (accepted-after j d xs h)) ∙ given_back j b hk d xs hx
