-- A sample under 0:0 gets the answer and the bytes that it gets under 1:0.
use mathlib.Core.Bool.{true, cond}
use mathlib.Core.List.{List, ◌++◌}
use mathlib.Core.Logic.{◌⊎◌, ⊎_elim}
use mathlib.Core.Path.{◌≡◌, refl, sym, ap, ◌∙◌}
use Prim.Native.Nat.{ℕ}
use native.Mathlib.Nat.{le_refl}
use lib.Dec.{eqb}
use lib.ListN.{length}
use Rattle.octets.specs.Answers.{answer}
use Rattle.octets.specs.Bytes.{same}
use Rattle.octets.proofs.OfBytes.{filled-length}
use Rattle.octets.proofs.Tests.{&&_left}
use Rattle.modes_spec.specs.declared.Direction.{Direction}
use Rattle.track_spec.specs.declared.Parameters.{Parameters}
use Rattle.track_spec.specs.Track.{BoxRead}
use Rattle.track_spec.specs.Track.{cens, cbcs, box_length, eight_or_sixteen, pattern_or_none, allowed, allowed_fields, allowed_protected, Held, fields, fields_from, read_rows, read_box, box_bytes, parameter_rows}
use Rattle.track_spec.proofs.Codes.{allowed_kid, allowed_constant, allowed-fields}
use Rattle.track_spec.proofs.Fields.{constant_length}
use Rattle.track_spec.proofs.Checking.{write_done}
use Rattle.track_spec.proofs.RoundTrip.{accepted, write_read}
use Rattle.subsample_spec.specs.Auxiliary.{bad_size, entry_count, map_read, iv_read, auxiliary_rows}
use Rattle.sample_spec.specs.Sample.{Inputs, key_rows, key_in, parameters_of, key_of, map_of, iv_of, answered, ciphered_by, sample_after}
use Rattle.sample_spec.specs.WholeBlocks.{one_to_zero, under_one_to_zero, WholeBlocks, AsOneToZero}
use Rattle.sample_spec.proofs.Tables.{box_done}
use Rattle.scheme.specs.Layout.{pattern_of, in_crypt_run}
use Rattle.scheme.proofs.Patterns.{as_one_to_zero}
use Rattle.scheme.proofs.SamePattern.{ciphered-same}

-- where 0:0 is allowed, 1:0 is
fields-allowed : (code : List ℕ) (iv_size crypt skip : ℕ) → (code ≡ cens) ⊎ (code ≡ cbcs) → allowed_fields code 1 iv_size crypt skip ≡ true
    → allowed_fields code 1 iv_size 1 0 ≡ true
unfolding allowed_fields allowed_protected same
fields-allowed code iv_size crypt skip s h =
    ⊎_elim (λ e. rw e (rw (&&_left (eight_or_sixteen iv_size) (pattern_or_none crypt skip) (rw e at h))))
    (λ e. rw e (rw (&&_left (eqb iv_size 0) (pattern_or_none crypt skip) (rw e at h)))) s

allowed_as_well : (p : Parameters) → (p.code ≡ cens) ⊎ (p.code ≡ cbcs) → p.protected ≡ 1 → allowed p ≡ true
    → allowed (one_to_zero p) ≡ true
unfolding allowed
allowed_as_well p s one h =
    rw (allowed_kid p h, allowed_constant p h, one)
    (fields-allowed p.code p.iv_size p.crypt p.skip s (rw one at (allowed-fields p h)))

module _ (i : Inputs) (w : WholeBlocks i) where
  abbrev p : Parameters
  p = parameters_of i

  abbrev q : Parameters
  q = one_to_zero p

  abbrev j : Inputs
  j = under_one_to_zero i

  -- the box with 1:0 is written and read again
  one_to_zero_held : Held q
  unfolding parameters_of fields fields_from
  one_to_zero_held = record { kid = filled-length 16 _; constant = constant_length 12 i.code 0 i.box }

  one_to_zero_allowed : allowed q ≡ true
  unfolding parameters_of fields fields_from
  one_to_zero_allowed = allowed_as_well p w.scheme w.protected (accepted i.code i.box w.accepted).permitted

  pub one_to_zero_checked : answer (parameter_rows q) ≡ 0
  unfolding answer parameters_of fields fields_from
  one_to_zero_checked = rw ((accepted i.code i.box w.accepted).known_code, one_to_zero_allowed)

  box_read : read_box i.code (box_bytes q) ≡ record { answer = 0; parameters = q }
  unfolding parameters_of fields fields_from
  box_read =
      let size = box_length q.protected q.iv_size in
      write_read q size one_to_zero_held (write_done q size one_to_zero_checked (le_refl size))

  one_to_zero_accepted : answer (read_rows i.code (box_bytes q)) ≡ 0
  unfolding read_box
  one_to_zero_accepted = ap (λ (r : BoxRead). r.answer) box_read

  pub one_to_zero_parameters : parameters_of j ≡ q
  unfolding read_box parameters_of
  one_to_zero_parameters = sym (rw one_to_zero_accepted) ∙ ap (λ (r : BoxRead). r.parameters) box_read

  -- key, map and IV are the same
  pub same_key : key_of j ≡ key_of i
  unfolding key_of key_in
  same_key = ap (λ (r : Parameters). key_in r i.keys) one_to_zero_parameters

  pub same_map : map_of j ≡ map_of i
  unfolding map_of map_read entry_count
  same_map = ap (λ (r : Parameters). map_read r i.auxiliary) one_to_zero_parameters

  pub same_iv : iv_of j ≡ iv_of i
  unfolding iv_of iv_read
  same_iv = ap (λ (r : Parameters). iv_read r i.auxiliary) one_to_zero_parameters

  -- and key record and auxiliary data get the same number
  abbrev later : Parameters → ℕ → ℕ
  later r n = answer (key_rows r i.keys ++ auxiliary_rows r i.auxiliary n)

  later_same : (n : ℕ) → later p n ≡ later q n
  unfolding key_rows auxiliary_rows bad_size map_read entry_count
  later_same n = refl

  same_answer : (n : ℕ) → answered i n ≡ answered j n
  same_answer n =
      box_done i n w.accepted ∙ later_same n ∙ ap (λ (r : Parameters). later r n) (sym one_to_zero_parameters) ∙ sym (box_done j n one_to_zero_accepted)

  -- the same blocks are ciphered
  pub same_blocks : (o : ℕ) → in_crypt_run (pattern_of p) o ≡ in_crypt_run (pattern_of q) o
  unfolding pattern_of
  same_blocks o = rw (w.crypt, w.skip) (as_one_to_zero o)

  same_sample : (d : Direction) (xs : List ℕ) → sample_after d i xs ≡ sample_after d j xs
  unfolding sample_after ciphered_by
  same_sample d xs =
      rw (same_key, same_map, same_iv, one_to_zero_parameters, ← (same_answer (length xs)))
      (ap (λ (ys : List ℕ). cond (eqb (answered i (length xs)) 0) ys xs) (ciphered-same p q refl refl same_blocks _ _ d _ _ xs))

  pub as_one_to_zero_holds : AsOneToZero i
  as_one_to_zero_holds = record { accepted = one_to_zero_accepted; parameters = one_to_zero_parameters; answer = same_answer; sample = same_sample }
