-- What the answers depend on: that of finding a key not on its bytes, and that of a whole-sample call not on key bytes, IV bytes or the
-- sample's contents.
use mathlib.Core.Path.{◌≡◌, ap, ◌∙◌}
use mathlib.Core.List.{List}
use Prim.Native.Nat.{ℕ}
use native.Mathlib.Omega.{arith}
use lib.ListN.{length}
use Rattle.octets.specs.Answers.{answer}
use Rattle.octets.proofs.Alike.{part_alike, filled_alike}
use Rattle.octets.proofs.Answers.{join_alike}
use Rattle.track_spec.specs.declared.Parameters.{Parameters}
use Rattle.track_spec.specs.Track.{fields_from, fields}
use Rattle.track_spec.proofs.Checking.{read_refusals}
use Rattle.track_spec.specs.Depends.{AlikeBoxes}
use Rattle.track_spec.proofs.Depends.{iv_bytes_alike, read_alike}
use Rattle.subsample_spec.specs.Depends.{AlikeData}
use Rattle.subsample_spec.proofs.Depends.{fields_alike, map_alike, auxiliary_alike}
use Rattle.sample_spec.specs.Sample.{Inputs, key_rows, find_key, parameters_of, map_of, sample_rows}
use Rattle.sample_spec.specs.Depends.{AlikeKeys, AlikeInputs}
use Rattle.sample_spec.proofs.Tables.{key_refusals}

-- ---- Finding a key.

module _ {p q : Parameters} {a b : List ℕ} (s : AlikeKeys p q a b) where
  rows_alike : key_rows p a ≡ key_rows q b
  unfolding key_rows
  rows_alike = rw (s.protected, s.kid, s.size, part_alike a b 16 0 s.size (λ k l m. s.front k (omega arith)))

  -- the same answer, whatever the bytes of the key
  pub find_alike : (find_key p a).answer ≡ (find_key q b).answer
  unfolding find_key
  find_alike = ap answer rows_alike

-- ---- Whole-sample calls and starts.

module _ {i j : Inputs} (s : AlikeInputs i j) where
  pub boxes_alike : AlikeBoxes i.box j.box
  boxes_alike = iv_bytes_alike i.box j.box s.box_size s.box_front

  data_alike : AlikeData (parameters_of i) (parameters_of j) i.auxiliary j.auxiliary
  unfolding parameters_of
  data_alike = rw s.code (fields_alike j.code boxes_alike 0 i.auxiliary j.auxiliary s.data_size s.data_after)

  pub maps_alike : map_of i ≡ map_of j
  unfolding map_of
  maps_alike = map_alike data_alike

  kid_alike : (parameters_of i).kid.0 ≡ (parameters_of j).kid.0
  unfolding parameters_of fields fields_from
  kid_alike = filled_alike i.box j.box 16 16 (λ k l m. s.box_front k (omega arith))

  key_alike : AlikeKeys (parameters_of i) (parameters_of j) i.keys j.keys
  key_alike =
      record { protected = data_alike.protected; kid = kid_alike; size = s.record_size; front = s.record_front }

  -- the same answer, for a sample of n bytes
  pub inputs_alike : (n : ℕ) → answer (sample_rows i n) ≡ answer (sample_rows j n)
  unfolding sample_rows
  inputs_alike n =
      join_alike (read_refusals i.code i.box) (read_refusals j.code j.box) _ _
      (read_alike boxes_alike i.code ∙ rw s.code)
      (join_alike (key_refusals (parameters_of i) i.keys) (key_refusals (parameters_of j) j.keys) _ _ (ap answer (rows_alike key_alike))
      (auxiliary_alike data_alike n))

  -- and so for two samples of one length, whatever they hold
  pub calls_alike : (xs ys : List ℕ) → length xs ≡ length ys
      → answer (sample_rows i (length xs)) ≡ answer (sample_rows j (length ys))
  calls_alike xs ys l = inputs_alike (length xs) ∙ ap (λ (n : ℕ). answer (sample_rows j n)) l
