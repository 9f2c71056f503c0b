-- The table of a whole-sample call: the first of box, key record and auxiliary data that is refused decides.
use mathlib.Core.List.{List, ◌++◌}
use mathlib.Core.Path.{◌≡◌, sym, ap, ◌∙◌}
use Prim.Native.Nat.{ℕ}
use lib.Dec.{lit<}
use borrow.Author.Tests.{ne_eqb}
use Rattle.octets.specs.Answers.{Row, answer}
use Rattle.octets.proofs.Answers.{Refusals, none, more, join_done, join_refused, join_first}
use Rattle.track_spec.specs.declared.Parameters.{Parameters}
use Rattle.track_spec.specs.Track.{BoxRead}
use Rattle.track_spec.specs.Track.{zeros, read_rows, unprotected, read_box}
use Rattle.track_spec.proofs.Checking.{read_refusals}
use Rattle.subsample_spec.specs.Auxiliary.{AuxiliaryRead}
use Rattle.subsample_spec.specs.Auxiliary.{empty_map, auxiliary_rows, read_under}
use Rattle.subsample_spec.specs.Auxiliary as auxiliary
use Rattle.sample_spec.specs.Sample.{KeyFound}
use Rattle.sample_spec.specs.Sample.{InputsRead}
use Rattle.sample_spec.specs.Sample.{Inputs, key_rows, find_key, parameters_of, key_of, map_of, iv_of, sample_rows, handed_out, read_inputs}

pub key_refusals : (p : Parameters) (keys : List ℕ) → Refusals (key_rows p keys)
unfolding key_rows
key_refusals p keys = more (lit< tt) (more (lit< tt) none)

module _ (i : Inputs) (n : ℕ) where
  abbrev p : Parameters
  p = parameters_of i

  -- the rows of the box, of the key record and of the auxiliary data
  abbrev box_rows : List Row
  box_rows = read_rows i.code i.box

  abbrev keys_rows : List Row
  keys_rows = key_rows p i.keys

  abbrev data_rows : List Row
  data_rows = auxiliary_rows p i.auxiliary n

  pub box_decides : (answer box_rows ≡ 0 → ⊥) → answer (sample_rows i n) ≡ answer box_rows
  unfolding sample_rows
  box_decides h = join_refused box_rows (keys_rows ++ data_rows) h

  module _ (b : answer box_rows ≡ 0) where
    pub box_done : answer (sample_rows i n) ≡ answer (keys_rows ++ data_rows)
    unfolding sample_rows
    box_done = join_done (read_refusals i.code i.box) (keys_rows ++ data_rows) b

    pub key_decides : (answer keys_rows ≡ 0 → ⊥) → answer (sample_rows i n) ≡ answer keys_rows
    key_decides h = box_done ∙ join_refused keys_rows data_rows h

    pub auxiliary_decides : answer keys_rows ≡ 0 → answer (sample_rows i n) ≡ answer data_rows
    auxiliary_decides k = box_done ∙ join_done (key_refusals p i.keys) data_rows k

  -- where the call is accepted all three are
  module _ (h : answer (sample_rows i n) ≡ 0) where
    pub box_accepted : answer box_rows ≡ 0
    unfolding sample_rows
    box_accepted = join_first box_rows (keys_rows ++ data_rows) h

    pub key_accepted : answer keys_rows ≡ 0
    key_accepted = join_first keys_rows data_rows (sym (box_done box_accepted) ∙ h)

    pub auxiliary_accepted : answer data_rows ≡ 0
    auxiliary_accepted = sym (auxiliary_decides box_accepted key_accepted) ∙ h

  pub inputs-refused : (k : ℕ) → answer (sample_rows i n) ≡ k → (k ≡ 0 → ⊥)
      → read_inputs i n
      ≡ record { answer = k; parameters = unprotected; key = record { 0 = zeros }; map = empty_map; iv = record { 0 = zeros } }
  unfolding read_inputs handed_out
  inputs-refused k e h = rw (e, ne_eqb k 0 h)

  pub inputs-accepted : answer (sample_rows i n) ≡ 0
      → read_inputs i n
      ≡ record { answer = 0; parameters = p; key = record { 0 = key_of i }; map = map_of i; iv = record { 0 = iv_of i } }
  unfolding read_inputs handed_out
  inputs-accepted e = rw e

-- what reading box, key record and auxiliary data one after the other makes of the inputs
abbrev refusal : ℕ → InputsRead
refusal k = record { answer = k; parameters = unprotected; key = record { 0 = zeros }; map = empty_map; iv = record { 0 = zeros } }

module _ (i : Inputs) (n : ℕ) (r : BoxRead) (er : r ≡ read_box i.code i.box) where
  box_answer : r.answer ≡ answer (box_rows i n)
  unfolding read_box
  box_answer = ap (λ (r : BoxRead). r.answer) er

  pub refused_box : (r.answer ≡ 0 → ⊥) → read_inputs i n ≡ refusal r.answer
  refused_box h = inputs-refused i n r.answer (box_decides i n (λ e. h (box_answer ∙ e)) ∙ sym box_answer) h

  module _ (h0 : r.answer ≡ 0) (k : KeyFound) (ek : k ≡ find_key r.parameters i.keys) where
    b : answer (box_rows i n) ≡ 0
    b = sym box_answer ∙ h0

    parameters : r.parameters ≡ parameters_of i
    unfolding read_box parameters_of
    parameters = ap (λ (r : BoxRead). r.parameters) er ∙ rw b

    key_answer : k.answer ≡ answer (keys_rows i n)
    unfolding find_key
    key_answer = ap (λ (k : KeyFound). k.answer) ek ∙ rw parameters

    pub refused_key : (k.answer ≡ 0 → ⊥) → read_inputs i n ≡ refusal k.answer
    refused_key h = inputs-refused i n k.answer (key_decides i n b (λ e. h (key_answer ∙ e)) ∙ sym key_answer) h

    module _ (h1 : k.answer ≡ 0) (u : AuxiliaryRead) (eu : u ≡ read_under r.parameters i.auxiliary n) where
      data_answer : u.answer ≡ answer (data_rows i n)
      unfolding read_under auxiliary.handed_out
      data_answer = ap (λ (u : AuxiliaryRead). u.answer) eu ∙ rw parameters

      decided : answer (sample_rows i n) ≡ u.answer
      decided = auxiliary_decides i n b (sym key_answer ∙ h1) ∙ sym data_answer

      pub refused_data : (u.answer ≡ 0 → ⊥) → read_inputs i n ≡ refusal u.answer
      refused_data h = inputs-refused i n u.answer decided h

      pub read_done : u.answer ≡ 0
          → record { answer = 0; parameters = r.parameters; key = k.key; map = u.map; iv = u.iv } ≡ read_inputs i n
      unfolding find_key read_under auxiliary.handed_out key_of map_of iv_of
      read_done h =
          rw (inputs-accepted i n (decided ∙ h), ek, eu, parameters, sym key_answer ∙ h1, sym data_answer ∙ h)
