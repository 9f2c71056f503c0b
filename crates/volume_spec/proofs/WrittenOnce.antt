-- After any list of additions to the empty volume, each record accepted is there byte for byte, in order, and no others are.
use mathlib.Core.Bool.{Bool, true, false}
use mathlib.Core.List.{List, [], ◌∷◌, ◌++◌, append_assoc, append-nil, map, map-append, map-map}
use mathlib.Core.Path.{◌≡◌, refl, sym, ap, ◌∙◌}
use Prim.Native.Nat.{ℕ, ◌+◌, ◌^◌, ◌<◌}
use native.Mathlib.Omega.{arith}
use lib.Dec.{eqb}
use lib.ListN.{length, take, length-map, get_or-append}
use lib.Seq.{take-append_seam}
use borrow.Author.Tests.{eqb-true, eqb-false, ne_eqb}
use Rattle.octets.specs.Answers.{Row, answer}
use Rattle.octets.proofs.Bytes.{placed_fits}
use Rattle.volume_spec.specs.Volume.{trailer, trailer_bytes, entries, index, adjoining, largest_day, valid, found, none, add_rows, added, add, after_adding, Valid}
use Rattle.volume_spec.specs.Additions.{handed_out, Stored, stored, Addition, answer_to, leaves, volume_after, accepted, kept, WrittenOnce, Grown}
use Rattle.volume_spec.proofs.Fields.{length_fields, trailer-fields}
use Rattle.volume_spec.proofs.Valid.{is_valid}
use Rattle.volume_spec.proofs.Records.{check-valid, record_there, record_missing, length-stored, handed-stored}
use Rattle.volume_spec.proofs.Adding.{length-added, valid-added, stored-added}
use Rattle.volume_spec.proofs.Writing.{Accepted, accepted_says}

-- ---- One addition.

module _ (v : List ℕ) (a : Addition) where
  abbrev rows : List Row
  rows = add_rows v a.contents a.term a.today (length a.output)

  says : answer rows ≡ 0 → Accepted v a.contents a.term a.today (length a.output)
  says = accepted_says v a.contents a.term a.today (length a.output)

  answer_is : (answer_to v a).answer ≡ answer rows
  unfolding add
  answer_is = refl

  leaves-added : answer rows ≡ 0 → leaves v a ≡ added v a.contents a.term a.today
  unfolding leaves add after_adding
  leaves-added h = rw (h, placed_fits a.output 0 (added v a.contents a.term a.today) (omega (arith, (says h).fits))) (take-append_seam _ _)

  leaves-same : (answer rows ≡ 0 → ⊥) → leaves v a ≡ v
  unfolding leaves add
  leaves-same h = rw (ne_eqb (answer rows) 0 h)

-- An addition to a valid volume is refused and leaves it, or is accepted and leaves a valid one with the record last.
data Outcome (v : List ℕ) (a : Addition) : Type 0 where
  refused : (answer (rows v a) ≡ 0 → ⊥) → leaves v a ≡ v → Outcome v a
  done : answer (rows v a) ≡ 0 → Valid (leaves v a) → stored (leaves v a) ≡ stored v ++ (kept a ∷ []) → Outcome v a

module _ (v : List ℕ) (h : Valid v) (a : Addition) where
  outcome : Outcome v a
  outcome = go (eqb (answer (rows v a)) 0) refl
    where
      go : (b : Bool) → eqb (answer (rows v a)) 0 ≡ b → Outcome v a
      go true e =
          let z = eqb-true (answer (rows v a)) 0 e in
          let s = says v a z in
          let r : length v + length a.contents + 24 < 2 ^ 64 =
          omega (arith, length-added v a.contents a.term a.today h, s.fits, a.output_fits) in
          done z
          (rw (leaves-added v a z) (valid-added v a.contents a.term a.today h r a.term_fits a.today_fits s.in_time))
          (rw (leaves-added v a z) (stored-added v a.contents a.term a.today h r a.term_fits a.today_fits))
      go false e =
          let n = eqb-false (answer (rows v a)) 0 e in
          refused n (leaves-same v a n)

  leaves-valid : Valid (leaves v a)
  leaves-valid = go outcome
    where
      go : Outcome v a → Valid (leaves v a)
      go (refused n e) = rw e h
      go (done z w s) = w

-- ---- Any list of them, to any valid volume.

grown_step : (v : List ℕ) → (a : Addition) (adds : List Addition) → Outcome v a → Grown (leaves v a) adds → Grown v (a ∷ adds)
unfolding volume_after accepted
grown_step v a adds (refused n e) g =
    record { is_valid = g.is_valid; holds = rw (answer_is v a, ne_eqb (answer (rows v a)) 0 n) (g.holds ∙ ap (λ (w : List ℕ). stored w ++ map kept (accepted (leaves v a) adds)) e) }
grown_step v a adds (done z w s) g =
    record {
      is_valid = g.is_valid;
      holds =
          rw (answer_is v a, z)
          (g.holds ∙ ap (λ (l : List Stored). l ++ map kept (accepted (leaves v a) adds)) s
          ∙ append_assoc (stored v) (kept a ∷ []) (map kept (accepted (leaves v a) adds)));
    }

pub grown : (v : List ℕ) → Valid v → (adds : List Addition) → Grown v adds
unfolding volume_after accepted
grown v h [] = record { is_valid = h; holds = sym (append-nil (stored v)) }
grown v h (a ∷ adds) = grown_step v a adds (outcome v h a) (grown (leaves v a) (leaves-valid v h a) adds)

-- further additions
volume_after_more : (v : List ℕ) (adds more : List Addition) → volume_after v (adds ++ more) ≡ volume_after (volume_after v adds) more
unfolding volume_after
volume_after_more v [] more = refl
volume_after_more v (a ∷ adds) more = volume_after_more (leaves v a) adds more

-- ---- What is handed out.

-- records of a valid volume stay
handed_stays : (v : List ℕ) → Valid v → (more : List Addition) (k : ℕ) → k < length (stored v)
    → handed_out (volume_after v more) k ≡ handed_out v k
handed_stays v h more k l =
    let g = grown v h more in
    let f = map (λ (s : Stored). s.contents) in
    let n : length (f (stored v)) ≡ length (stored v) = length-map (stored v) (λ s. s.contents) in
    handed-stored (volume_after v more) k (is_valid (volume_after v more) g.is_valid)
    ∙ rw (g.holds, map-append (λ (s : Stored). s.contents) (stored v) (map kept (accepted v more)))
    (get_or-append (f (stored v)) (f (map kept (accepted v more))) [] k (omega arith))
    ∙ sym (handed-stored v k (is_valid v h))

-- ---- From the empty volume.

trailer-none : trailer none ≡ record { offset = 0; count = 0; latest = 0; last = 0 }
unfolding trailer_bytes
trailer-none = trailer-fields 0 0 0 0 (record { first = omega arith; second = omega arith; third = omega arith; fourth = omega arith }) []

index-none : index none ≡ []
unfolding entries
index-none = rw trailer-none

pub empty_valid : Valid none
unfolding trailer_bytes adjoining largest_day
empty_valid =
    let l = length_fields 0 0 0 0 in
    record {
      whole = omega arith;
      filled = rw trailer-none (omega arith);
      adjoined = rw (index-none, trailer-none);
      last = rw trailer-none;
      latest = rw (index-none, trailer-none);
    }

stored-none : stored none ≡ []
unfolding stored
stored-none = rw index-none

module _ (adds : List Addition) where
  abbrev volume : List ℕ
  volume = volume_after none adds

  is_grown : Grown none adds
  is_grown = grown none empty_valid adds

  volume_valid : valid volume ≡ true
  volume_valid = is_valid volume is_grown.is_valid

  holds_accepted : stored volume ≡ map kept (accepted none adds)
  holds_accepted = is_grown.holds ∙ rw stored-none

  pub count-accepted : (trailer volume).count ≡ length (accepted none adds)
  count-accepted = sym (length-stored volume) ∙ ap length holds_accepted ∙ length-map (accepted none adds) kept

  pub written_once : WrittenOnce adds
  unfolding found
  written_once =
      record {
        valid = λ n. check-valid _ (is_valid _ (grown none empty_valid (take n adds)).is_valid);
        holds = holds_accepted;
        handed = λ k l. record_there volume k volume_valid (omega (arith, count-accepted));
        bytes = λ k. handed-stored volume k volume_valid ∙ rw (holds_accepted, map-map (λ (s : Stored). s.contents) kept (accepted none adds));
        no_others = λ k l. record_missing volume k volume_valid (omega (arith, count-accepted));
        stays = λ more k l. rw (volume_after_more none adds more) (handed_stays volume is_grown.is_valid more k (omega (arith, count-accepted, length-stored volume)));
      }
