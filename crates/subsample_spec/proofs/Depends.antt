-- What the answers depend on, and that accepted lengths add up.
use mathlib.Core.Bool.{true, false}
use mathlib.Core.List.{List, ◌++◌}
use mathlib.Core.Path.{◌≡◌, refl, ap, ◌∙◌, fun_ext}
use Prim.Native.Nat.{ℕ, ◌+◌, ◌*◌, ◌≤◌, ◌<◌}
use native.Mathlib.Omega.{arith}
use lib.Dec.{eqb, ltb}
use lib.ListN.{length, get_or}
use borrow.Author.Tests.{eqb-true, eqb-false, lt-ltb, not-false}
use Rattle.octets.specs.Answers.{answer}
use Rattle.octets.specs.Bytes.{number}
use Rattle.octets.proofs.Alike.{number_alike}
use Rattle.octets.proofs.Answers.{done_head, done_tail, join_alike}
use Rattle.octets.proofs.Tests.{or_false_left, or_false_right}
use Rattle.track_spec.specs.declared.Parameters.{Parameters}
use Rattle.track_spec.specs.Track.{fields_from, fields, read_rows}
use Rattle.track_spec.proofs.Checking.{read_refusals}
use Rattle.track_spec.specs.Depends.{AlikeBoxes}
use Rattle.track_spec.proofs.Depends.{read_alike}
use Rattle.subsample_spec.specs.Auxiliary.{sum, entry_length, written, count_written, bad_size, entry_count, entry_written, map_read, map_rows, auxiliary_rows}
use Rattle.subsample_spec.specs.Depends.{AlikeData}

module _ {p q : Parameters} {a b : List ℕ} (s : AlikeData p q a b) where
  after_alike : (n at : ℕ) → p.iv_size ≤ at → number n a at ≡ number n b at
  after_alike n at h = number_alike a b n at (λ i l m. s.after i (omega arith))

  count_alike : number 2 a p.iv_size ≡ number 2 b p.iv_size
  count_alike = after_alike 2 p.iv_size (omega arith)

  size_alike : bad_size p a ≡ bad_size q b
  unfolding bad_size
  size_alike = rw (← s.protected, ← s.iv_size, s.size, count_alike)

  entries_alike : entry_count p a ≡ entry_count q b
  unfolding entry_count
  entries_alike = rw (← s.protected, ← s.iv_size, s.size, count_alike)

  -- the number of w bytes, k bytes after the IV and i entries on
  length_alike : (w k i : ℕ) → number w a (p.iv_size + k + 6 * i) ≡ number w b (q.iv_size + k + 6 * i)
  length_alike w k i =
      after_alike w (p.iv_size + k + 6 * i) (omega arith) ∙ ap (λ (v : ℕ). number w b (v + k + 6 * i)) s.iv_size

  entry_alike : (i : ℕ) → entry_written p a i ≡ entry_written q b i
  entry_alike i = rw (length_alike 2 2 i, length_alike 4 4 i)

  pub map_alike : map_read p a ≡ map_read q b
  unfolding map_read
  map_alike =
      let f : entry_written p a ≡ entry_written q b = fun_ext entry_alike in
      rw (entries_alike, f)

  -- the answer does not depend on IV bytes, under given parameters
  pub auxiliary_alike : (n : ℕ) → answer (auxiliary_rows p a n) ≡ answer (auxiliary_rows q b n)
  unfolding auxiliary_rows answer
  auxiliary_alike n = rw (size_alike, map_alike, s.code)

module _ (code : List ℕ) {x y : List ℕ} (s : AlikeBoxes x y) (n : ℕ) (a b : List ℕ) (l : length a ≡ length b)
    (h : (i : ℕ) → get_or x 15 0 ≤ i → get_or a i 0 ≡ get_or b i 0) where
  pub fields_alike : AlikeData (fields code x) (fields code y) a b
  unfolding fields fields_from
  fields_alike =
      record {
        code = refl;
        protected = s.front 14 (omega arith);
        iv_size = s.front 15 (omega arith);
        size = l;
        after = h;
      }

  -- the public reader's answer depends on the KID only by whether that of a protected track is zero, and not on IV bytes
  pub reader_alike : answer (read_rows code x ++ auxiliary_rows (fields code x) a n)
      ≡ answer (read_rows code y ++ auxiliary_rows (fields code y) b n)
  reader_alike =
      join_alike (read_refusals code x) (read_refusals code y) (auxiliary_rows (fields code x) a n)
      (auxiliary_rows (fields code y) b n) (read_alike s code) (auxiliary_alike fields_alike n)

-- where entries are written and accepted their lengths add up to the sample's
module _ (p : Parameters) (aux : List ℕ) (w : written p aux ≡ true) where
  some-entry : bad_size p aux ≡ false → 0 < (map_read p aux).count
  unfolding bad_size map_read entry_count
  some-entry h =
      let k = or_false_right (ltb (length aux) (p.iv_size + 2)) (eqb (count_written p aux) 0) (or_false_left _ _ (rw w at h)) in
      rw w (zero_below (count_written p aux) (eqb-false (count_written p aux) 0 k))
    where
      zero_below : (c : ℕ) → (c ≡ 0 → ⊥) → 0 < c
      zero_below c z = omega arith

  pub lengths_add_up : (n : ℕ) → answer (auxiliary_rows p aux n) ≡ 0
      → sum (entry_length (map_read p aux)) (map_read p aux).count ≡ n
  unfolding auxiliary_rows map_rows
  lengths_add_up n h =
      let h7 = done_tail 7 _ _ (omega arith) h in
      let h9 = done_tail 9 _ _ (omega arith) (done_tail 8 _ _ (omega arith) h7) in
      let r = done_head 11 _ _ (omega arith) (done_tail 10 _ _ (omega arith) h9) in
      let c = lt-ltb 0 (map_read p aux).count (some-entry (done_head 8 _ _ (omega arith) h7)) in
      eqb-true (sum (entry_length (map_read p aux)) (map_read p aux).count) n (not-false _ (rw c at r))
