-- No call that answers 0 ciphers under the zero KID.
use mathlib.Core.Bool.{Bool, true, false, cond}
use mathlib.Core.List.{List, ◌++◌}
use mathlib.Core.Path.{◌≡◌, refl, ap}
use Prim.Native.Nat.{ℕ, ◌+◌}
use native.Mathlib.Omega.{arith}
use lib.Dec.{eqb}
use lib.ListN.{length, drop}
use borrow.Author.Tests.{eqb-true, ne_eqb, not-false}
use Rattle.octets.specs.Answers.{answer}
use Rattle.octets.proofs.Answers.{done_head, join_first}
use Rattle.modes_spec.specs.declared.Direction.{Direction}
use Rattle.track_spec.specs.Track.{zero_kid, Held, read_rows, unprotected, read_box, write_box}
use Rattle.track_spec.specs.ZeroKid.{NonzeroIfProtected}
use Rattle.track_spec.proofs.Checking.{check-allowed}
use Rattle.track_spec.proofs.ZeroKid.{read_nonzero, checked_nonzero, written_nonzero, zero_kid_unprotected}
use Rattle.subsample_spec.specs.Auxiliary.{handed_out, read_auxiliary}
use Rattle.scheme.specs.Machine.{Stepped}
use Rattle.scheme.proofs.Under.{clear_fed, clear_held}
use Rattle.sample_spec.specs.Sample.{Inputs, iv_of, sample_rows}
use Rattle.sample_spec.proofs.ZeroKid.{sample_nonzero, zero_kid_stays}
use Rattle.stream_spec.specs.declared.Stream.{Stream}
use Rattle.stream_spec.specs.Stream.{held_by, sound, begun_with, idle, declared_by, start, due, feed_rows, machine, fed_by, feed, output_after, end_rows, end}
use Rattle.stream_spec.specs.ZeroKid.{parameters_in, NoneUnderZeroKid}
use Rattle.stream_spec.proofs.Rules.{sound_rules, held_is, done_sound}

-- an unprotected track has any KID
none_protected : NonzeroIfProtected unprotected
none_protected e = absurd (omega arith)

read_parameters : (code box : List ℕ) → (read_box code box).answer ≡ 0 → NonzeroIfProtected (read_box code box).parameters
unfolding read_box
read_parameters code box h = rw h (read_nonzero code box h)

started_nonzero : (d : Direction) (i : Inputs) (n : ℕ) → NonzeroIfProtected (parameters_in (start d i n).stream)
unfolding start
started_nonzero d i n = go (eqb (answer (sample_rows i n)) 0) refl
  where
    go : (t : Bool) → eqb (answer (sample_rows i n)) 0 ≡ t
        → NonzeroIfProtected (parameters_in (cond t (begun_with (declared_by d i n) (iv_of i)) idle))
    go true e = sample_nonzero i n (eqb-true (answer (sample_rows i n)) 0 e)
    go false e = none_protected

-- ---- A sound record.

sound_nonzero : (t : Stream) → Held (parameters_in t) → sound t ≡ true → NonzeroIfProtected (parameters_in t)
sound_nonzero t held ok = checked_nonzero (parameters_in t) held (sound_rules t ok).parameters

end_sound : (t : Stream) → (end t).answer ≡ 0 → sound t ≡ true
unfolding end end_rows
end_sound t h = not-false (sound t) (done_head 13 _ _ (omega arith) h)

-- under the zero KID the track is not protected
unprotected_record : (t : Stream) → zero_kid (parameters_in t).kid.0 ≡ true → sound t ≡ true → eqb (parameters_in t).protected 1 ≡ false
unprotected_record t z ok =
    ne_eqb (parameters_in t).protected 1
    (zero_kid_unprotected (parameters_in t) (check-allowed (parameters_in t) (sound_rules t ok).parameters) z)

-- so that nothing is held, and what comes out is the piece
module _ (t : Stream) (piece out : List ℕ) (z : zero_kid (parameters_in t).kid.0 ≡ true)
    (h : answer (feed_rows t (length piece) (length out)) ≡ 0) where
  ok : sound t ≡ true
  ok = done_sound t (length piece) (length out) h

  clear : eqb (parameters_in t).protected 1 ≡ false
  clear = unprotected_record t z ok

  none_held : (x : ℕ) → held_by t.declared x ≡ 0
  none_held x = clear_held (parameters_in t) t.declared.map t.declared.length clear x

  all_due : due t (length piece) ≡ length piece
  unfolding due
  all_due =
      omega (arith, held_is t ok, none_held t.progress.position, none_held (t.progress.position + length piece))

  all_released : (fed_by t piece).released ≡ piece
  unfolding machine
  all_released =
      ap (λ (s : Stepped). s.released)
      (clear_fed _ _ t.declared.direction (parameters_in t) t.declared.map t.declared.length clear _ _ _ piece)

  passes : output_after t piece out ≡ piece ++ drop (length piece) out
  unfolding output_after
  passes = rw (h, all_released, all_due)

pub none_under_zero_kid : NoneUnderZeroKid
unfolding write_box read_auxiliary handed_out feed
none_under_zero_kid =
    record {
      read = read_parameters;
      checked = checked_nonzero;
      written = λ p room held h. written_nonzero p held room h;
      data_read = λ code box auxiliary n h. read_nonzero code box (join_first (read_rows code box) _ h);
      sample = sample_nonzero;
      started = started_nonzero;
      sound = sound_nonzero;
      fed = λ t piece room held h. sound_nonzero t held (done_sound t (length piece) room h);
      ended = λ t held h. sound_nonzero t held (end_sound t h);
      sample_stays = λ d i xs z. zero_kid_stays i z d xs;
      piece_passes = passes;
    }
