use mathlib.Core.Bool.{true}
use mathlib.Core.Path.{◌≡◌, sym, ◌∙◌}
use Prim.Native.Nat.{◌+◌, ◌≤◌}
use Rattle.stream_spec.specs.Stream.{sound, due}
use Rattle.stream_spec.proofs.Rules.{position_within, held_most, sound_rules}
use Rattle.stream_spec.proofs.Feeding.{enough}
use native.Mathlib.Omega.{arith}
use Rattle.stream.proofs.check.Goals as goal

pub overflow_add-due : goal.overflow_add-due
overflow_add-due c =
    let t = c.args.stream in
    let is_sound : sound t ≡ true = sym c.sound.ensures ∙ c.if-not-sound.false in
    record { fits = omega (arith, c.if-declared-progress.false, held_most t is_sound, (sound_rules t is_sound).short) }

pub returns : goal.returns
unfolding due
returns c =
    let a = c.args in
    let is_sound : sound a.stream ≡ true = sym c.sound.ensures ∙ c.if-not-sound.false in
    let within : a.stream.progress.position + a.n ≤ a.stream.declared.length = omega (arith, c.if-declared-progress.false, position_within a.stream is_sound) in
    rw c.held_by-kept.ensures
    (enough a.stream a.n a.room is_sound within (omega (arith, c.held_by-kept.ensures, c.if-room-due.false)))
