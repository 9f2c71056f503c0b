-- Two streams that keep the same rules, call for the same bytes to be held and stand at the same position: they get the same replies.
use mathlib.Core.List.{List}
use mathlib.Core.Path.{◌≡◌}
use Prim.Native.Nat.{ℕ, ◌+◌}
use lib.ListN.{length}
use Rattle.octets.specs.Answers.{answer}
use Rattle.stream_spec.specs.declared.Stream.{Stream}
use Rattle.stream_spec.specs.Stream.{held_by, sound_declared, sound, due, feed_rows, feed, end_rows, end}
use Rattle.stream_spec.specs.Demand3.{reply}

pub record SameRules (t u : Stream) : Type 0 where
  pub rules : sound_declared t.declared ≡ sound_declared u.declared
  pub length : t.declared.length ≡ u.declared.length
  pub held : (x : ℕ) → held_by t.declared x ≡ held_by u.declared x
  pub position : t.progress.position ≡ u.progress.position
  pub held_count : t.progress.held_count ≡ u.progress.held_count

module _ {t u : Stream} (s : SameRules t u) where
  pub same-sound : sound t ≡ sound u
  unfolding sound
  same-sound = rw (s.rules, s.held t.progress.position, s.length, s.position, s.held_count)

  pub same_due : (n : ℕ) → due t n ≡ due u n
  unfolding due
  same_due n = rw (s.held_count, s.position, s.held (u.progress.position + n))

  pub same_rows : (n room : ℕ) → answer (feed_rows t n room) ≡ answer (feed_rows u n room)
  unfolding feed_rows answer
  same_rows n room = rw (same-sound, same_due n, s.length, s.position)

  -- for pieces of one length and outputs of one length
  pub same-reply : (piece piece' : List ℕ) (room room' : ℕ) → length piece ≡ length piece' → room ≡ room'
      → reply (feed t piece room).answer (feed t piece room).released
      ≡ reply (feed u piece' room').answer (feed u piece' room').released
  unfolding feed
  same-reply piece piece' room room' l e = rw (l, e, same_rows (length piece') room', same_due (length piece'))

  pub same_end : (end t).answer ≡ (end u).answer
  unfolding end end_rows answer
  same_end = rw (same-sound, s.length, s.position)
