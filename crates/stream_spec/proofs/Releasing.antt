-- What a feeding makes of the held bytes and the piece: the transform of those that are due is what the machine releases.
use mathlib.Core.Bool.{Bool, true, false}
use mathlib.Core.List.{List, [], ◌∷◌, ◌++◌}
use mathlib.Core.Path.{◌≡◌, refl, sym, ap, ◌∙◌}
use Prim.Native.Nat.{ℕ, ◌+◌, ◌-◌, ◌%◌, ◌≤◌}
use native.Mathlib.Omega.{arith}
use lib.Dec.{eqb}
use lib.ListN.{length, take, drop, length-append, length-drop}
use borrow.Author.Tests.{eqb-true}
use Rattle.octets.specs.Bytes.{filled}
use Rattle.aes.specs.Block.{round_keys, encipher, decipher, encipher_length, decipher_length}
use Rattle.modes_spec.specs.Modes.{Cipher}
use Rattle.track_spec.specs.declared.Parameters.{Parameters}
use Rattle.subsample_spec.specs.declared.Entry.{Entry}
use Rattle.subsample_spec.specs.declared.SubsampleMap.{SubsampleMap}
use Rattle.subsample_spec.specs.Auxiliary.{limit}
use Rattle.scheme.specs.declared.Pattern.{Pattern}
use Rattle.scheme.specs.declared.Scheme.{Scheme}
use Rattle.scheme.specs.Layout.{scheme_of, pattern_of, total, mask, count}
use Rattle.scheme.specs.Machine.{Stepped, free}
use Rattle.scheme.specs.Held.{held_at}
use Rattle.scheme.specs.Part.{entries_of, held_under, fits, feed_under, transformed}
use Rattle.scheme.specs.Walk.{left, SampleAsks}
use Rattle.scheme.proofs.Allowed.{protected_total}
use Rattle.scheme.proofs.Under.{clear_fed}
use Rattle.scheme.proofs.Fitting.{protected_entries_lem, asks_fits, transformed_clear}
use Rattle.scheme.proofs.Holding.{piece_says, piece_asks}
use Rattle.stream_spec.specs.declared.Declared.{Declared}
use Rattle.stream_spec.specs.declared.Progress.{Progress}
use Rattle.stream_spec.specs.declared.Stream.{Stream}
use Rattle.stream_spec.specs.Stream.{sound, state_of, kept, due, machine, transformed_by, fed_by, after_piece}
use Rattle.stream_spec.proofs.Reached.{Rules, machine_position, machine_held}
use Rattle.stream_spec.proofs.Rules.{sound_rules, held_is, held_fits, kept_few}

empty : (l : List ℕ) → length l ≡ 0 → l ≡ []
empty [] e = refl
empty (x ∷ l) e = absurd (omega arith)

stepped_is : (f : Stepped) (x : ℕ) → f.state.position ≡ x → f.state.held ≡ [] → f ≡ left x f.state.block f.released
stepped_is f x e h = rw (sym e, sym h)

-- the arrays of a record have as many places as the code's types say
pub record Places (t : Stream) : Type 0 where
  pub held : length t.progress.held ≡ 16
  pub entries : length t.declared.map.entries ≡ limit

module _ (t : Stream) (ok : sound t ≡ true) (w : Places t) (piece : List ℕ)
    (l : t.progress.position + length piece ≤ t.declared.length) where
  abbrev q : Declared
  q = t.declared

  abbrev g : Progress
  g = t.progress

  abbrev p : Parameters
  p = q.parameters

  abbrev m : SubsampleMap
  m = q.map

  abbrev n : ℕ
  n = q.length

  abbrev E : Cipher
  E = encipher (round_keys q.key.0)

  abbrev D : Cipher
  D = decipher (round_keys q.key.0)

  abbrev s : Scheme
  s = scheme_of p.code

  abbrev pattern : Pattern
  pattern = pattern_of p

  abbrev es : List Entry
  es = entries_of p m n

  -- the held bytes, and the piece after them
  abbrev h : List ℕ
  h = (state_of g).held

  abbrev all : List ℕ
  all = h ++ piece

  abbrev k : ℕ
  k = kept t (length piece)

  -- where they begin
  abbrev x : ℕ
  x = g.position - g.held_count

  rules : Rules q
  rules = sound_rules t ok

  size_h : length h ≡ g.held_count
  size_h = held_fits t ok w.held piece ∙ sym (held_is t ok)

  h_held : length h ≡ held_at pattern es s g.position
  unfolding held_under
  h_held = held_fits t ok w.held piece

  size_all : length all ≡ g.held_count + length piece
  size_all = length-append h piece ∙ omega (arith, size_h)

  due_is : due t (length piece) ≡ length all - k
  unfolding due
  due_is = omega (arith, size_all)

  -- the bytes that are due
  abbrev part : List ℕ
  part = take (due t (length piece)) all

  size_rest : length (drop (due t (length piece)) all) ≡ k
  size_rest = length-drop (due t (length piece)) all ∙ omega (arith, due_is, size_all, kept_few t ok w.held piece)

  -- and what the code makes of them where they lie
  abbrev pub T : Stepped
  T = transformed_by q x g.block.0 part

  -- the machine over them from where nothing is held
  abbrev fed : Stepped
  fed = machine q (free x g.block.0) part

  at_start : held_at pattern es s g.position ≡ g.held_count
  unfolding held_under
  at_start = sym (held_is t ok)

  at_end : length all - held_at pattern es s (g.position + length piece) ≡ due t (length piece)
  unfolding held_under
  at_end = sym due_is

  module _ (one : p.protected ≡ 1) where
    whole : total es ≡ n
    whole = ap total (protected_entries_lem p m n one) ∙ protected_total p m n w.entries rules.entries

    asked : SampleAsks s pattern es x (length part) (count (take x (mask s pattern es)) % 16)
    asked =
        (rw (at_start, at_end) at
        (piece_asks E D (λ b l. encipher_length _ b) (λ b l. decipher_length _ b) q.direction s pattern
        p.constant_iv.0 es g.position g.block.0 h piece h_held (omega (arith, whole))))
        (count (take x (mask s pattern es)) % 16) refl

    part_fits : fits p m n x (length part) ≡ true
    part_fits =
        asks_fits p m n one rules.short x (length part) _ (rw (protected_entries_lem p m n one) at asked)

    fed_part : T ≡ fed
    unfolding transformed_by transformed machine
    fed_part = rw part_fits

    no_held : fed.state.held ≡ []
    unfolding held_under
    no_held = empty fed.state.held (machine_held q (free x g.block.0) part (sym asked.from) ∙ asked.to)

    protected_fed : fed ≡ left (x + length part) T.state.block T.released
    protected_fed = rw fed_part (stepped_is fed (x + length part) (machine_position q (free x g.block.0) part) no_held)

  -- of either kind of track
  part_fed : fed ≡ left (x + length part) T.state.block T.released
  unfolding machine transformed_by
  part_fed = go (eqb p.protected 1) refl
    where
      go : (b : Bool) → eqb p.protected 1 ≡ b → fed ≡ left (x + length part) T.state.block T.released
      go true e = protected_fed (eqb-true p.protected 1 e)
      go false e =
          let c = transformed_clear E D q.direction p m n x g.block.0 part e in
          clear_fed E D q.direction p m n e x g.block.0 [] part ∙ rw (c.0, c.1)

  -- the machine over the piece after the held bytes
  pub fed_is : fed_by t piece
      ≡ record {
        state = record { position = g.position + length piece; block = T.state.block; held = drop (due t (length piece)) all };
        released = T.released;
      }
  unfolding machine feed_under
  fed_is =
      (rw (at_start, at_end) at
      (piece_says E D (λ b l. encipher_length _ b) (λ b l. decipher_length _ b) q.direction s pattern
      p.constant_iv.0 es g.position g.block.0 h piece h_held T.state.block T.released))
      part_fed

  -- the progress after it, as the code writes it
  pub released_progress : (block rest : List ℕ) (j : ℕ) → block ≡ T.state.block → rest ≡ filled 16 (drop (due t (length piece)) all)
      → j ≡ k
      → record { position = g.position + length piece; block = record { 0 = block }; held = rest; held_count = j } ≡ (after_piece t piece).progress
  released_progress block rest j eb er ej = rw (eb, er, ej, fed_is, size_rest)
