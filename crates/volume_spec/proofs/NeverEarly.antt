-- After any list of additions to the empty volume, no record may be disposed of before its term is over.
use mathlib.Core.List.{List, map, map-map}
use mathlib.Core.Path.{◌≡◌, sym, ◌∙◌}
use Prim.Native.Nat.{ℕ, ◌<◌}
use native.Mathlib.Omega.{arith}
use lib.ListN.{get_or}
use Rattle.volume_spec.specs.Volume.{trailer, entry_of, none, disposable}
use Rattle.volume_spec.specs.Additions.{Stored, stored_by, Addition, volume_after, accepted, kept}
use Rattle.volume_spec.specs.Disposal.{ExpiredOf}
use Rattle.volume_spec.proofs.Records.{stored_at}
use Rattle.volume_spec.proofs.WrittenOnce.{count-accepted, written_once}
use Rattle.volume_spec.proofs.Disposal.{backward_clock}

module _ (adds : List Addition) where
  abbrev volume : List ℕ
  volume = volume_after none adds

  -- what accepted addition k stored is what it was made with
  stored_as : (f : Stored → ℕ) (k : ℕ) → k < (trailer volume).count
      → f (stored_by volume (entry_of volume k)) ≡ get_or (map (λ a. f (kept a)) (accepted none adds)) k 0
  stored_as f k l = sym (stored_at volume k f 0 l) ∙ rw ((written_once adds).holds, map-map f kept (accepted none adds))

  pub never_early : (k today : ℕ) → disposable (volume_after none adds) k today ≡ 0 → ExpiredOf adds k today
  unfolding stored_by
  never_early k today z =
      let x = backward_clock volume k today z in
      record {
        there = omega (arith, count-accepted adds, x.there);
        over = rw (← (stored_as (λ s. s.day) k x.there), ← (stored_as (λ s. s.term) k x.there)) x.over;
        no_later = λ j l.
            let m : j < (trailer volume).count = omega (arith, count-accepted adds) in
            rw (← (stored_as (λ s. s.day) j m)) (x.no_later j m);
      }
