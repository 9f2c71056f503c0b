-- What an accepted start declares keeps the rules.
use mathlib.Core.Bool.{Bool, true, false, cond, ◌&&◌, ◌||◌}
use mathlib.Core.Path.{◌≡◌, refl}
use Prim.Native.Nat.{ℕ}
use lib.Dec.{eqb, ltb}
use lib.ListN.{length}
use Rattle.octets.specs.Answers.{answer}
use Rattle.octets.proofs.Answers.{join_first}
use Rattle.modes_spec.specs.declared.Direction.{Direction}
use Rattle.track_spec.specs.declared.Parameters.{Parameters}
use Rattle.track_spec.specs.Track.{parameter_rows, write_rows}
use Rattle.track_spec.proofs.RoundTrip.{read_accepted}
use Rattle.subsample_spec.specs.Auxiliary.{count_written, entry_count, map_read}
use Rattle.sample_spec.specs.Sample.{Inputs, parameters_of, map_of, sample_rows}
use Rattle.sample_spec.proofs.Tables.{box_accepted}
use Rattle.sample_spec.proofs.Accepted.{length-allowed, map-accepted}
use Rattle.stream_spec.specs.Stream.{declared_by}
use Rattle.stream_spec.proofs.Reached.{Rules}

module _ (i : Inputs) (n : ℕ) (h : answer (sample_rows i n) ≡ 0) where
  abbrev p : Parameters
  p = parameters_of i

  parameters_done : answer (parameter_rows p) ≡ 0
  unfolding write_rows parameters_of
  parameters_done = join_first (parameter_rows p) _ (read_accepted i.code i.box (box_accepted i n h))

  none_written : (eqb p.protected 1 || eqb (map_of i).count 0) ≡ true
  unfolding map_of map_read entry_count
  none_written = go (eqb p.protected 1)
    where
      go : (b : Bool)
          → (b || eqb (cond (b && ltb p.iv_size (length i.auxiliary)) (count_written p i.auxiliary) 0) 0) ≡ true
      go true = refl
      go false = refl

  pub rules : (d : Direction) → Rules (declared_by d i n)
  rules d =
      record {
        parameters = parameters_done;
        short = length-allowed i n h;
        entries = map-accepted i n h;
        unprotected = none_written;
      }
