use Rattle.std.proofs.lemmas.List.{length-take-le}
use Rattle.stream_spec.proofs.Feeding.{released_fits}
use Rattle.std.proofs.Common.{arith, ◌≤◌, length}
use Rattle.feeder.proofs.feeding.feed_piece.Goals as goal

pub slice_bounds-write_all-end-2 : goal.slice_bounds-write_all-end-2
slice_bounds-write_all-end-2 g c =
    let fits : c.in_ok-released.released ≤ length c.args.out.now = released_fits _ _ _ _ c.in_ok-released.ensures.answer in
    omega (arith, length-take-le c.in_ok-released.released c.feed_in_place.new.out (omega (arith, fits, c.feed_in_place.auto.out)))
