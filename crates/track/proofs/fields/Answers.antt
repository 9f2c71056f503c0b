use Rattle.octets.proofs.Bytes.{filled_all}
use Rattle.track_spec.specs.Track.{fields_from}
use Rattle.track_spec.proofs.Codes.{known-length}
use Rattle.track.proofs.fields.Goals as goal

pub returns : goal.returns
unfolding fields_from
returns c =
    rw (
      c.constant.ensures,
      c.filled_at.ensures,
      c.filled.ensures,
      c.byte_at-iv_size.ensures,
      c.byte_at-protected.ensures,
      c.byte_at-pattern.ensures,
      filled_all 4 c.args.code.now (known-length _ c.requires.0),
    )
