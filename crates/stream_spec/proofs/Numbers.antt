-- The number that each call answers is the one that document 01 says, for every number of every call and for neighbours in its order.
use mathlib.Core.Path.{refl}
use Rattle.octets.specs.Answers.{answer}
use Rattle.octets.specs.Bytes.{same, number, digits, filled}
use Rattle.octets.specs.Cases.{all_made, all_said}
use Rattle.boxes.specs.Box.{bad_frame}
use Rattle.track_spec.specs.Track.{known, allowed_protected, allowed_fields, allowed, fields_from, fields, bad_head, bad_fields, read_rows, read_box, write_rows, write_box}
use Rattle.subsample_spec.specs.Auxiliary.{some, sum, map_rows, bad_size, entry_count, places, map_read, iv_read, auxiliary_rows, handed_out, read_under, read_auxiliary}
use Rattle.scheme.specs.Layout.{scheme_of, pattern_of, in_whole_block, in_crypt_run, is_ciphered}
use Rattle.scheme.specs.Held.{place, in_place, in_block, held_at}
use Rattle.scheme.specs.Part.{protected_entries, entries_of, held_under}
use Rattle.sample_spec.specs.Sample as sample
use Rattle.stream_spec.specs.Stream.{sound_declared, sound, start, due, feed_rows, feed, end_rows, end}
use Rattle.stream_spec.specs.Numbers.{entries_bytes, boxes, kids, parameters, key_records, auxiliaries, box_then_data, box_then_keys, maps, unsound, box_reader, box_writer, parameter_check, auxiliary_reader, under_parameters, map_check, key_finder, whole_sample, starting, feeding, ending, Numbers}

pub numbers_hold : Numbers
unfolding all_made all_said box_reader box_writer parameter_check auxiliary_reader under_parameters map_check key_finder whole_sample
    starting feeding ending boxes kids parameters key_records auxiliaries box_then_data box_then_keys maps unsound entries_bytes answer same
    number digits filled bad_frame known allowed_protected allowed_fields allowed fields_from fields bad_head bad_fields read_rows
    read_box write_rows write_box some sum map_rows bad_size entry_count places map_read iv_read auxiliary_rows handed_out read_under read_auxiliary
    scheme_of pattern_of in_whole_block in_crypt_run is_ciphered place in_place in_block held_at protected_entries entries_of
    held_under sample.key_rows sample.find_key sample.parameters_of sample.sample_rows sample.handed_out sample.read_inputs sound_declared
    sound start due feed_rows feed end_rows end
numbers_hold =
    record {
      box_reader_lem = refl;
      box_writer_lem = refl;
      parameter_check_lem = refl;
      auxiliary_reader_lem = refl;
      under_parameters_lem = refl;
      map-check = refl;
      key_finder_lem = refl;
      whole_sample_lem = refl;
      starting = refl;
      feeding = refl;
      ending = refl;
    }
