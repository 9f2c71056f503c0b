-- Document 01's samples marked [P] and those of document 02, Ask 2: what the definitions make is what the document says, in every case.
use mathlib.Core.Path.{refl}
use Rattle.octets.specs.Answers.{answer}
use Rattle.octets.specs.Bytes.{same, number, digits, filled}
use Rattle.octets.specs.Cases.{all_made, all_said, Hold}
use Rattle.octets.specs.Xor.{◌⊕◌}
use Rattle.modes_spec.specs.Modes.{counter_at, stream_byte, ctr}
use Rattle.boxes.specs.Box.{bad_frame}
use Rattle.track_spec.specs.Track.{known, allowed_protected, allowed_fields, allowed, fields_from, fields, bad_head, bad_fields, read_rows}
use Rattle.subsample_spec.specs.Auxiliary.{some, sum, map_rows, bad_size, entry_count, places, map_read, auxiliary_rows}
use Rattle.scheme.specs.Layout.{scheme_of, pattern_of, in_whole_block, in_crypt_run, is_ciphered, tabulate, range_marks, marks, mask, count, chosen, replaced}
use Rattle.scheme.specs.WholeSample.{over, whole}
use Rattle.scheme.specs.Held.{place, in_place, in_block, held_at}
use Rattle.scheme.specs.Part.{protected_entries, entries_of, held_under}
use Rattle.scheme.specs.Counters.{blocks_needed, counter_blocks}
use Rattle.sample_spec.specs.Sample.{key_rows, parameters_of, map_of, sample_rows}
use Rattle.stream_spec.specs.Demand3.{count_at, due_at, feeding, reply_at, piece_at, account}
use Rattle.stream_spec.specs.Samples.{samples, marked, unmarked, told}

pub samples_hold : Hold samples
unfolding samples all_made all_said marked unmarked told counter_blocks blocks_needed count protected_entries mask marks
    range_marks tabulate is_ciphered in_whole_block in_crypt_run whole over replaced chosen ctr stream_byte counter_at digits number
    ◌⊕◌ account reply_at piece_at feeding count_at due_at held_under held_at in_block in_place place entries_of scheme_of pattern_of same parameters_of fields fields_from
    filled answer sample_rows key_rows read_rows known bad_frame bad_head bad_fields allowed allowed_fields allowed_protected
    auxiliary_rows bad_size map_rows map_read entry_count places some sum map_of
samples_hold = refl
