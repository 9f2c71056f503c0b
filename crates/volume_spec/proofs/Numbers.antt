-- The number that each call on a volume answers is the one that document 02 says.
use mathlib.Core.Path.{refl}
use Rattle.octets.specs.Answers.{answer}
use Rattle.octets.specs.Bytes.{number, digits}
use Rattle.octets.specs.Cases.{all_made, all_said}
use Rattle.volume_spec.specs.Volume.{fields, entry_at, entry_bytes, trailer, trailer_bytes, entries, adjoining, largest_day, valid, check, found, added, add, disposable}
use Rattle.volume_spec.specs.Numbers.{writing, checking, handing_out, adding, disposing, Numbers}

pub numbers_hold : Numbers
unfolding all_made all_said writing checking handing_out adding disposing answer number digits fields entry_at entry_bytes trailer
    trailer_bytes entries adjoining largest_day valid check found added add disposable
numbers_hold = record { writing = refl; checking = refl; handing_out_lem = refl; adding = refl; disposing = refl }
