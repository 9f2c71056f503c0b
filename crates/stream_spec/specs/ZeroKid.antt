-- Document 02, Ask 8, "No protected track under the zero KID", of all calls: none that answers 0 ciphers under a KID of sixteen zero
-- bytes.
use Rattle.std.specs.Prelude.{true, List, ◌++◌, ◌≡◌, ℕ, length, drop}
use Rattle.octets.specs.Answers.{answer}
use Rattle.modes_spec.specs.declared.Direction.{Direction}
use Rattle.track_spec.specs.declared.Parameters.{Parameters}
use Rattle.track_spec.specs.Track.{zero_kid, Held, fields, read_box, parameter_rows, write_box}
use Rattle.track_spec.specs.ZeroKid.{NonzeroIfProtected}
use Rattle.subsample_spec.specs.Auxiliary.{read_auxiliary}
use Rattle.sample_spec.specs.Sample.{Inputs, parameters_of, answered, sample_after}
use Rattle.stream_spec.specs.declared.Stream.{Stream}
use Rattle.stream_spec.specs.Stream.{sound, start, feed, output_after, end}

-- The parameters of a record.
abbrev pub parameters_in : Stream → Parameters
parameters_in t = t.declared.parameters

pub record NoneUnderZeroKid : Type 0 where
  -- What is accepted, if it is protected, has a KID with a byte that isn't zero: a box, parameters that are checked or written,
  pub read : (code box : List ℕ) → (read_box code box).answer ≡ 0 → NonzeroIfProtected (read_box code box).parameters
  pub checked : (p : Parameters) → Held p → answer (parameter_rows p) ≡ 0 → NonzeroIfProtected p
  pub written : (p : Parameters) (room : ℕ) → Held p → (write_box p room).answer ≡ 0 → NonzeroIfProtected p
  -- a box with auxiliary data, the inputs of a sample,
  pub data_read : (code box auxiliary : List ℕ) (n : ℕ) → (read_auxiliary code box auxiliary n).answer ≡ 0
      → NonzeroIfProtected (fields code box)
  pub sample : (i : Inputs) (n : ℕ) → answered i n ≡ 0 → NonzeroIfProtected (parameters_of i)
  -- the record of a start, refused or not, a sound record, and one that a piece or an end is accepted on.
  pub started : (d : Direction) (i : Inputs) (n : ℕ) → NonzeroIfProtected (parameters_in (start d i n).stream)
  pub sound : (t : Stream) → Held (parameters_in t) → sound t ≡ true → NonzeroIfProtected (parameters_in t)
  pub fed : (t : Stream) (piece : List ℕ) (room : ℕ) → Held (parameters_in t) → (feed t piece room).answer ≡ 0
      → NonzeroIfProtected (parameters_in t)
  pub ended : (t : Stream) → Held (parameters_in t) → (end t).answer ≡ 0 → NonzeroIfProtected (parameters_in t)
  -- Under the zero KID no byte is ciphered: a sample stays as it is, whatever is answered, and a piece that is accepted comes out as it is.
  pub sample_stays : (d : Direction) (i : Inputs) (xs : List ℕ) → zero_kid (parameters_of i).kid.0 ≡ true → sample_after d i xs ≡ xs
  pub piece_passes : (t : Stream) (piece out : List ℕ) → zero_kid (parameters_in t).kid.0 ≡ true
      → (feed t piece (length out)).answer ≡ 0 → output_after t piece out ≡ piece ++ drop (length piece) out
