-- Document 02, Ask 2: "in these two schemes 0:0 ciphers every whole block of a range, as 1:0 does". A sample's inputs with 0:0, the same
-- inputs with 1:0, and what is said of both.
use Rattle.std.specs.Prelude.{List, ◌⊎◌, ◌≡◌, ℕ}
use Rattle.octets.specs.Answers.{answer}
use Rattle.modes_spec.specs.declared.Direction.{Direction}
use Rattle.track_spec.specs.declared.Parameters.{Parameters}
use Rattle.track_spec.specs.Track.{cens, cbcs, read_rows, box_bytes}
use Rattle.sample_spec.specs.Sample.{Inputs, inputs, parameters_of, answered, sample_after}

-- The parameters with 1:0, in version 1, and all else as it is.
abbrev pub one_to_zero : Parameters → Parameters
one_to_zero p =
    record {
      code = p.code;
      version = 1;
      crypt = 1;
      skip = 0;
      protected = p.protected;
      iv_size = p.iv_size;
      kid = p.kid;
      constant_iv = p.constant_iv;
    }

-- The inputs with the box of these parameters.
abbrev pub under_one_to_zero : Inputs → Inputs
under_one_to_zero i = inputs i.code (box_bytes (one_to_zero (parameters_of i))) i.auxiliary i.keys

-- The inputs have an accepted box of a protected track in cens or cbcs with 0:0, in either version.
pub record WholeBlocks (i : Inputs) : Type 0 where
  pub scheme : (i.code ≡ cens) ⊎ (i.code ≡ cbcs)
  pub accepted : answer (read_rows i.code i.box) ≡ 0
  pub protected : (parameters_of i).protected ≡ 1
  pub crypt : (parameters_of i).crypt ≡ 0
  pub skip : (parameters_of i).skip ≡ 0

-- Of a whole sample: the box with 1:0 is accepted and read as such, a sample of any length gets the same answer, and its bytes are the
-- same afterwards, locked and opened.
pub record AsOneToZero (i : Inputs) : Type 0 where
  pub accepted : answer (read_rows (under_one_to_zero i).code (under_one_to_zero i).box) ≡ 0
  pub parameters : parameters_of (under_one_to_zero i) ≡ one_to_zero (parameters_of i)
  pub answer : (n : ℕ) → answered i n ≡ answered (under_one_to_zero i) n
  pub sample : (d : Direction) (xs : List ℕ) → sample_after d i xs ≡ sample_after d (under_one_to_zero i) xs
