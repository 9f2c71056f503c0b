-- Document 01, "The sheet program": the lines written for the bytes read, a scheme code and then a box.
use Rattle.std.specs.Prelude.{Bool, cond, ◌&&◌, List, ◌++◌, ℕ, eqb, ltb, length, take, drop}
use Rattle.octets.specs.Ascii.{ascii}
use Rattle.text.specs.Text.{decimal, hex}
use Rattle.track_spec.specs.Track.{known, has_constant, read_box}
use Rattle.track_spec.specs.declared.Parameters.{Parameters}
use Rattle.track_spec.specs.Track.{BoxRead}

abbrev pub line : List ℕ → List ℕ → List ℕ
line name value = name ++ (value ++ ascii "\n")

unfoldable pub refused : ℕ → List ℕ
refused answer = line (ascii "refused ") (decimal answer)

-- Crypt and skip count.
unfoldable pub pattern_line : ℕ → ℕ → List ℕ
pattern_line crypt skip = line (ascii "pattern ") (decimal crypt ++ (ascii ":" ++ decimal skip))

-- The constant IV, where there is one.
unfoldable pub constant_line : Bool → List ℕ → List ℕ
constant_line has constant = line (ascii "constant ") (cond has (hex constant) (ascii "none"))

-- The seven lines of parameters.
unfoldable pub sheet : Parameters → List ℕ
sheet p =
    line (ascii "scheme ") p.code
    ++ (line (ascii "version ") (decimal p.version)
    ++ (pattern_line p.crypt p.skip
    ++ (line (ascii "protected ") (decimal p.protected)
    ++ (line (ascii "iv ") (decimal p.iv_size)
    ++ (line (ascii "kid ") (hex p.kid.0)
    ++ constant_line (has_constant p.protected p.iv_size) p.constant_iv.0)))))

-- What reading a box tells: its parameters, or the number of the refusal.
unfoldable pub told : BoxRead → List ℕ
told r = cond (eqb r.answer 0) (sheet r.parameters) (refused r.answer)

-- All bytes written for all bytes read.
unfoldable pub lines : List ℕ → List ℕ
lines input =
    cond (ltb (length input) 4) (refused 1)
    (cond (known (take 4 input) && ltb 4096 (length input)) (refused 2) (told (read_box (take 4 input) (drop 4 input))))
