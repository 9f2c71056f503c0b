-- ISO/IEC 14496-12, 4.2: what every box begins with. Size (4 bytes, big-endian) and type (4); a full box goes on with a version
-- (1) and flags (3).
use Rattle.std.specs.Prelude.{Bool, not, ◌||◌, List, ◌∷◌, ◌++◌, ℕ, eqb, ltb, length, get_or, take, drop}
use Rattle.octets.specs.Bytes.{same, number, digits}

abbrev pub size : List ℕ → ℕ
size box = number 4 box 0

abbrev pub type : List ℕ → List ℕ
type box = take 4 (drop 4 box)

abbrev pub version : List ℕ → ℕ
version box = get_or box 8 0

abbrev pub flags : List ℕ → ℕ
flags box = number 3 box 9

-- A slice isn't one whole box of a type: it has under so many bytes, its size isn't the slice's length, or its type is another.
unfoldable pub bad_frame : ℕ → List ℕ → List ℕ → Bool
bad_frame least kind box = ltb (length box) least || not (eqb (size box) (length box)) || not (same (type box) kind)

-- The first 12 bytes of a full box.
unfoldable pub header : ℕ → List ℕ → ℕ → ℕ → List ℕ
header size kind version flags = digits 4 size ++ (kind ++ (version ∷ digits 3 flags))
