-- Document 01, "The sheet program", and README.md, "The programs": numbers and byte strings as text, and the words of a line.
use Rattle.std.specs.Prelude.{Bool, true, cond, not, ◌&&◌, ◌||◌, Option, Some, None, List, [], ◌∷◌, ℕ, zero, suc, ◌+◌, ◌-◌, ◌*◌, ◌/◌, ◌%◌, min, eqb, leb, ltb, length, get_or, drop}
use Rattle.std.specs.Option.{unwrap_or}
use Rattle.octets.specs.Ascii.{ascii}
use Rattle.octets.specs.Bytes.{same}
use Rattle.text.specs.declared.Span.{Span}

-- ---- Digits.

-- The digit of a number below 16.
abbrev pub digit : ℕ → ℕ
digit n = get_or (ascii "0123456789abcdef") n 0

-- The value of a digit, none for any other byte.
unfoldable pub value : ℕ → Option ℕ
value c = cond (leb 48 c && leb c 57) (Some (c - 48)) (cond (leb 97 c && leb c 102) (Some (c - 87)) None)

-- What a byte counts as: the value of a digit, 16 for any other byte.
abbrev pub worth : ℕ → ℕ
worth c = unwrap_or (value c) 16

-- Whether a value is below n; none counts as 16.
unfoldable pub below : ℕ → Option ℕ → Bool
below n (Some v) = ltb v n
below n None = ltb 16 n

-- Whether all bytes are digits with values below n.
unfoldable pub digits_below : ℕ → List ℕ → Bool
digits_below n [] = true
digits_below n (c ∷ cs) = below n (value c) && digits_below n cs

-- ---- Numbers.

-- A number below 1000 in decimal, without leading zeros.
unfoldable pub decimal : ℕ → List ℕ
decimal n =
    cond (ltb n 10) (digit n ∷ [])
    (cond (ltb n 100) (digit (n / 10) ∷ digit (n % 10) ∷ [])
    (digit (n / 100) ∷ digit (n / 10 % 10) ∷ digit (n % 10) ∷ []))

-- The number that stands there once decimal digits are written behind a number.
unfoldable pub decimal_from : ℕ → List ℕ → ℕ
decimal_from n [] = n
decimal_from n (c ∷ cs) = decimal_from (n * 10 + worth c) cs

-- The number that digits are, if they are decimal and it is not above the largest.
unfoldable pub of_digits : List ℕ → ℕ → Option ℕ
of_digits word largest =
    cond (digits_below 10 word && leb (decimal_from 0 word) largest) (Some (decimal_from 0 word)) None

-- The number that a word is: digits without leading zeros.
unfoldable pub number : List ℕ → ℕ → Option ℕ
number word largest =
    cond (eqb (length word) 0 || (ltb 1 (length word) && eqb (get_or word 0 0) 48)) None (of_digits word largest)

-- ---- Byte strings.

-- Two digits for each byte.
unfoldable pub hex : List ℕ → List ℕ
hex [] = []
hex (b ∷ bs) = digit (b / 16) ∷ digit (b % 16) ∷ hex bs

-- A byte string as a word: `-` for none.
unfoldable pub hex_word : List ℕ → List ℕ
hex_word s = cond (eqb (length s) 0) (ascii "-") (hex s)

unfoldable pub is_hex : List ℕ → Bool
is_hex word = digits_below 16 word && eqb (length word % 2) 0

-- Whether a word is a byte string.
unfoldable pub is_bytes : List ℕ → Bool
is_bytes word = same word (ascii "-") || (not (eqb (length word) 0) && is_hex word)

-- The bytes that pairs of digits are.
unfoldable pub unhex : List ℕ → List ℕ
unhex [] = []
unhex (a ∷ []) = []
unhex (a ∷ b ∷ cs) = (worth a * 16 + worth b) ∷ unhex cs

-- The bytes that a word is, none where it is no byte string.
unfoldable pub bytes_of : List ℕ → List ℕ
bytes_of word = cond (is_bytes word) (unhex word) []

-- Where bytes end that are put into a string from a place on; the place itself where they do not fit.
unfoldable pub end_of : List ℕ → ℕ → List ℕ → ℕ
end_of s at b = cond (leb (at + length b) (length s)) (at + length b) at

-- ---- Words.

-- The bytes before the first that is b; all where there is none.
unfoldable pub up_to : ℕ → List ℕ → List ℕ
up_to b [] = []
up_to b (x ∷ xs) = cond (eqb x b) [] (x ∷ up_to b xs)

-- The bytes behind it.
unfoldable pub behind : ℕ → List ℕ → List ℕ
behind b s = drop (length (up_to b s) + 1) s

-- The line from a word on, counted from 0; empty where there are not so many words.
unfoldable pub from_word : ℕ → ℕ → List ℕ → List ℕ
from_word b zero line = line
from_word b (suc n) line = from_word b n (behind b line)

-- A word of a line, its words parted by the byte b; empty where there are not so many.
unfoldable pub word : ℕ → ℕ → List ℕ → List ℕ
word b n line = up_to b (from_word b n line)

-- The word from a place on; the end of the line where the place is past it.
unfoldable pub word_at : ℕ → ℕ → List ℕ → Span
word_at b at line =
    record {
      start = min at (length line);
      end = min at (length line) + length (up_to b (drop at line));
    }
