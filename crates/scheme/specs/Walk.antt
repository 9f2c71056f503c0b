-- Document 01, "Which bytes are ciphered, and how", of a part of a sample, as the code that walks over the map goes by it: what
-- each step asks (..Asks), and what it says of the part's bytes, of the counter or chain block and of the key stream (..Says).
use Rattle.std.specs.Prelude.{◌≡◌, Bool, true, false, cond, List, ◌++◌, ℕ, ◌+◌, ◌-◌, ◌%◌, ◌^◌, ◌≤◌, ◌<◌, length, take, drop, replicate}
use Rattle.modes_spec.specs.declared.Direction.{Direction}
use Rattle.modes_spec.specs.Modes.{Cipher}
use Rattle.subsample_spec.specs.declared.Entry.{Entry}
use Rattle.scheme.specs.declared.Mode.{Mode}
use Rattle.scheme.specs.declared.Mode.TheVariants.{Counter, Chain}
use Rattle.scheme.specs.declared.Pattern.{Pattern}
use Rattle.scheme.specs.declared.Scheme.{Scheme}
use Rattle.scheme.specs.declared.Scheme.TheVariants.{Cenc, Cbc1, Cens, Cbcs}
use Rattle.scheme.specs.Layout.{total, is_ciphered, restarts, range_marks, mask, count}
use Rattle.scheme.specs.Machine.{Stepped, free, mode_of, feed, feed_sample}
use Rattle.scheme.specs.Held.{Clear, Inside, place, held_at}

-- The state and the bytes that a part leaves.
abbrev pub left : ℕ → List ℕ → List ℕ → Stepped
left p c ys = record { state = free p c; released = ys }

-- The machine passes the bytes xs of a part, wherever in a sample they lie, and leaves ys. The part meets the marks ms and fs; u bytes
-- of the key stream block are used before it and u' after it; c and c' are the counter or chain block before and after it.
pub record Passes (E D : Cipher) (d : Direction) (k : Mode) (iv : List ℕ) (ms fs : List Bool) (u : ℕ) (c xs : List ℕ) (u' : ℕ)
    (c' ys : List ℕ) : Type 0 where
  pub marked : length ms ≡ length xs
  pub anewed : length fs ≡ length xs
  pub rank : u' ≡ (u + count ms) % 16
  pub fed : (M F : List Bool) (p : ℕ) (ns gs : List Bool) → drop p M ≡ ms ++ ns → drop p F ≡ fs ++ gs → count (take p M) % 16 ≡ u
      → feed E D d k iv M F (free p c) xs ≡ left (p + length xs) c' ys

-- Where the chain starts anew in a run of n ciphered bytes.
unfoldable pub RestartsAt : Mode → Bool → List Bool → ℕ → Type 0
RestartsAt Counter a fs n = length fs ≡ n
RestartsAt Chain a fs n = fs ≡ replicate 16 a ++ replicate (n - 16) false

-- So many bytes are whole blocks, from a block's start on.
pub record Blocks (u n : ℕ) : Type 0 where
  pub unused : u ≡ 0
  pub whole : n % 16 ≡ 0
  pub some : 16 ≤ n

-- Nothing is held at offset x of a range of n bytes.
abbrev pub Free : Scheme → Pattern → ℕ → ℕ → Type 0
Free s pattern n x = mode_of s ≡ Chain → is_ciphered s pattern n x ≡ true → x % 16 ≡ 0

-- From offset o to e of a range of n bytes the bytes are all ciphered, or none of them is.
pub record RunAt (s : Scheme) (pattern : Pattern) (n o : ℕ) (b : Bool) (e : ℕ) : Type 0 where
  pub past : o < e
  pub within : e ≤ n
  pub same : (x : ℕ) → o ≤ x → x < e → is_ciphered s pattern n x ≡ b
  pub aligned : mode_of s ≡ Chain → b ≡ true → e % 16 ≡ 0
  pub freed : Free s pattern n e

-- A part of m bytes from offset o on of a range of n bytes.
pub record RangeAsks (s : Scheme) (pattern : Pattern) (n o m u : ℕ) : Type 0 where
  pub small : n < 2 ^ 32
  pub within : o + m ≤ n
  pub used : u < 16
  pub unused : mode_of s ≡ Chain → u ≡ 0
  pub from : Free s pattern n o
  pub to : Free s pattern n (o + m)

pub record RangeSays (E D : Cipher) (d : Direction) (s : Scheme) (pattern : Pattern) (iv : List ℕ) (n o u : ℕ) (c xs : List ℕ)
    (u' : ℕ) (c' ys : List ℕ) : Type 0 where
  pub passes : Passes E D d (mode_of s) iv (take (length xs) (drop o (range_marks (is_ciphered s pattern) n)))
      (take (length xs) (drop o (range_marks (restarts s) n))) u c xs u' c' ys
  pub unused : mode_of s ≡ Chain → u' ≡ 0

-- The marks of an entry: its clear bytes, and its range.
unfoldable pub entry_marks : (ℕ → ℕ → Bool) → ℕ → ℕ → List Bool
entry_marks f a n = replicate a false ++ range_marks f n

-- A part of m bytes from offset x on of an entry of a clear and n protected bytes.
pub record EntryAsks (s : Scheme) (pattern : Pattern) (a n x m u : ℕ) : Type 0 where
  pub small : n < 2 ^ 32
  pub within : x + m ≤ a + n
  pub used : u < 16
  pub unused : mode_of s ≡ Chain → u ≡ 0
  pub from : Free s pattern n (x - a)
  pub to : Free s pattern n (x + m - a)

pub record EntrySays (E D : Cipher) (d : Direction) (s : Scheme) (pattern : Pattern) (iv : List ℕ) (a n x u : ℕ) (c xs : List ℕ)
    (u' : ℕ) (c' ys : List ℕ) : Type 0 where
  pub passes : Passes E D d (mode_of s) iv (take (length xs) (drop x (entry_marks (is_ciphered s pattern) a n)))
      (take (length xs) (drop x (entry_marks (restarts s) a n))) u c xs u' c' ys
  pub used : u' < 16
  pub unused : mode_of s ≡ Chain → u' ≡ 0

-- A part of m bytes from position x on of a sample: it begins and ends where nothing is held.
pub record SampleAsks (s : Scheme) (pattern : Pattern) (es : List Entry) (x m u : ℕ) : Type 0 where
  pub within : x + m ≤ total es
  pub from : held_at pattern es s x ≡ 0
  pub to : held_at pattern es s (x + m) ≡ 0
  pub rank : count (take x (mask s pattern es)) % 16 ≡ u

-- The machine gives the part and the block, and as many bytes of the key stream block are used as the position calls for.
pub record SampleSays (E D : Cipher) (d : Direction) (s : Scheme) (pattern : Pattern) (iv : List ℕ) (es : List Entry) (x : ℕ)
    (c xs : List ℕ) (u' : ℕ) (c' ys : List ℕ) : Type 0 where
  pub fed : feed_sample E D d s pattern iv es (free x c) xs ≡ left (x + length xs) c' ys
  pub rank : count (take (x + length xs) (mask s pattern es)) % 16 ≡ u'

-- Where position x lies, and how many protected bytes come before it.
pub record Located (es : List Entry) (x : ℕ) (b : Bool) (n o r : ℕ) : Type 0 where
  pub at : place es x ≡ cond b (Inside n o) Clear
  pub rank : (pattern : Pattern) → count (take x (mask Cenc pattern es)) ≡ r

-- Every protected byte is ciphered, and not only whole blocks.
abbrev pub every_byte : Scheme → Bool
every_byte Cenc = true
every_byte Cbc1 = false
every_byte Cens = false
every_byte Cbcs = false
