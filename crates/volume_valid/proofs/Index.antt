-- An index as the code reads it, a slice of entries of 24 bytes, each by its own bytes.
use mathlib.Core.Bool.{true, ◌&&◌}
use mathlib.Core.List.{List, [], ◌∷◌}
use mathlib.Core.Path.{◌≡◌, refl, sym, ◌∙◌}
use Prim.Native.Nat.{ℕ, zero, suc, ◌+◌, ◌-◌, ◌*◌, ◌/◌, ◌≤◌, max, min}
use native.Mathlib.Omega.{arith}
use lib.Dec.{eqb}
use lib.ListN.{length, take, drop, length-drop}
use lib.Seq.{length-take-le}
use borrow.Author.Tests.{eqb-true, le-leb}
use Rattle.std.specs.Prelude.{map}
use Rattle.std.specs.List.{fold}
use Rattle.std.specs.Simd.{first_chunks}
use Rattle.std.proofs.lemmas.List.{get_or-drop, drop_min, take_all, take-append-drop}
use Rattle.octets.specs.Bytes.{number}
use Rattle.volume_spec.specs.declared.Entry.{Entry}
use Rattle.volume_spec.specs.declared.Trailer.{Trailer}
use Rattle.volume_spec.specs.Volume.{trailer, entry_at, entries, fills, adjoining, largest_day, valid}
use Rattle.volume_spec.proofs.Fields.{entry_before}

-- ---- Behind the bytes before a place.

number_drop : (n : ℕ) (s : List ℕ) (k at : ℕ) → number n (drop k s) at ≡ number n s (k + at)
unfolding number
number_drop zero s k at = refl
number_drop (suc n) s k at =
    let e : k + (at + n) ≡ k + at + n = omega arith in
    rw (number_drop n s k at, get_or-drop k s (at + n) 0, e)

entry_drop : (v : List ℕ) (k at : ℕ) → entry_at (drop k v) at ≡ entry_at v (k + at)
unfolding entry_at
entry_drop v k at =
    let a : k + (at + 8) ≡ k + at + 8 = omega arith in
    let b : k + (at + 16) ≡ k + at + 16 = omega arith in
    let c : k + (at + 20) ≡ k + at + 20 = omega arith in
    rw (
      number_drop 8 v k at,
      number_drop 8 v k (at + 8),
      number_drop 4 v k (at + 16),
      number_drop 4 v k (at + 20),
      a,
      b,
      c,
    )

-- the bytes from a place on, as the code takes them
pub entry_rest : (v : List ℕ) (at m : ℕ) → m ≡ min at (length v) → entry_at (take (length v - m) (drop m v)) 0 ≡ entry_at v at
entry_rest v at m e =
    let d = length-drop m v in
    let w = take_all (length v - m) (drop m v) (omega arith) in
    let z : at + 0 ≡ at = omega arith in
    rw (w, e, drop_min at v, entry_drop v at 0, z)

entries_drop : (v : List ℕ) (k at n : ℕ) → entries (drop k v) at n ≡ entries v (k + at) n
unfolding entries
entries_drop v k at zero = refl
entries_drop v k at (suc n) =
    let a : k + (at + 24) ≡ k + at + 24 = omega arith in
    rw (entry_drop v k at, entries_drop v k (at + 24) n, a)

-- ---- In the bytes before a place.

entry_take : (v : List ℕ) (m at : ℕ) → at + 24 ≤ m → m ≤ length v → entry_at (take m v) at ≡ entry_at v at
entry_take v m at h l =
    let t = length-take-le m v l in
    let w = take-append-drop m v in
    sym (entry_before (take m v) (drop m v) at (omega arith)) ∙ rw w

entries_take : (v : List ℕ) (m at n : ℕ) → at + n * 24 ≤ m → m ≤ length v → entries (take m v) at n ≡ entries v at n
unfolding entries
entries_take v m at zero h l = refl
entries_take v m at (suc n) h l = rw (entry_take v m at (omega arith) l, entries_take v m (at + 24) n (omega arith) l)

-- ---- The entries one by one.

-- An entry by its own bytes.
abbrev pub read : List ℕ → Entry
read e = entry_at e 0

read_chunks : (s : List ℕ) (n : ℕ) → n * 24 ≤ length s → map read (first_chunks 24 n s) ≡ entries s 0 n
unfolding entries
read_chunks s zero h = refl
read_chunks s (suc n) h =
    let d = length-drop 24 s in
    rw (entry_take s 24 0 (omega arith) (omega arith), read_chunks (drop 24 s) n (omega arith), entries_drop s 24 0 n)

-- The bytes between the records and the trailer of a volume.
abbrev between : List ℕ → ℕ → List ℕ
between v offset = take (length v - 24 - offset) (drop offset v)

index_read : (v : List ℕ) (offset count : ℕ) → offset + count * 24 + 24 ≡ length v
    → map read (first_chunks 24 (length (between v offset) / 24) (between v offset)) ≡ entries v offset count
index_read v offset count h =
    let m : length v - 24 - offset ≡ count * 24 = omega arith in
    let d = length-drop offset v in
    let l = length-take-le (count * 24) (drop offset v) (omega arith) in
    let n : count * 24 / 24 ≡ count = omega arith in
    let z : offset + 0 ≡ offset = omega arith in
    rw (
      m,
      l,
      n,
      read_chunks (take (count * 24) (drop offset v)) count (omega arith),
      entries_take (drop offset v) (count * 24) 0 count (omega arith) (omega arith),
      entries_drop v offset 0 count,
      z,
    )

-- ---- The largest day.

largest_from : (a : ℕ) (es : List (List ℕ)) → fold (λ b e. max b (read e).day) a es ≡ max a (largest_day (map read es))
unfolding largest_day
largest_from a [] = omega arith
largest_from a (e ∷ es) = largest_from (max a (read e).day) es ∙ omega arith

pub largest_fold : (es : List (List ℕ)) → fold (λ b e. max b (read e).day) 0 es ≡ largest_day (map read es)
largest_fold es = largest_from 0 es ∙ omega arith

-- ---- Valid, where index and trailer fill what the records leave: the index decides, as the code reads it.

pub valid_read : (v : List ℕ) (t : Trailer) (es : List (List ℕ)) → t ≡ trailer v → fills (length v) t.offset t.count ≡ true
    → es ≡ first_chunks 24 (length (between v t.offset) / 24) (between v t.offset)
    → valid v ≡ (adjoining 0 (map read es) t.offset && eqb t.last 0 && eqb t.latest (largest_day (map read es)))
unfolding valid
valid_read v t es e f i =
    let w = eqb-true (t.offset + t.count * 24 + 24) (length v) f in
    let listed = index_read v t.offset t.count w in
    rw (← e, le-leb 24 (length v) (omega arith), f, i, listed)
