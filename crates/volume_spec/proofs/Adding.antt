-- Adding a record to a valid volume makes a valid one of all earlier records and index entries, unchanged, and the new one last.
use mathlib.Core.List.{List, [], ◌∷◌, ◌++◌, append_assoc, map, map-append}
use mathlib.Core.Bool.{true}
use mathlib.Core.Path.{◌≡◌, refl, sym, ap, ◌∙◌}
use Prim.Native.Nat.{ℕ, ◌+◌, ◌*◌, ◌^◌, ◌≤◌, ◌<◌}
use native.Mathlib.Numerals.{add-one}
use native.Mathlib.Omega.{arith}
use lib.ListN.{length, take, drop, length-append, length-drop, take-append-drop}
use lib.Seq.{length-take-le, take-append-le, drop-append-le, take_at, drop_at}
use Rattle.volume_spec.specs.declared.Entry.{Entry}
use Rattle.volume_spec.specs.declared.Trailer.{Trailer}
use Rattle.volume_spec.specs.Volume.{entry_at, entry_bytes, trailer, trailer_bytes, entries, index, adjoining, new_entry, new_trailer, added, Valid}
use Rattle.volume_spec.specs.Additions.{stored_by, stored}
use Rattle.volume_spec.proofs.Fields.{length_fields, entry-fields, trailer-fields}
use Rattle.volume_spec.proofs.Entries.{entries_last, entries_before, entries-behind, adjoining_rest, adjoining_within, adjoining_last, largest_last}

-- ---- The bytes of records that lie in front of other bytes.

part_within : (p x : List ℕ) (offset size : ℕ) → offset + size ≤ length p → take size (drop offset (p ++ x)) ≡ take size (drop offset p)
part_within p x offset size h =
    ap (take size) (drop-append-le offset p x (omega arith))
    ∙ take-append-le size (drop offset p) x (simp length-drop (omega arith))

stored_within : (p x : List ℕ) (e : Entry) → e.offset + e.length ≤ length p → stored_by (p ++ x) e ≡ stored_by p e
unfolding stored_by
stored_within p x e h = rw (part_within p x e.offset e.length h)

all_within : (p x : List ℕ) (from : ℕ) (es : List Entry) → adjoining from es (length p) ≡ true
    → map (stored_by (p ++ x)) es ≡ map (stored_by p) es
all_within p x from [] h = refl
all_within p x from (e ∷ es) h =
    let rest = adjoining_rest from e es (length p) h in
    rw (stored_within p x e (adjoining_within (e.offset + e.length) es (length p) rest), all_within p x (e.offset + e.length) es rest)

-- ---- One addition.

module _ (v contents : List ℕ) (term today : ℕ) where
  abbrev entry : Entry
  entry = new_entry v contents term today

  abbrev last : Trailer
  last = new_trailer v contents today

  -- the records in front, and the earlier entries
  abbrev records : List ℕ
  records = take (trailer v).offset v ++ contents

  abbrev earlier : List ℕ
  earlier = take ((trailer v).count * 24) (drop (trailer v).offset v)

  abbrev new : List ℕ
  new = added v contents term today

  split_index : new ≡ records ++ (earlier ++ (entry_bytes entry ++ trailer_bytes last))
  unfolding added
  split_index = sym (append_assoc (take (trailer v).offset v) contents _)

  split_entry : new ≡ (records ++ earlier) ++ (entry_bytes entry ++ trailer_bytes last)
  split_entry = split_index ∙ sym (append_assoc records earlier _)

  split_trailer : new ≡ ((records ++ earlier) ++ entry_bytes entry) ++ trailer_bytes last
  split_trailer = split_entry ∙ sym (append_assoc (records ++ earlier) (entry_bytes entry) _)

  module _ (h : Valid v) where
    length_front : length (take (trailer v).offset v) ≡ (trailer v).offset
    length_front = length-take-le (trailer v).offset v (omega (arith, h.filled))

    length_records : length records ≡ (trailer v).offset + length contents
    length_records = length-append (take (trailer v).offset v) contents ∙ ap (λ (n : ℕ). n + length contents) length_front

    length_earlier : length earlier ≡ (trailer v).count * 24
    length_earlier = length-take-le ((trailer v).count * 24) (drop (trailer v).offset v) (simp length-drop (omega (arith, h.filled)))

    pub length-added : length (added v contents term today) ≡ length v + length contents + 24
    unfolding entry_bytes trailer_bytes
    length-added =
        ap length split_trailer ∙ simp (length-append, length_fields) (omega (arith, length_front, length_earlier, h.filled))

    module _ (room : length v + length contents + 24 < 2 ^ 64) (term_fits : term < 2 ^ 32) (today_fits : today < 2 ^ 32) where
      trailer_new : trailer new ≡ last
      unfolding trailer_bytes
      trailer_new =
          ap trailer split_trailer
          ∙ trailer-fields last.offset last.count last.latest last.last
          (record { first = omega (arith, h.filled); second = omega (arith, h.filled); third = today_fits; fourth = omega arith })
          ((records ++ earlier) ++ entry_bytes entry)

      -- the entries before stay
      entries_stay : entries new ((trailer v).offset + length contents) (trailer v).count ≡ index v
      entries_stay =
          let n = (trailer v).count in
          let z : (trailer v).offset + length contents + 0 ≡ (trailer v).offset + length contents = omega arith in
          let i : (trailer v).offset + 0 ≡ (trailer v).offset = omega arith in
          let front = take (trailer v).offset v in
          let rest = drop (n * 24) (drop (trailer v).offset v) in
          let e : front ++ (earlier ++ rest) ≡ v =
          ap (λ (l : List ℕ). front ++ l) (take-append-drop (n * 24) (drop (trailer v).offset v)) ∙ take-append-drop (trailer v).offset v in
          let a = entries-behind records (earlier ++ (entry_bytes entry ++ trailer_bytes last)) ((trailer v).offset + length contents) 0 n length_records in
          let b = entries_before earlier (entry_bytes entry ++ trailer_bytes last) 0 n (omega (arith, length_earlier)) in
          let c = entries-behind front (earlier ++ rest) (trailer v).offset 0 n length_front in
          let d = entries_before earlier rest 0 n (omega (arith, length_earlier)) in
          rw (z, ← split_index) at (a ∙ b) ∙ sym (rw (i, e) at (c ∙ d))

      entry_new : entry_at new ((trailer v).offset + length contents + (trailer v).count * 24) ≡ entry
      unfolding entry_bytes
      entry_new =
          let l : length (records ++ earlier) ≡ (trailer v).offset + length contents + (trailer v).count * 24 =
          length-append records earlier ∙ omega (arith, length_records, length_earlier) in
          ap (λ (w : List ℕ). entry_at w ((trailer v).offset + length contents + (trailer v).count * 24)) split_entry
          ∙ entry-fields entry.offset entry.length entry.day entry.term
          (record { first = omega (arith, h.filled); second = omega arith; third = today_fits; fourth = term_fits })
          (records ++ earlier) (trailer_bytes last) _ l

      pub index-added : index (added v contents term today) ≡ index v ++ (new_entry v contents term today ∷ [])
      index-added =
          rw (trailer_new, add-one)
          (entries_last new ((trailer v).offset + length contents) (trailer v).count ∙ rw (entries_stay, entry_new))

      module _ (day : (trailer v).latest ≤ today) where
        pub valid-added : Valid (added v contents term today)
        valid-added =
            record {
              whole = omega (arith, length-added);
              filled = rw trailer_new (omega (arith, length-added, h.filled));
              adjoined = rw (index-added, trailer_new) (adjoining_last 0 (index v) (trailer v).offset entry h.adjoined refl);
              last = rw trailer_new;
              latest = rw (index-added, trailer_new, largest_last (index v) entry) (omega (arith, h.latest));
            }

      -- the bytes of the earlier records, and of the new one
      earlier_stored : map (stored_by new) (index v) ≡ stored v
      unfolding stored added
      earlier_stored =
          let front = take (trailer v).offset v in
          let a : adjoining 0 (index v) (length front) ≡ true = rw length_front h.adjoined in
          let e : front ++ drop (trailer v).offset v ≡ v = take-append-drop (trailer v).offset v in
          all_within front _ 0 (index v) a ∙ sym (ap (λ (w : List ℕ). map (stored_by w) (index v)) (sym e) ∙ all_within front (drop (trailer v).offset v) 0 (index v) a)

      new_stored : stored_by new entry ≡ record { contents = contents; day = today; term = term }
      unfolding stored_by added
      new_stored = rw (drop_at (take (trailer v).offset v) _ (trailer v).offset length_front, take_at contents _ (length contents) refl)

      pub stored-added : stored (added v contents term today) ≡ stored v ++ (record { contents = contents; day = today; term = term } ∷ [])
      unfolding stored
      stored-added =
          ap (map (stored_by new)) index-added ∙ map-append (stored_by new) (index v) (entry ∷ [])
          ∙ rw (earlier_stored, new_stored)
