-- Document 02, Ask 13: records added one after the other, each to the volume that the last accepted addition left, and what such a
-- volume holds.
use Rattle.std.specs.Prelude.{cond, List, [], ◌∷◌, ◌++◌, map, ◌≡◌, ℕ, ◌^◌, ◌≤◌, ◌<◌, eqb, length, get_or, take, drop}
use Rattle.volume_spec.specs.declared.Entry.{Entry}
use Rattle.volume_spec.specs.Volume.{Written}
use Rattle.volume_spec.specs.Volume.{index, Valid, none, check, found, add, after_adding}

-- ---- What a volume holds.

-- The bytes of record k that its place and length hand out.
unfoldable pub handed_out : List ℕ → ℕ → List ℕ
handed_out v k = take (found v k).length (drop (found v k).offset v)

-- A record with its day and its term.
pub record Stored : Type 0 where
  pub contents : List ℕ
  pub day : ℕ
  pub term : ℕ

unfoldable pub stored_by : List ℕ → Entry → Stored
stored_by v e = record { contents = take e.length (drop e.offset v); day = e.day; term = e.term }

-- All records that the index lists, in its order.
unfoldable pub stored : List ℕ → List Stored
stored v = map (stored_by v) (index v)

-- ---- A list of additions.

-- An addition as a caller can make it: term and today are 32-bit numbers, and the length of what is lent is a 64-bit one.
pub record Addition : Type 0 where
  pub contents : List ℕ
  pub term : ℕ
  pub today : ℕ
  pub output : List ℕ
  pub term_fits : term < 2 ^ 32
  pub today_fits : today < 2 ^ 32
  pub output_fits : length output < 2 ^ 64

abbrev pub answer_to : List ℕ → Addition → Written
answer_to v a = add v a.contents a.term a.today (length a.output)

-- The volume that it leaves: after 0 as many bytes of the output as it answers, after a refusal the one before.
unfoldable pub leaves : List ℕ → Addition → List ℕ
leaves v a =
    cond (eqb (answer_to v a).answer 0)
    (take (answer_to v a).length (after_adding v a.contents a.term a.today a.output)) v

unfoldable pub volume_after : List ℕ → List Addition → List ℕ
volume_after v [] = v
volume_after v (a ∷ adds) = volume_after (leaves v a) adds

-- Those of the list that were accepted.
unfoldable pub accepted : List ℕ → List Addition → List Addition
accepted v [] = []
accepted v (a ∷ adds) = cond (eqb (answer_to v a).answer 0) (a ∷ accepted (leaves v a) adds) (accepted (leaves v a) adds)

-- What an accepted one stores.
abbrev pub kept : Addition → Stored
kept a = record { contents = a.contents; day = a.today; term = a.term }

-- ---- The claims for a list of additions.

-- To any valid volume: it stays valid, and holds what it held and then what was accepted.
pub record Grown (v : List ℕ) (adds : List Addition) : Type 0 where
  pub is_valid : Valid (volume_after v adds)
  pub holds : stored (volume_after v adds) ≡ stored v ++ map kept (accepted v adds)

-- To the empty volume.
pub record WrittenOnce (adds : List Addition) : Type 0 where
  -- The volume is valid throughout: after each of them.
  pub valid : (n : ℕ) → check (volume_after none (take n adds)) ≡ 0
  -- It holds every record accepted, with its day and its term, in order, and no others.
  pub holds : stored (volume_after none adds) ≡ map kept (accepted none adds)
  -- Each is handed out byte for byte, by its place in that order from 0, and no others are.
  pub handed : (k : ℕ) → k < length (accepted none adds) → (found (volume_after none adds) k).answer ≡ 0
  pub bytes : (k : ℕ) → handed_out (volume_after none adds) k ≡ get_or (map (λ a. a.contents) (accepted none adds)) k []
  pub no_others : (k : ℕ) → length (accepted none adds) ≤ k → (found (volume_after none adds) k).answer ≡ 51
  -- Further additions change none of them.
  pub stays : (more : List Addition) (k : ℕ) → k < length (accepted none adds)
      → handed_out (volume_after none (adds ++ more)) k ≡ handed_out (volume_after none adds) k
