-- Document 02, Ask 13: small inputs to each call on a volume, one for each number and for each two neighbours of its order that apply at
-- once, with the number that the document says, the lengths answered and the places handed out.
use Rattle.std.specs.Prelude.{List, [], ◌∷◌, ℕ, take}
use Rattle.octets.specs.Cases.{Case, is, Hold}
use Rattle.volume_spec.specs.Volume.{check, found, written, none, empty_rows, added, add, disposable}

-- One record of 3 bytes, stored on day 10 for 3 days: 51 bytes in all. And the same with a byte less.
abbrev pub one : List ℕ
one = added none (1 ∷ 2 ∷ 3 ∷ []) 3 10

abbrev pub cut_short : List ℕ
cut_short = take 50 one

-- ---- The calls, each with what the document says of it, and the length or the place behind the answer.

-- "Writing uses 53".
abbrev pub emptied : ℕ → List ℕ
emptied room = (written (empty_rows room) none).answer ∷ (written (empty_rows room) none).length ∷ []

unfoldable pub writing : List Case
writing = is (emptied 24) (0 ∷ 24 ∷ []) ∷ is (emptied 23) (53 ∷ 0 ∷ []) ∷ []

-- "checking 50".
unfoldable pub checking : List Case
checking = is (check none ∷ check one ∷ check cut_short ∷ check [] ∷ []) (0 ∷ 0 ∷ 50 ∷ 50 ∷ []) ∷ []

-- "handing out 50 and 51": 50 before 51.
abbrev pub handed : List ℕ → ℕ → List ℕ
handed v k = (found v k).answer ∷ (found v k).offset ∷ (found v k).length ∷ []

unfoldable pub handing_out : List Case
handing_out =
    is (handed one 0) (0 ∷ 0 ∷ 3 ∷ []) ∷ is (handed cut_short 0) (50 ∷ 0 ∷ 0 ∷ []) ∷ is (handed one 1) (51 ∷ 0 ∷ 0 ∷ [])
    ∷ is (handed none 0) (51 ∷ 0 ∷ 0 ∷ []) ∷ is (handed [] 9) (50 ∷ 0 ∷ 0 ∷ []) ∷ []

-- "adding 50, 52 and 53", of a record of one byte: 50 before 52, 52 before 53.
abbrev pub added_to : List ℕ → ℕ → ℕ → List ℕ
added_to v today room = (add v (9 ∷ []) 0 today room).answer ∷ (add v (9 ∷ []) 0 today room).length ∷ []

unfoldable pub adding : List Case
adding =
    is (added_to one 10 76) (0 ∷ 76 ∷ []) ∷ is (added_to cut_short 10 76) (50 ∷ 0 ∷ []) ∷ is (added_to one 9 76) (52 ∷ 0 ∷ [])
    ∷ is (added_to one 10 75) (53 ∷ 0 ∷ []) ∷ is (added_to cut_short 9 0) (50 ∷ 0 ∷ []) ∷ is (added_to one 9 0) (52 ∷ 0 ∷ []) ∷ []

-- "a record may be disposed of exactly if none of 50, 51, 52 and 54 applies": in that order.
unfoldable pub disposing : List Case
disposing =
    is (disposable one 0 13 ∷ disposable cut_short 0 13 ∷ disposable one 1 13 ∷ []) (0 ∷ 50 ∷ 51 ∷ [])
    ∷ is (disposable one 0 9 ∷ disposable one 0 12 ∷ []) (52 ∷ 54 ∷ [])
    ∷ is (disposable [] 1 9 ∷ disposable one 1 9 ∷ []) (50 ∷ 51 ∷ []) ∷ []

-- ---- The claim, for all of them.

pub record Numbers : Type 0 where
  pub writing : Hold writing
  pub checking : Hold checking
  pub handing_out_lem : Hold handing_out
  pub adding : Hold adding
  pub disposing : Hold disposing
