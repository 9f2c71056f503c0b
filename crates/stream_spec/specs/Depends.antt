-- Document 01, "Which number is answered, and how many bytes are released, never depends on key bytes, IV bytes or sample contents":
-- what two streams, and two lists of calls on them, may differ in.
use Rattle.std.specs.Prelude.{List, [], ◌∷◌, ◌≡◌, ℕ, length}
use Rattle.track_spec.specs.Depends.{AlikeParameters}
use Rattle.stream_spec.specs.declared.Declared.{Declared}
use Rattle.stream_spec.specs.declared.Stream.{Stream}
use Rattle.stream_spec.specs.Demand3.{Call, Feeding, Ending}

-- What two streams declared, the same but for direction, KID (those of protected tracks are both zero or both not), a constant IV that is
-- called for, and key.
pub record AlikeDeclared (q r : Declared) : Type 0 where
  pub parameters : AlikeParameters q.parameters r.parameters
  pub length : q.length ≡ r.length
  pub map : q.map ≡ r.map

-- Their records, the same but for that, counter or chain, and held bytes.
pub record AlikeStreams (t u : Stream) : Type 0 where
  pub declared : AlikeDeclared t.declared u.declared
  pub position : t.progress.position ≡ u.progress.position
  pub held_count : t.progress.held_count ≡ u.progress.held_count

-- Such records with all held places; a record of the code always has them.
pub record AlikeRecords (t u : Stream) : Type 0 where
  pub streams : AlikeStreams t u
  pub left : length t.progress.held ≡ 16
  pub right : length u.progress.held ≡ 16

-- Two lists of calls, feeding for feeding and end for end, with pieces and outputs of the same lengths.
pub data AlikeCalls : List Call → List Call → Type 0 where
  none : AlikeCalls [] []
  feeding : {cs cs' : List Call} (piece piece' out out' : List ℕ) → length piece ≡ length piece' → length out ≡ length out'
      → AlikeCalls cs cs' → AlikeCalls (Feeding piece out ∷ cs) (Feeding piece' out' ∷ cs')
  ending : {cs cs' : List Call} → AlikeCalls cs cs' → AlikeCalls (Ending ∷ cs) (Ending ∷ cs')
