-- A sample under parameters and a map: its entries, the bytes held at a position, and a part of it ciphered where it lies
-- (document 01, "A sample's auxiliary data", "Which bytes are ciphered, and how" and "Pieces").
use Rattle.std.specs.Prelude.{Bool, cond, ◌&&◌, List, [], ◌∷◌, ◌≡◌, ℕ, ◌+◌, eqb, leb, length, take}
use Rattle.octets.specs.Bytes.{Bytes}
use Rattle.modes_spec.specs.declared.Direction.{Direction}
use Rattle.modes_spec.specs.Modes.{Cipher}
use Rattle.track_spec.specs.declared.Parameters.{Parameters}
use Rattle.subsample_spec.specs.declared.Entry.{Entry}
use Rattle.subsample_spec.specs.declared.SubsampleMap.{SubsampleMap}
use Rattle.subsample_spec.specs.Auxiliary.{longest, entry}
use Rattle.scheme.specs.declared.Scheme.TheVariants.{Cbcs}
use Rattle.scheme.specs.Layout.{pattern_of, scheme_of, total}
use Rattle.scheme.specs.WholeSample.{whole}
use Rattle.scheme.specs.Machine.{State, Stepped, free, feed_sample}
use Rattle.scheme.specs.Held.{held_at}

-- The entries of a protected sample of n bytes: none written means one, 0 clear, all protected.
unfoldable pub protected_entries : SubsampleMap → ℕ → List Entry
protected_entries m n = cond (eqb m.count 0) (entry 0 n ∷ []) (take m.count m.entries)

-- The entries of a sample of n bytes; of an unprotected track all is clear.
unfoldable pub entries_of : Parameters → SubsampleMap → ℕ → List Entry
entries_of p m n = cond (eqb p.protected 1) (protected_entries m n) (entry n 0 ∷ [])

-- The sample locked or opened whole.
unfoldable pub ciphered : Cipher → Cipher → Direction → Parameters → SubsampleMap → List ℕ → List ℕ → List ℕ
ciphered E D d p m iv xs = whole E D iv (pattern_of p) (entries_of p m (length xs)) d (scheme_of p.code) xs

-- What the start says of parameters and IV: of a protected track in cbcs the IV is the constant one.
pub record Begins (p : Parameters) (iv : List ℕ) : Type 0 where
  pub bytes : Bytes 16 iv
  pub constant : p.protected ≡ 1 → scheme_of p.code ≡ Cbcs → p.constant_iv.0 ≡ iv

module _ (p : Parameters) (m : SubsampleMap) (n : ℕ) where
  -- The bytes held at position x.
  unfoldable pub held_under : ℕ → ℕ
  held_under x = held_at (pattern_of p) (entries_of p m n) (scheme_of p.code) x

  -- k bytes from position x on can be ciphered where they lie: they are in a sample of allowed length, and nothing is held where
  -- they begin and where they end.
  unfoldable pub fits : ℕ → ℕ → Bool
  fits x k =
      leb n longest && leb (x + k) (total (entries_of p m n)) && eqb (held_under x) 0 && eqb (held_under (x + k)) 0

module _ (E D : Cipher) (d : Direction) (p : Parameters) (m : SubsampleMap) (n : ℕ) where
  -- The machine under parameters and a map; a range's first block takes the constant IV.
  unfoldable pub feed_under : State → List ℕ → Stepped
  feed_under t xs = feed_sample E D d (scheme_of p.code) (pattern_of p) p.constant_iv.0 (entries_of p m n) t xs

  -- A part from position x on, with the counter or chain block c before it; where it doesn't fit nothing changes.
  unfoldable pub transformed : ℕ → List ℕ → List ℕ → Stepped
  transformed x c xs =
      cond (fits p m n x (length xs)) (feed_under (free x c) xs) (record { state = free x c; released = xs })
