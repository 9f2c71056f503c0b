-- Document 01, "Pieces": the bytes at the end of the first x that lie in a CBC block that will be ciphered and isn't complete yet.
use Rattle.std.specs.Prelude.{cond, List, [], ◌∷◌, ◌++◌, refl, ℕ, ◌-◌, ◌%◌, ltb, replicate}
use Rattle.octets.specs.Bytes.{list_of}
use Rattle.octets.specs.Cases.{Case, is, all_made, all_said, Hold, span}
use Rattle.subsample_spec.specs.declared.Entry.{Entry}
use Rattle.subsample_spec.specs.Auxiliary.{entry}
use Rattle.scheme.specs.declared.Pattern.{Pattern}
use Rattle.scheme.specs.declared.Scheme.{Scheme}
use Rattle.scheme.specs.declared.Scheme.TheVariants.{Cenc, Cbc1, Cens, Cbcs}
use Rattle.scheme.specs.Layout.{in_whole_block, in_crypt_run, is_ciphered}
use Rattle.scheme.specs.Examples.{crypt_skip}

-- A clear byte, or the byte at an offset of a protected range of some length.
pub data Place : Type 0 where
  Clear : Place
  Inside : ℕ → ℕ → Place

-- Where position x lies; past the end counts as clear.
unfoldable pub place : List Entry → ℕ → Place
place [] x = Clear
place (e ∷ es) x =
    cond (ltb x e.clear) Clear
    (cond (ltb (x - e.clear) e.protected) (Inside e.protected (x - e.clear))
    (place es (x - e.clear - e.protected)))

unfoldable pub in_place {ℓ} : {X : Type ℓ} → X → (ℕ → ℕ → X) → Place → X
in_place z f Clear = z
in_place z f (Inside n o) = f n o

module _ (pattern : Pattern) where
  -- The bytes before a place that lie in the same ciphered block.
  unfoldable pub in_block : Scheme → Place → ℕ
  in_block s p = in_place 0 (λ (n o : ℕ). cond (is_ciphered s pattern n o) (o % 16) 0) p

  -- The bytes held at position x.
  unfoldable pub held_at : List Entry → Scheme → ℕ → ℕ
  held_at es Cenc x = 0
  held_at es Cbc1 x = in_block Cbc1 (place es x)
  held_at es Cens x = 0
  held_at es Cbcs x = in_block Cbcs (place es x)

-- ---- Worked examples: the bytes held at positions 0 to 42 of a sample of 42 bytes.

abbrev held_through : Scheme → Pattern → List Entry → List ℕ
held_through s pattern es = list_of 43 (held_at pattern es s)

pub held_examples : List Case
held_examples =
    -- cbcs 1:1: none of 2 clear bytes, a block from its second byte on, nothing of a skipped block, nor of a last part.
    is (held_through Cbcs (crypt_skip 1 1) (entry 2 40 ∷ [])) (replicate 2 0 ++ (span 0 16 ++ replicate 25 0))
    -- cbcs 0:0: two whole blocks, and nothing of a last part.
    ∷ is (held_through Cbcs (crypt_skip 0 0) (entry 2 40 ∷ [])) (replicate 2 0 ++ (span 0 16 ++ (span 0 16 ++ replicate 9 0)))
    -- cbc1: a block before and one behind 10 clear bytes.
    ∷ is (held_through Cbc1 (crypt_skip 0 0) (entry 0 16 ∷ entry 10 16 ∷ [])) (span 0 16 ++ (replicate 10 0 ++ (span 0 16 ++ (0 ∷ []))))
    -- cenc and cens hold nothing.
    ∷ is (held_through Cenc (crypt_skip 0 0) (entry 2 40 ∷ [])) (replicate 43 0)
    ∷ is (held_through Cens (crypt_skip 1 1) (entry 2 40 ∷ [])) (replicate 43 0)
    ∷ is (held_through Cens (crypt_skip 0 0) (entry 2 40 ∷ [])) (replicate 43 0) ∷ []

pub held_examples_hold : Hold held_examples
unfolding held_examples all_made all_said held_at in_block in_place place is_ciphered in_whole_block in_crypt_run
held_examples_hold = refl
