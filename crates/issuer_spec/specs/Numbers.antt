-- Document 02, Ask 3: small inputs to the start and the grant, one for each number and for 19 before 20, with the number that the
-- document says.
use Rattle.std.specs.Prelude.{true, false, List, [], ◌∷◌, ℕ, replicate}
use Rattle.octets.specs.Cases.{Case, is}
use Rattle.issuer_spec.specs.declared.Issuer.{Issuer}
use Rattle.issuer_spec.specs.declared.IvSize.{IvSize}
use Rattle.issuer_spec.specs.declared.IvSize.TheVariants.{Eight, Sixteen}
use Rattle.issuer_spec.specs.Issuer.{most_blocks, issuer, exhausted, start, grant}

-- What a start from n bytes answers.
abbrev pub started : ℕ → ℕ
started n = (start (replicate n 7)).answer

-- An issuer whose counter is a step below the largest number, used up or not.
abbrev pub near_end : IvSize → Issuer
near_end size = issuer size (replicate 8 7) 18446744073709551614 false

abbrev pub used_up : IvSize → Issuer
used_up size = issuer size (replicate 8 7) 0 true

unfoldable pub numbers : List Case
numbers =
    -- "started from 8 or 16 bytes we give it (any other length: 31)"
    is (started 8 ∷ started 16 ∷ []) (0 ∷ 0 ∷ [])
    ∷ is (started 0 ∷ started 7 ∷ started 9 ∷ started 15 ∷ started 17 ∷ []) (replicate 5 31)
    -- "at least 1 and at most 1,048,576 (other counts: 19 in both sizes)"
    ∷ is ((grant (near_end Eight) 1).answer ∷ (grant (near_end Eight) most_blocks).answer ∷ []) (0 ∷ 0 ∷ [])
    ∷ is ((grant (near_end Eight) 0).answer ∷ (grant (near_end Eight) 1048577).answer ∷ []) (19 ∷ 19 ∷ [])
    ∷ is ((grant (issuer Sixteen [] 0 false) 1048576).answer ∷ (grant (near_end Sixteen) 0).answer ∷ []) (0 ∷ 19 ∷ [])
    -- "A grant is refused as 20 exactly if its number, or in size 16 its last block's, would pass the largest 64-bit number, or the
    -- issuer is used up"
    ∷ is ((grant (near_end Sixteen) 2).answer ∷ (grant (near_end Sixteen) 3).answer ∷ []) (0 ∷ 20 ∷ [])
    ∷ is ((grant (used_up Eight) 1).answer ∷ (grant (used_up Sixteen) 1).answer ∷ (grant exhausted 1).answer ∷ []) (20 ∷ 20 ∷ 20 ∷ [])
    -- 19 before 20
    ∷ is ((grant (near_end Sixteen) 1048577).answer ∷ (grant (used_up Eight) 0).answer ∷ (grant exhausted 1048577).answer ∷ []) (19 ∷ 19 ∷ 19 ∷ [])
    ∷ []
