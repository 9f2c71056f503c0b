-- Document 02, Ask 3, for the archive: samples locked with start vectors of one issuer, and the counter blocks that each needs
-- (document 01, "Which bytes are ciphered, and how").
use Rattle.std.specs.Prelude.{List, [], ◌≡◌, ℕ, ◌≤◌, get_or}
use Rattle.octets.specs.Answers.{answer}
use Rattle.sample_spec.specs.Sample.{Inputs, iv_of, sample_rows}
use Rattle.sample_spec.specs.Counters.{needed_for, blocks_for}
use Rattle.issuer_spec.specs.Issuer.{start}
use Rattle.issuer_spec.specs.Grants.{grant_at}

-- A sample of some length, and what it is locked with.
pub record Sample : Type 0 where
  pub inputs : Inputs
  pub length : ℕ

-- What the library answers to it.
abbrev pub answer_to : Sample → ℕ
answer_to x = answer (sample_rows x.inputs x.length)

-- How many counter blocks its ciphered bytes need under a counter scheme, and block a of them.
abbrev pub needed : Sample → ℕ
needed x = needed_for x.inputs x.length

abbrev pub block_of : Sample → ℕ → List ℕ
block_of x a = get_or (blocks_for x.inputs x.length) a []

-- The library accepts the sample, its start vector is that of accepted grant k, and it needs no more blocks than the grant named.
pub record LockedWith (bytes counts : List ℕ) (k : ℕ) (x : Sample) : Type 0 where
  pub sample : answer_to x ≡ 0
  pub grant : (grant_at (start bytes).issuer counts k).answer ≡ 0
  pub iv : iv_of x.inputs ≡ (grant_at (start bytes).issuer counts k).vector.0
  pub enough : needed x ≤ get_or counts k 0
