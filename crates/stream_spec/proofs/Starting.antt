-- What a start makes of the inputs read.
use mathlib.Core.Path.{◌≡◌, sym, ap, ◌∙◌}
use Prim.Native.Nat.{ℕ}
use borrow.Author.Tests.{ne_eqb}
use Rattle.octets.specs.Answers.{answer}
use Rattle.modes_spec.specs.declared.Direction.{Direction}
use Rattle.sample_spec.specs.Sample.{InputsRead}
use Rattle.sample_spec.specs.Sample.{Inputs, sample_rows, handed_out, read_inputs}
use Rattle.sample_spec.proofs.Tables.{inputs-accepted}
use Rattle.stream_spec.specs.Stream.{begun, idle, start}

module _ (d : Direction) (i : Inputs) (n : ℕ) (r : InputsRead) (e : r ≡ read_inputs i n) where
  by_table : r.answer ≡ answer (sample_rows i n)
  unfolding read_inputs handed_out
  by_table = ap (λ (r : InputsRead). r.answer) e

  pub start-refused : (r.answer ≡ 0 → ⊥) → record { answer = r.answer; stream = idle } ≡ start d i n
  unfolding start
  start-refused h = rw (sym by_table, ne_eqb r.answer 0 h)

  pub start-accepted : r.answer ≡ 0
      → record {
        answer = 0;
        stream = record {
          declared = record { direction = d; parameters = r.parameters; length = n; map = r.map; key = r.key };
          progress = begun r.iv.0;
        };
      }
      ≡ start d i n
  unfolding start
  start-accepted z =
      let h : answer (sample_rows i n) ≡ 0 = sym by_table ∙ z in
      rw (h, e, inputs-accepted i n h)
