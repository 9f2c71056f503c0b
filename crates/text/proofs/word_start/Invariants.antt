use Rattle.std.proofs.Common.{◌≡◌, drop}
use Rattle.text.specs.Text as spec
use Rattle.text.proofs.word_start.Given as goal

abbrev pub invariant-loop : goal.invariant-loop
invariant-loop l = drop l.start l.line ≡ spec.from_word l.parting l.counter l.line
