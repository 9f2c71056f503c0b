use Rattle.aes.specs.Block.{encipher, decipher}
use Rattle.scheme.proofs.SampleParts.{Walked}
use Rattle.part.proofs.walk.sample_part.Given as goal

abbrev pub invariant-loop-entry : goal.invariant-loop-entry
invariant-loop-entry l =
    Walked (encipher l.how.keys.now) (decipher l.how.keys.now) l.how.direction l.how.scheme l.how.pattern l.how.iv.0
    l.fn.entries l.from l.initial.state.used l.initial.state.block.0 l.initial.part l.part l.state.block.0
    l.state.used l.at l.entry-index l.o
