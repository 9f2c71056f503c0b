use Rattle.std.proofs.Common.{◌≡◌, rules, arith, take}
use Rattle.replay.specs.Output.{added, word}
use Rattle.replay.proofs.Words.{end_within, word_front}
use Rattle.replay.proofs.output.Output.hex.Goals as goal

pub shared_ref_as_front-try_extend_from_slice : goal.shared_ref_as_front-try_extend_from_slice
shared_ref_as_front-try_extend_from_slice c =
    rw c.put_hex-end.ensures.1 (end_within c.self.inside.word _ c.self.told)

pub returns : goal.returns
unfolding added
returns c =
    let p = c.put_hex-end in
    let w : take p.result p.new.out ≡ word c.args.s.now =
    rw (p.ensures.0, p.ensures.1) (word_front c.self.inside.word c.args.s.now c.self.told) in
    let e = rw w at c.try_extend_from_slice.ensures in
    search (rules, arith, e)
