use Rattle.std.proofs.Common.{refl, sym, ap, ◌∙◌, ◌+◌, drop}
use Rattle.text.specs.Text.{from_word}
use Rattle.text.proofs.Words.{behind-word, from_word-next}
use Rattle.text.proofs.word_start.Goals as goal

pub loop-init : goal.loop-init
unfolding from_word
loop-init c = refl

pub loop-preserved : goal.loop-preserved
loop-preserved c =
    let a = c.args in
    let l = c.loop in
    ap (λ w. drop (w.end + 1) a.line.now) c.word_at-start.ensures.0
    ∙ behind-word a.parting l.start a.line.now
    ∙ rw l.invariant (sym (from_word-next a.parting l.counter a.line.now))
