use Rattle.std.proofs.Common.{◌∙◌, ◌-◌, ◌≤◌, length, take, drop, arith}
use lib.ListN.{length-take, length-drop}
use Rattle.text.specs.Text.{word_at}
use Rattle.text.proofs.Words.{first_word, word_within}
use Rattle.text.proofs.word_at.Goals as goal

pub overflow_add-result : goal.overflow_add-result
overflow_add-result c =
    let line = c.args.line.now in
    let start = c.min-start.result in
    let l : length c.word.result.now ≤ length (take (length line - start) (drop start line)) = rw c.word.ensures (word_within _ _ _) in
    search (arith, simp (length-take, length-drop) at l)

pub returns : goal.returns
unfolding word_at
returns c =
    let a = c.args in
    let line = a.line.now in
    let start = c.min-start.result in
    let s = c.min-start.ensures in
    let w = c.word.ensures ∙ first_word a.parting a.at line start s in
    let l : length c.word.result.now ≤ length (take (length line - start) (drop start line)) = rw c.word.ensures (word_within _ _ _) in
    (rw (w, s), s, omega arith, omega (arith, simp (length-take, length-drop) at l))
