use Rattle.std.proofs.Common.{rules, ◌∙◌}
use Rattle.fips197.specs.Cipher.{matrix}
use Rattle.fips197.proofs.Lists.{same}
use Rattle.aes.proofs.Four.{four}
use Rattle.aes.proofs.mix_column.Goals as goal

pub returns : goal.returns
unfolding matrix
returns c =
    let h = c.from_fn.ensures.items in
    let e = h.each in
    let p = e.3.met in
    let q = e.4.3.met in
    let r = e.4.4.3.met in
    let s = e.4.4.4.3.met in
    four _ h.long e.2 e.4.2 e.4.4.2 e.4.4.4.2
    ∙ same (search (rules, p)) (search (rules, p, q)) (search (rules, p, q, r)) (search (rules, p, q, r, s))
