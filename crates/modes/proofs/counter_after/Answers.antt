use Rattle.std.proofs.Common.{◌≡◌, ℕ, ◌+◌, ◌%◌, ◌^◌, List, ◌++◌, length, take, drop, length-drop, ap, ◌∙◌, arith, append-nil, rules}
use lib.ListN.{drop_of_length-le}
use Rattle.octets.specs.Bytes.{number, digits}
use Rattle.octets.proofs.BigEndian.{to_be-8}
use Rattle.modes_spec.specs.Modes.{counter_at}
use Rattle.modes.proofs.counter_after.Goals as goal

pub returns : goal.returns
unfolding counter_at
returns c =
    let b = c.args.b in
    let l : length b ≡ 16 = search rules in
    let e : c.to_be_bytes.result ≡ digits 8 ((number 8 b 8 + c.args.n) % 2 ^ 64) =
    c.to_be_bytes.ensures ∙ to_be-8 _ (omega arith) ∙ ap (λ (x : ℕ). digits 8 ((x + c.args.n) % 2 ^ 64)) c.be64.ensures in
    rw (c.copy_from_slice.ensures.after, drop_of_length-le (drop 8 b) {i = 8} (simp length-drop (omega arith)), append-nil)
    (ap (λ (r : List ℕ). take 8 b ++ r) e)
