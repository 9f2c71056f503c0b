use Rattle.std.proofs.Common.{◌≡◌, ◌≤◌, length, take, drop}
use Rattle.fips197.specs.InvCipher.{inv_rounds}
use Rattle.aes.proofs.inv_cipher.Given as goal

-- The keys left to take are a part of the key list's start.
abbrev pub invariant-loop-k : goal.invariant-loop-k
invariant-loop-k l =
    let left = l.k-iterator.iter.rest.now in
    (length left ≤ 9) × (left ≡ take (length left) (take 9 (drop 1 l.fn.keys)))
    × (inv_rounds l.fn.keys (length left) l.t ≡ inv_rounds l.fn.keys 9 l.initial.t)
