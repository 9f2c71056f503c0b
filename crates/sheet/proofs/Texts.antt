-- The lengths of texts, and the digits of a number, for the check's own proofs.
use mathlib.Core.List.{[]}
use mathlib.Core.Path.{◌≡◌, sym, ◌∙◌}
use Prim.Native.Nat.{ℕ, ◌≤◌, ◌<◌}
use native.Mathlib.Omega.{arith}
use lib.ListN.{length, length-append}
use Rattle.std.specs.Fmt.{digits, decimal as digits_of}
use Rattle.octets.proofs.Bytes.{get_d_list_of}
use Rattle.text.specs.Text.{decimal}
use Rattle.text.proofs.Digits.{decimal-length}
use Rattle.sheet.specs.Sheet.{pattern_line}

pub pattern_bound : (crypt skip : ℕ) → length (pattern_line crypt skip) ≤ 16
unfolding pattern_line
pattern_bound crypt skip = simp length-append (omega (arith, decimal-length crypt, decimal-length skip))

-- std's digits of a byte, which itoa writes, are those of document 01: both computed for all bytes
pub decimals : (n : ℕ) → n < 256 → digits_of n ≡ decimal n
unfolding digits decimal
decimals n l = sym (get_d_list_of 256 digits_of [] n l) ∙ get_d_list_of 256 decimal [] n l

pub ruleset lengths = (length-append, decimal-length, pattern_bound)
