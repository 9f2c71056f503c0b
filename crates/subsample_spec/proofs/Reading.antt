-- What is read of accepted data: the IV's own bytes and zeros behind them, and no more entries than a map holds.
use mathlib.Core.Bool.{false, not}
use mathlib.Core.List.{List}
use mathlib.Core.Path.{◌≡◌, ◌∙◌}
use Prim.Native.Nat.{ℕ, ◌≤◌, ◌<◌}
use native.Mathlib.Omega.{arith}
use lib.Dec.{eqb}
use lib.ListN.{length, get_or, take, length-take, get_or-eq_default}
use lib.Seq.{get_or-take}
use borrow.Author.Tests.{ltb-false}
use Rattle.octets.specs.Answers.{answer}
use Rattle.octets.specs.Bytes.{filled}
use Rattle.octets.proofs.Answers.{done_head}
use Rattle.octets.proofs.Bytes.{filled-list_of, get_d_list_of}
use Rattle.track_spec.specs.declared.Parameters.{Parameters}
use Rattle.track_spec.specs.Track.{zeros, has_constant}
use Rattle.subsample_spec.specs.declared.SubsampleMap.{SubsampleMap}
use Rattle.subsample_spec.specs.Auxiliary.{limit, map_rows, iv_length, bad_size, iv_read}

filled_at : (n : ℕ) (s : List ℕ) (i : ℕ) → i < n → get_or (filled n s) i 0 ≡ get_or s i 0
filled_at n s i l = rw (filled-list_of n s) (get_d_list_of n (λ i. get_or s i 0) 0 i l)

module _ (p : Parameters) (aux : List ℕ) (h : has_constant p.protected p.iv_size ≡ false) (i : ℕ) (l : i < 16) where
  -- the IV's bytes are those of the data
  pub iv_byte : i < iv_length p → get_or (iv_read p aux) i 0 ≡ get_or aux i 0
  unfolding iv_read
  iv_byte m = rw h (filled_at 16 (take (iv_length p) aux) i l ∙ get_or-take (iv_length p) aux i 0 m)

  -- and it is filled out with zeros
  pub iv_filled : iv_length p ≤ i → get_or (iv_read p aux) i 0 ≡ 0
  unfolding iv_read
  iv_filled m =
      rw h
      (filled_at 16 (take (iv_length p) aux) i l
      ∙ get_or-eq_default (take (iv_length p) aux) 0 {n = i} (omega (arith, length-take (iv_length p) aux)))

-- An unprotected track's data is empty and its IV zero, whatever the other parameters.
module _ (p : Parameters) (aux : List ℕ) (h : eqb p.protected 1 ≡ false) where
  pub unprotected_data : bad_size p aux ≡ not (eqb (length aux) 0)
  unfolding bad_size
  unprotected_data = rw h

  pub unprotected_iv : iv_read p aux ≡ zeros
  unfolding iv_read filled
  unprotected_iv = rw h

-- An accepted map has no more entries than it has places.
pub count-allowed : (code : List ℕ) (m : SubsampleMap) (n : ℕ) → answer (map_rows code m n) ≡ 0 → m.count ≤ limit
unfolding map_rows
count-allowed code m n h = ltb-false limit m.count (done_head 9 _ _ (omega arith) h)
