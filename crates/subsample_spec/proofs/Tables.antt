-- What the tables of auxiliary data say of a box and of sizes.
use mathlib.Core.Bool.{Bool, true, false}
use mathlib.Core.List.{List}
use mathlib.Core.Path.{◌≡◌, refl}
use Prim.Native.Nat.{ℕ, ◌≤◌}
use native.Mathlib.Omega.{arith}
use lib.Dec.{eqb}
use lib.ListN.{length}
use borrow.Author.Tests.{ltb-true, eqb-true, eq-eqb, ne_eqb, not-false}
use Rattle.octets.specs.Answers.{answer}
use Rattle.octets.proofs.Answers.{join_done, join_refused}
use Rattle.octets.proofs.Tests.{&&_left, &&_right}
use Rattle.track_spec.specs.declared.Parameters.{Parameters}
use Rattle.track_spec.specs.Track.{zeros, fields, read_rows, read_box}
use Rattle.track_spec.proofs.Checking.{read_refusals}
use Rattle.subsample_spec.specs.Auxiliary.{empty_map, iv_length, written, bad_size, auxiliary_rows, handed_out, read_under, read_auxiliary}

-- data of a right size has the IV
pub size_iv : (p : Parameters) (aux : List ℕ) → bad_size p aux ≡ false → iv_length p ≤ length aux
unfolding bad_size
size_iv p aux h = go (written p aux) refl
  where
    go : (t : Bool) → written p aux ≡ t → iv_length p ≤ length aux
    go true e =
        rw (&&_left (eqb p.protected 1) _ e)
        (omega (arith, ltb-true p.iv_size (length aux) (&&_right (eqb p.protected 1) _ e)))
    go false e = omega (arith, eqb-true (length aux) (iv_length p) (not-false _ (rw e at h)))

-- the public reader: a refused box decides, and otherwise the data under the box's parameters
module _ (code box aux : List ℕ) (n : ℕ) where
  pub box_refused : (answer (read_rows code box) ≡ 0 → ⊥)
      → read_auxiliary code box aux n
      ≡ record { answer = (read_box code box).answer; map = empty_map; iv = record { 0 = zeros } }
  unfolding read_auxiliary handed_out read_box
  box_refused h =
      rw (join_refused (read_rows code box) (auxiliary_rows (fields code box) aux n) h, ne_eqb (answer (read_rows code box)) 0 h)

  pub box_accepted : answer (read_rows code box) ≡ 0 → read_auxiliary code box aux n ≡ read_under (read_box code box).parameters aux n
  unfolding read_auxiliary read_under read_box
  box_accepted h =
      rw (
        join_done (read_refusals code box) (auxiliary_rows (fields code box) aux n) h,
        eq-eqb (answer (read_rows code box)) 0 h,
      )

  pub box_answer : (read_box code box).answer ≡ answer (read_rows code box)
  unfolding read_box
  box_answer = refl
