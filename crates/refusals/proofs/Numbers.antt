-- No refusal has the number 0, and two have different numbers.
use Rattle.std.specs.Prelude.{◌≡◌, ℕ, ◌<◌, cond, eqb}
use Rattle.std.proofs.Common.{refl, sym, ap, ◌∙◌, arith}
use Rattle.refusals.specs.declared.Refusal.{Refusal}
use Rattle.refusals.specs.declared.Refusal.TheVariants.{Scheme, Frame, Version, Fields, KeyRecord, Kid, Length, Size, Entries, EmptyEntry, Sum, Remainder, Record, Past, Output, Early, Room, Count, UsedUp, Start, NotValid, NoRecord, SetBack, VolumeRoom, Term}
use Rattle.refusals.specs.Refusals.{refusal_number}

pub number_positive : (r : Refusal) → 0 < refusal_number r
number_positive Scheme = omega arith
number_positive Frame = omega arith
number_positive Version = omega arith
number_positive Fields = omega arith
number_positive KeyRecord = omega arith
number_positive Kid = omega arith
number_positive Length = omega arith
number_positive Size = omega arith
number_positive Entries = omega arith
number_positive EmptyEntry = omega arith
number_positive Sum = omega arith
number_positive Remainder = omega arith
number_positive Record = omega arith
number_positive Past = omega arith
number_positive Output = omega arith
number_positive Early = omega arith
number_positive Room = omega arith
number_positive Count = omega arith
number_positive UsedUp = omega arith
number_positive Start = omega arith
number_positive NotValid = omega arith
number_positive NoRecord = omega arith
number_positive SetBack = omega arith
number_positive VolumeRoom = omega arith
number_positive Term = omega arith

-- the refusal of a number, for the proof that there is one
of_number : ℕ → Refusal
of_number n =
    cond (eqb n 2) Frame (cond (eqb n 3) Version (cond (eqb n 4) Fields (cond (eqb n 5) KeyRecord (cond (eqb n 6) Kid (cond (eqb n 7)
    Length (cond (eqb n 8) Size (cond (eqb n 9) Entries (cond (eqb n 10) EmptyEntry (cond (eqb n 11) Sum (cond (eqb n 12) Remainder
    (cond (eqb n 13) Record (cond (eqb n 14) Past (cond (eqb n 15) Output (cond (eqb n 16) Early (cond (eqb n 17) Room (cond (eqb n
    19) Count (cond (eqb n 20) UsedUp (cond (eqb n 31) Start (cond (eqb n 50) NotValid (cond (eqb n 51) NoRecord (cond (eqb n 52)
    SetBack (cond (eqb n 53) VolumeRoom (cond (eqb n 54) Term (Scheme))))))))))))))))))))))))

of-number : (r : Refusal) → of_number (refusal_number r) ≡ r
unfolding of_number
of-number Scheme = refl
of-number Frame = refl
of-number Version = refl
of-number Fields = refl
of-number KeyRecord = refl
of-number Kid = refl
of-number Length = refl
of-number Size = refl
of-number Entries = refl
of-number EmptyEntry = refl
of-number Sum = refl
of-number Remainder = refl
of-number Record = refl
of-number Past = refl
of-number Output = refl
of-number Early = refl
of-number Room = refl
of-number Count = refl
of-number UsedUp = refl
of-number Start = refl
of-number NotValid = refl
of-number NoRecord = refl
of-number SetBack = refl
of-number VolumeRoom = refl
of-number Term = refl

pub number_injective : (r s : Refusal) → refusal_number r ≡ refusal_number s → r ≡ s
number_injective r s e = sym (of-number r) ∙ ap of_number e ∙ of-number s
