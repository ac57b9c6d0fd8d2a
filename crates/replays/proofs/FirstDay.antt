-- The day that acts began on, as their tables tell it.
use Rattle.replays.proofs.Words.{◌≡◌, Option, Some, None, refl, ap, Start, Received, Opened, tables_of, start_of, IsStartBy, untold_day, first_receipt, TheFirstDayIsTold}

pub first_day_told : TheFirstDayIsTold
unfolding tables_of
first_day_told first acts h kept = by_start (start_of acts) refl
  where
    by_start : (s : Option Start) → start_of acts ≡ s → IsStartBy first acts s first
    by_start None is = ap (λ day. Some day) (untold_day first acts is)
    by_start (Some (Received l n)) is = first_receipt first acts l n h is
    by_start (Some (Opened day)) is = absurd (kept day is)
