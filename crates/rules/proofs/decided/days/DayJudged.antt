-- The opening of a day judged by its slice is judged as by the acts.
use Rattle.rules.proofs.Words.{◌≡◌, List, [], ◌∷◌, int_le, ℤ, Key, OpenDay, DayNotLater, Act, tables_of, IsSlice, first_refusal, judgement, day_judged, Slice}
use Rattle.rules.proofs.decided.Decisions.{day_seen}

module _ (first : ℤ) (acts : List Act) (key : Key) (day : ℤ) (s : Slice) (slice : IsSlice first (record { key = key; command = OpenDay day }) acts (tables_of first acts) s) where
  abbrev act : Act
  act = record { key = key; command = OpenDay day }

  pub day_is_judged : first_refusal (day_judged s day) ≡ first_refusal (judgement first acts (OpenDay day))
  day_is_judged =
      λ i. first_refusal (
      (int_le day (day_seen first acts act s slice i), DayNotLater) ∷ [])
