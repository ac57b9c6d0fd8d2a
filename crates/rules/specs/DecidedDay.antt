-- What is decided of the opening of a day by the rows of its slice: the conditions judged, and the rows changed.
use Rattle.std.specs.Prelude.{◌∷◌}
use Rattle.rules.specs.Words.{ℤ, int_le, [], DayNotLater, Judgement, Slice, Change}
use Rattle.rules.specs.Expiring.{changes_on}

abbrev pub day_judged : Slice → ℤ → Judgement
day_judged s day =
    (int_le day s.meta.day, DayNotLater) ∷ []

abbrev pub day_changes : Slice → ℤ → Change
day_changes s day = changes_on s day s.rows.least []
