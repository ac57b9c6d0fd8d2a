-- What is decided of the days that the lots of an item must have left, by the rows of its slice: the conditions judged, and the rows changed.
use Rattle.std.specs.Prelude.{◌∷◌}
use Rattle.rules.specs.Words.{not, List, [], UnknownItem, NewLeast, LeastRow, Judgement, sees_item, Slice, Change}
use Rattle.rules.specs.Expiring.{changes_on}

abbrev pub least_judged : Slice → NewLeast → Judgement
least_judged s l =
    (not (sees_item s l.gtin), UnknownItem) ∷ []

abbrev pub least_row_put : NewLeast → LeastRow
least_row_put l = record { gtin = l.gtin; days = l.days }

-- the rows of `least` after it: that of the item is found first
abbrev pub least_rows_after : Slice → NewLeast → List LeastRow
least_rows_after s l = least_row_put l ∷ s.rows.least

abbrev pub least_changes : Slice → NewLeast → Change
least_changes s l = changes_on s s.meta.day (least_rows_after s l) (least_row_put l ∷ [])
