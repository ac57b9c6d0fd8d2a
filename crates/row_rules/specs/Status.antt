-- How a lot stands on a day, by its row and the recalls, and whether it may be shipped.
use Rattle.std.specs.Prelude.{ℕ, Bool, false, not, ◌&&◌, if◌then◌else◌, List, find, Option, Some, None, ℤ, pos, ◌+ℤ◌}
use Rattle.row_rules.specs.Words.{same_text, LotRow, LeastRow, RecallRow, is_expired, is_short_dated}
use Rattle.commands.specs.declared.views.LotStatus.{LotStatus}
use Rattle.commands.specs.declared.views.LotStatus.TheVariants.{Recalled, Held, Expired, ShortDated, Free}
use Rattle.row_rules.specs.Seen.{has_recall}

-- recalled comes first, then held, then expired, then short-dated
abbrev pub status_seen : ℤ → ℕ → List RecallRow → LotRow → LotStatus
status_seen day days recalls k =
    if has_recall recalls k.lot then Recalled
    else (if k.held then Held else (if is_expired day k.expiry then Expired else (if is_short_dated day days k.expiry then ShortDated else Free)))

abbrev pub days_in : Option LeastRow → ℕ
days_in None = 0
days_in (Some r) = r.days

-- the days that the rows ask for an item
abbrev pub least_seen : List LeastRow → List ℕ → ℕ
least_seen rows g = days_in (find (λ r. same_text g r.gtin) rows)

-- the earliest expiry that a lot of the item must have on a day
abbrev pub earliest_seen : ℤ → List LeastRow → List ℕ → ℤ
earliest_seen day rows g = day +ℤ pos (least_seen rows g)

-- the lot may be shipped where this is the earliest expiry that ships
abbrev pub may_ship : ℤ → List RecallRow → LotRow → Bool
may_ship earliest recalls k = not (has_recall recalls k.lot) && not k.held && not (is_expired earliest k.expiry)

-- there is a row of the lot, and it is expired on the day
abbrev pub is_past_row : Option LotRow → ℤ → Bool
is_past_row None day = false
is_past_row (Some k) day = is_expired day k.expiry

-- there is a row of the lot, and it has fewer days left, though it is not expired
abbrev pub is_below_row : Option LotRow → ℤ → ℕ → Bool
is_below_row None day days = false
is_below_row (Some k) day days = is_short_dated day days k.expiry
