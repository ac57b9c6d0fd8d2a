-- What a decision reads of a lot and of its units in a bin, and the stock rows where these have changed.
use Rattle.std.specs.Prelude.{ℕ, Bool, false, not, ◌&&◌, ◌==◌, if◌then◌else◌, List, [], ◌∷◌, ◌++◌, filter, find, Option, Some, None, is_some}
use Rattle.std.specs.List.{cons_option}
use Rattle.row_rules.specs.Words.{same_text, LotId, LotRow, StockRow, is_lot}
use Rattle.row_rules.specs.Seen.{lot_seen, stock_qty}
use Rattle.row_rules.specs.declared.slice.Slice.{Slice}

-- the lot is known
abbrev pub sees_lot : Slice → LotId → Bool
sees_lot s l = is_some (lot_seen s l)

abbrev pub is_held_row : Option LotRow → Bool
is_held_row None = false
is_held_row (Some k) = k.held

-- the lot is held
abbrev pub sees_hold : Slice → LotId → Bool
sees_hold s l = is_held_row (lot_seen s l)

-- the row of a lot in a bin
abbrev pub stock_found : List StockRow → LotId → List ℕ → Option StockRow
stock_found rows l b = find (λ q. is_lot l q.lot && same_text b q.bin) rows

-- the units of a lot in a bin
abbrev pub in_bin_seen : Slice → List ℕ → LotId → ℕ
in_bin_seen s b l = stock_qty (stock_found s.rows.stock l b)

-- Where a lot has so many units in a bin after the act: a row of no units is not kept

-- the row put
abbrev pub stock_put : LotId → List ℕ → ℕ → List StockRow
stock_put l b q = if q == 0 then [] else record { lot = l; bin = b; qty = q } ∷ []

-- the row dropped, if there was one
abbrev pub stock_gone : List StockRow → LotId → List ℕ → ℕ → List StockRow
stock_gone rows l b q = if q == 0 then cons_option (stock_found rows l b) [] else []

-- all stock rows
abbrev pub stock_rows_with : LotId → List ℕ → ℕ → List StockRow → List StockRow
stock_rows_with l b q rows = stock_put l b q ++ filter (λ r. not (is_lot l r.lot && same_text b r.bin)) rows
