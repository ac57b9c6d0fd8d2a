-- The plan of an item changed in place: which of its reserved rows an act puts and drops, by the rows of the slice and by those that
-- there are after it.
use Rattle.std.specs.Prelude.{ℕ, ◌==◌, Bool, ◌&&◌, not, List, ◌∷◌, take, drop, filter, ℤ}
use Rattle.std.specs.List.{list_any}
use Rattle.row_rules.specs.Words.{BinRow, LotRow, LeastRow, RecallRow, StockRow, OrderRow, UrgentRow, LineRow, StagedRow, ReservedRow, SUM_MAX, Demand, Supply, Row, plan_rows, demand_total}
use Rattle.row_rules.specs.Status.{earliest_seen}
use Rattle.plan.specs.Changes.{cut_of}
use Rattle.row_rules.specs.Plans.{demands_seen, supplies_seen, demands_within, supplies_within, named_rows, rows_to_put, rows_to_drop}
use Rattle.row_rules.specs.declared.slice.Slice.{Slice}
use Rattle.row_rules.specs.declared.replanning.Replanned.{Replanned}

-- The rows of the first n demands stay. So one demand stands for these, under the number 0 that no act has.
abbrev pub first_as_one : ℕ → List Demand → List Demand
first_as_one n ds = record { booking = 0; need = demand_total (take n ds) } ∷ drop n ds

-- the rows of the plan in which one demand stands for the first n
abbrev pub rows_behind : ℕ → List Demand → List Supply → List Row
rows_behind n ds ss = plan_rows (first_as_one n ds) ss

-- two rows are one: booking, lot and units
abbrev pub same_row : Row → Row → Bool
same_row r s = (r.booking == s.booking) && (r.lot == s.lot) && (r.qty == s.qty)

-- the rows that are not among the others
abbrev pub rows_apart : List Row → List Row → List Row
rows_apart others rows = filter (λ r. not (list_any (same_row r) others)) rows

-- the shares of the rows that are not among the others
abbrev pub shares_apart : List OrderRow → List LotRow → List Row → List Row → List ReservedRow
shares_apart orders lots others rows = named_rows orders lots (rows_apart others rows)

-- the shares of an item that differ, of those before and after
abbrev pub shares_changed : List ℕ → List ReservedRow → List ReservedRow → Replanned
shares_changed g olds news = record { put = rows_to_put olds news; dropped = rows_to_drop g olds news }

-- what the open orders need of an item, and what it has for them, each up to the limit of its sum
abbrev pub item_demands : List ℕ → List LineRow → List StagedRow → List UrgentRow → List OrderRow → List Demand
item_demands g lines staged urgents orders = demands_within SUM_MAX (demands_seen g lines staged urgents orders)

abbrev pub item_supplies : List ℕ → ℤ → List RecallRow → List BinRow → List StockRow → List LotRow → List Supply
item_supplies g day recalls bins stock lots = supplies_within SUM_MAX (supplies_seen g day recalls bins stock lots)

-- what changes of an item's reserved rows where these are the rows of its plan before and after, by the orders and lots before and after
abbrev pub replanned_rows : List ℕ → List OrderRow → List LotRow → List Row → List OrderRow → List LotRow → List Row → Replanned
replanned_rows g old_orders old_lots olds orders lots news =
    shares_changed g (shares_apart old_orders old_lots news olds) (shares_apart orders lots olds news)

-- the same by the demands and supplies before and after
abbrev pub replanned_from : List ℕ → List OrderRow → List LotRow → List Demand → List Supply → List OrderRow → List LotRow → List Demand → List Supply → Replanned
replanned_from g old_orders old_lots ds ss orders lots es ts =
    let kept = cut_of ds ss es ts in
    replanned_rows g old_orders old_lots (rows_behind kept ds ss) orders lots (rows_behind kept es ts)

module _ (s : Slice) (day : ℤ) (orders : List OrderRow) (lines : List LineRow) (staged : List StagedRow) (lots : List LotRow) (recalls : List RecallRow) (bins : List BinRow) (stock : List StockRow) (least : List LeastRow) (urgents : List UrgentRow) (g : List ℕ) where
  -- what changes of the item's reserved rows between a slice and these
  abbrev pub item_replanned : Replanned
  item_replanned =
      replanned_from g
      s.rows.orders s.rows.lots (item_demands g s.rows.lines s.rows.staged s.rows.urgents s.rows.orders) (item_supplies g (earliest_seen s.meta.day s.rows.least g) s.rows.recalls s.rows.bins s.rows.stock s.rows.lots)
      orders lots (item_demands g lines staged urgents orders) (item_supplies g (earliest_seen day least g) recalls bins stock lots)
