-- The figures of the house, from rows.
use Rattle.std.specs.Prelude.{◌+◌, ◌==◌}
use Rattle.views.specs.Words.{ℕ, Bool, not, List, length, map, filter, count_by, None, ℤ, same_text, total, LotRow, LotStatus, RecallRow, StagedRow, StockRow, lot_units, status_seen, RETURNS, Rows, OpenOrder, ServedOrder, FiguresView, LotFigures, OpenFigures, UnitFigures, is_short_order, is_staged_order, shows_expired, shows_held, shows_recalled}
use Rattle.views.specs.GivenOpen.{listed, open_order_told}

-- Lots

-- the rows have units of the lot
abbrev pub is_in_house : List StockRow → List StagedRow → LotRow → Bool
is_in_house stock staged k = not (lot_units k.lot stock staged == 0)

-- its status passes a test. The tests of the figures pass no lot that is short-dated, so none needs the days that its item asks for.
abbrev pub stands : ℤ → (LotStatus → Bool) → List RecallRow → LotRow → Bool
stands day test recalls k = test (status_seen day 0 recalls k)

abbrev pub lot_figures_seen : ℤ → List RecallRow → List LotRow → LotFigures
lot_figures_seen day recalls lots = record {
  expired = count_by (stands day shows_expired recalls) lots;
  held = count_by (stands day shows_held recalls) lots;
  recalled = count_by (stands day shows_recalled recalls) lots;
}

abbrev pub lots_counted : ℤ → Rows → LotFigures
lots_counted day rows = lot_figures_seen day rows.recalls (filter (is_in_house rows.stock rows.staged) rows.lots)

-- Orders

abbrev pub is_urgent_served : ServedOrder → Bool
is_urgent_served o = o.urgent

-- of orders, and of what is shown of them
abbrev pub open_figures_seen : List OpenOrder → List ServedOrder → OpenFigures
open_figures_seen shown orders = record {
  orders = length orders;
  short = count_by is_short_order shown;
  staged = count_by is_staged_order shown;
  urgent = count_by is_urgent_served orders;
}

abbrev pub orders_counted : Rows → OpenFigures
orders_counted rows =
    open_figures_seen (map (open_order_told rows.lines rows.staged rows.reserved) (listed rows.urgents None rows.orders)) (listed rows.urgents None rows.orders)

-- Units

abbrev pub stock_units : List StockRow → ℕ
stock_units rows = total (λ r. r.qty) rows

abbrev pub staged_units : List StagedRow → ℕ
staged_units rows = total (λ r. r.qty) rows

abbrev pub units_counted : List StockRow → List StagedRow → UnitFigures
units_counted stock staged = record {
  house = stock_units stock + staged_units staged;
  returns = stock_units (filter (λ r. same_text RETURNS r.bin) stock);
}

abbrev pub figures_seen : ℕ → ℤ → Rows → FiguresView
figures_seen act day rows = record {
  act = act;
  day = day;
  lots = lots_counted day rows;
  open_orders = orders_counted rows;
  units = units_counted rows.stock rows.staged;
}
