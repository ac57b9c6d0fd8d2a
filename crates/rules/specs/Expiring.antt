-- What an act changes of the rows of its slice by which lots are out: they expire before the earliest expiry that ships.
use Rattle.std.specs.Prelude.{◌&&◌, if◌then◌else◌, ◌++◌}
use Rattle.rules.specs.Words.{ℕ, ℤ, Bool, not, List, [], map, filter, flat_map, find, Some, list_any, same_text, LotId, total, reply_text, Returned, MetaRow, LeastRow, LotRow, StockRow, StagedRow, ReservedRow, is_lot, capped, number_seen, none_put, none_dropped, is_past_row, earliest_seen, Rows, Slice, Change, Replanned}
use Rattle.rules.specs.ItemTold.{replanned_to}
use Rattle.rules.specs.DecidedHold.{returned_put, bins_with_returns}

-- a row stands under its key
abbrev pub stands_in : List StockRow → StockRow → Bool
stands_in rows r = list_any (λ p. is_lot r.lot p.lot && same_text r.bin p.bin) rows

abbrev pub gtins_seen : Slice → List (List ℕ)
gtins_seen s = map (λ i. i.gtin) s.rows.items

-- the lot is out, by these rows of lots and of what is asked for
abbrev pub is_out_among : List LotRow → ℤ → List LeastRow → LotId → Bool
is_out_among lots day least l = is_past_row (find (λ k. is_lot l k.lot) lots) (earliest_seen day least l.gtin)

-- On this day, with the days that these rows ask for
module _ (s : Slice) (day : ℤ) (least : List LeastRow) where
  abbrev pub is_out : LotId → Bool
  is_out = is_out_among s.rows.lots day least

  -- What is staged of the lots that are out goes to RETURNS

  abbrev pub staged_kept_on : List StagedRow
  staged_kept_on = filter (λ r. not (is_out r.lot)) s.rows.staged

  abbrev pub staged_gone_on : List StagedRow
  staged_gone_on = filter (λ r. is_out r.lot) s.rows.staged

  abbrev pub units_out : ℕ
  units_out = capped (total (λ r. if is_out r.lot then r.qty else 0) s.rows.staged)

  -- the row of the lot in RETURNS, if it is out and anything comes into it
  abbrev pub lot_returned_on : LotRow → List StockRow
  lot_returned_on k = if is_out k.lot then returned_put s k.lot else []

  abbrev pub stock_returned : List StockRow
  stock_returned = flat_map lot_returned_on s.rows.lots

  -- all stock rows after it
  abbrev pub stock_on : List StockRow
  stock_on = stock_returned ++ filter (λ r. not (stands_in stock_returned r)) s.rows.stock

  -- The plans of the items of the slice

  abbrev pub rows_on : Rows
  rows_on = record s.rows { staged = staged_kept_on; bins = bins_with_returns s; stock = stock_on; least = least }

  -- what changes of an item's reserved rows
  abbrev pub replanned_on : List ℕ → Replanned
  replanned_on g = replanned_to s day rows_on g

  -- and item after item
  abbrev pub reserved_put_on : List ReservedRow
  reserved_put_on = flat_map (λ g. (replanned_on g).put) (gtins_seen s)

  abbrev pub reserved_gone_on : List ReservedRow
  reserved_gone_on = flat_map (λ g. (replanned_on g).dropped) (gtins_seen s)

  -- The change

  abbrev pub meta_on : MetaRow
  meta_on = record { day = day; acts = number_seen s; shipments = s.meta.shipments }

  abbrev pub reply_on : List ℕ
  reply_on = reply_text (number_seen s) (Some (Returned units_out))

  -- with these rows of `least` put
  abbrev pub changes_on : List LeastRow → Change
  changes_on asked = record {
    meta = meta_on;
    put = record none_put { stock = stock_returned; reserved = reserved_put_on; least = asked };
    dropped = record none_dropped { staged = staged_gone_on; reserved = reserved_gone_on };
    text = reply_on;
  }
