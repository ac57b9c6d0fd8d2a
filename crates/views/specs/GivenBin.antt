-- What is shown of the lots in a bin, from rows.
use Rattle.std.specs.Prelude.{◌+◌, ◌==◌, ◌&&◌, ◌||◌}
use Rattle.views.specs.Words.{ℕ, Bool, not, List, [], take, filter, find, Option, option_map, ℤ, same_text, BinRow, ItemRow, LotRow, RecallRow, StockRow, text_before, inserted, goes_first, stock_qty, stock_found, least_seen, status_seen, Rows, PAGE_MAX, BinLot, BinView, page, goes_on, is_behind}
use Rattle.views.specs.GivenExpiring.{all_found}

-- Which lots

-- by item, and then by expiry and by first receipt
abbrev pub first_by_item : LotRow → LotRow → Bool
first_by_item k m = text_before k.lot.gtin m.lot.gtin || (not (text_before m.lot.gtin k.lot.gtin) && goes_first k m)

-- behind the one that was seen last, and with units in the bin
abbrev pub is_in_bin_row : List ℕ → Option LotRow → List StockRow → LotRow → Bool
is_in_bin_row b seen stock k = is_behind first_by_item seen k && not (stock_qty (stock_found stock k.lot b) == 0)

abbrev pub bin_rows : List ℕ → Option LotRow → List StockRow → List LotRow → List LotRow
bin_rows b seen stock lots = inserted first_by_item [] (filter (is_in_bin_row b seen stock) lots)

-- a page of them, and one more, which tells whether they go on
abbrev pub bin_and_more : List ℕ → Option LotRow → List StockRow → List LotRow → List LotRow
bin_and_more b seen stock lots = take (PAGE_MAX + 1) (bin_rows b seen stock lots)

-- What is shown of them

-- a lot by its stock and recalls, where its item asks for so many days
abbrev pub bin_lot_told : ℤ → ℕ → List ℕ → List StockRow → List RecallRow → LotRow → ItemRow → BinLot
bin_lot_told day days b stock recalls k item = record {
  item = item;
  lot = k.lot.lot;
  expiry = k.expiry;
  qty = stock_qty (stock_found stock k.lot b);
  status = status_seen day days recalls k;
}

-- the lot with its item, where there is a row of that
abbrev pub bin_lot_found : ℤ → List ℕ → Rows → List StockRow → List RecallRow → LotRow → Option BinLot
bin_lot_found day b rows stock recalls k = option_map (bin_lot_told day (least_seen rows.least k.lot.gtin) b stock recalls k) (find (λ i. same_text k.lot.gtin i.gtin) rows.items)

abbrev pub bin_lot_seen : ℤ → List ℕ → Rows → LotRow → Option BinLot
bin_lot_seen day b rows k = bin_lot_found day b rows rows.stock rows.recalls k

abbrev pub bin_seen : ℕ → ℤ → BinRow → Rows → List LotRow → BinView
bin_seen act day bin rows found = record {
  act = act;
  bin = bin.name;
  kind = bin.kind;
  lots = all_found (bin_lot_seen day bin.name rows) (page found);
  more = goes_on found;
}
