-- The rows by which the lots in a bin are shown.
use Rattle.views.specs.Words.{ℕ, ℤ, Bool, true, List, Option, list_any, same_text, NewBin, BinRow, LotRow, StockRow, Act, is_lot, KnownLot, item_row, least_row, lot_row, recall_row, stock_row, AreRows, same_cell, Rows, page, lots_in_bin}

-- the bin whose row this is
abbrev pub known_bin : BinRow → NewBin
known_bin row = record { bin = row.name; kind = row.kind }

-- the stock of a bin, and the lots of it. Other rows of the tables may be there too.
pub record AreInBin (first : ℤ) (acts : List Act) (b : List ℕ) (lot_rows : List LotRow) (stock_rows : List StockRow) : Type 0 where
  pub lots : AreRows is_lot (λ r. r.lot) (λ l. list_any (λ r. is_lot l r.lot) stock_rows) (λ l. true) (lot_row acts) lot_rows
  pub stock : AreRows same_cell (λ r. (r.lot, r.bin)) (λ k. same_text b k.1) (λ k. true) (λ k. stock_row first acts k.0 k.1) stock_rows

-- the item has a lot on the page
abbrev pub is_item_in_bin : ℤ → List Act → List ℕ → Option KnownLot → List ℕ → Bool
is_item_in_bin first acts b last g = list_any (λ k. same_text g k.lot.gtin) (page (lots_in_bin first acts b last))

-- The items of the lots of a page, what they ask for, their recalls, and the stock of the bin. Other rows of the tables may be there too.
pub record AreOfBinPage (first : ℤ) (acts : List Act) (b : List ℕ) (last : Option KnownLot) (rows : Rows) : Type 0 where
  pub items : AreRows same_text (λ r. r.gtin) (is_item_in_bin first acts b last) (λ g. true) (item_row acts) rows.items
  pub least : AreRows same_text (λ r. r.gtin) (is_item_in_bin first acts b last) (λ g. true) (least_row acts) rows.least
  pub recalls : AreRows is_lot (λ r. r.lot) (λ l. is_item_in_bin first acts b last l.gtin) (λ l. true) (recall_row acts) rows.recalls
  pub stock : AreRows same_cell (λ r. (r.lot, r.bin)) (λ k. same_text b k.1) (λ k. true) (λ k. stock_row first acts k.0 k.1) rows.stock
