-- Rows sought by lots.
use Rattle.std.specs.Prelude.{List}
use Rattle.slices.specs.Words.{LotId, Tables, LotRow, StockRow, AreRows, same_lot_id, LotKey, same_lot, lot_key, StockKey, same_stock, stock_key}
use Rattle.slices.specs.Reading.{Each}

-- the rows of lots, and their stock
abbrev pub AreLotsOf : List LotId → Tables → List LotRow → Type 0
AreLotsOf lots t lot_rows = Each (λ l found. AreRows {K = LotKey} same_lot lot_key (same_lot l) t.lot found) lots lot_rows

abbrev pub AreStockOf : List LotId → Tables → List StockRow → Type 0
AreStockOf lots t stock_rows = Each (λ l found. AreRows {K = StockKey} same_stock stock_key (λ k. same_lot_id l k.0) (λ k. t.stock k.0 k.1) found) lots stock_rows
