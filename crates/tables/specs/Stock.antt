-- The table `stock`.
use Rattle.std.specs.Prelude.{◌∷◌}
use Rattle.tables.specs.Words.{ℕ, bytes_eq, List, [], codes, refl, ◌∙◌, pos, and_parts, Text, column, bytes, is_gtin, is_lot_text, is_name, LotId, Tables, StockRow, ADD_STOCK, CHANGE_STOCK, STOCK_OF, STOCK_OF_LOT, STOCK_IN, DROP_STOCK, one, lot_columns, text_stored, stock_table, same_lot_id, StockKey, stock_mapping, same_stock, stock_key, cast_number, cast_null, and_assoc, same_lots, itself_lot, same_both, same_bytes, itself_both, itself_bytes, Described, IsLawful, Change, ChangeIs, IsChange, DropIs, key_found, Asks, of_key, by_text, by_lot, AreSought, IsText, IsAsked, planned, whole_change, one_keyed}
use Rattle.sqlite.specs.Listing.{understood}
use Rattle.sqlite_tied.specs.Compute.{everything}

-- what the table is
abbrev pub stock : Described StockRow StockKey
stock = planned stock_mapping (record {
  place = 5;
  tree = stock_table.tree;
  name = codes "stock";
  columns = stock_table.columns;
  key = stock_key;
  same = same_stock;
  key_cells = λ k. Text k.0.gtin ∷ Text k.0.lot ∷ Text k.1 ∷ [];
  key_places = 1 ∷ 2 ∷ 3 ∷ [];
  look = λ t k. t.stock k.0 k.1;
  set = λ f t. record t { stock = λ a b. f (a, b) };
  add = ADD_STOCK.now;
})

-- the statement that changes a row
abbrev pub change_stock : Change StockRow
change_stock = whole_change stock CHANGE_STOCK.now

-- those of a gtin
abbrev pub stock_of : Asks StockKey (List ℕ)
stock_of = by_text STOCK_OF.now 1 (λ k. k.0.gtin)

abbrev pub AreStockOf : List ℕ → Tables → List StockRow → Type 0
AreStockOf = AreSought stock stock_of

-- those of a lot
abbrev pub stock_of_lot : Asks StockKey LotId
stock_of_lot = by_lot STOCK_OF_LOT.now 1 (λ k. k.0)

abbrev pub AreStockOfLot : LotId → Tables → List StockRow → Type 0
AreStockOfLot = AreSought stock stock_of_lot

-- those in a bin
abbrev pub stock_in : Asks StockKey (List ℕ)
stock_in = by_text STOCK_IN.now 3 (λ k. k.1)

abbrev pub AreStockIn : List ℕ → Tables → List StockRow → Type 0
AreStockIn = AreSought stock stock_in

-- ---- what holds of them

gtin_text : IsText stock 1 (λ k. k.0.gtin)
gtin_text = record { rule = is_gtin; has = λ r h. (and_parts _ _ h).0; reads = λ r. refl }

lot_text : IsText stock 2 (λ k. k.0.lot)
lot_text = record { rule = is_lot_text; has = λ r h. (and_parts _ _ (and_parts _ _ h).1).0; reads = λ r. refl }

bin_text : IsText stock 3 (λ k. k.1)
bin_text = record { rule = is_name; has = λ r h. (and_parts _ _ (and_parts _ _ (and_parts _ _ h).1).1).0; reads = λ r. refl }

pub stock_laws : IsLawful stock
unfolding understood everything
stock_laws = record {
  placed_first = refl;
  placed = λ rest. refl;
  itself = λ k. itself_both _ _ (itself_lot k.0) (itself_bytes k.1);
  one_key = same_both same_lot_id bytes_eq same_lots same_bytes;
  one_row = λ db ready params. one_keyed db ready 5 stock_table.tree (codes "stock") stock_table.columns (1 ∷ 2 ∷ 3 ∷ []) refl refl params;
  at_key = λ k r h.
      key_found stock (of_key 1 (λ k. k.0.gtin) ∷ of_key 2 (λ k. k.0.lot) ∷ of_key 3 (λ k. k.1) ∷ []) (gtin_text, (lot_text, (bin_text, tt))) k r h
      ∙ and_assoc (bytes_eq k.0.gtin (bytes (column r 1))) (bytes_eq k.0.lot (bytes (column r 2))) (bytes_eq k.1 (bytes (column r 3)));
  own_key = λ s r. refl;
  looks = λ trees. refl;
  sets = λ trees rows. refl;
  same_set = λ t. refl;
  ruled = refl;
  has_shown = λ params r. refl;
  seen_shown = λ params r. refl;
  add_is = λ rest. (refl, (refl, refl));
  added = λ s. refl;
  casts = λ s. rw (cast_null, cast_number (pos s.qty)) refl;
  comes = λ s rows sound. (refl, (sound, refl));
}

change_is : ChangeIs stock change_stock
unfolding understood everything
change_is rest = (refl, (refl, refl))

pub change_stock_laws : IsChange stock change_stock
change_stock_laws = record {
  is = change_is;
  changed = λ s r. refl;
  casts = λ s. rw (cast_number (pos s.qty)) refl;
  becomes = λ s r sound int own. (sound, refl);
}

pub drop_is : DropIs stock DROP_STOCK.now
unfolding understood everything
drop_is rest = (refl, (refl, refl))

pub stock_of_laws : IsAsked (one (text_stored is_gtin)) 1 stock stock_of
unfolding understood everything
stock_of_laws = record { few = refl; fits = λ by. refl; cells = λ by. refl; is = λ rest. (refl, refl, (refl, refl)); texts = (gtin_text, tt) }

pub stock_of_lot_laws : IsAsked lot_columns 2 stock stock_of_lot
unfolding understood everything
stock_of_lot_laws = record { few = refl; fits = λ by. refl; cells = λ by. refl; is = λ rest. (refl, refl, (refl, refl)); texts = (gtin_text, (lot_text, tt)) }

pub stock_in_laws : IsAsked (one (text_stored is_name)) 1 stock stock_in
unfolding understood everything
stock_in_laws = record { few = refl; fits = λ by. refl; cells = λ by. refl; is = λ rest. (refl, refl, (refl, refl)); texts = (bin_text, tt) }
