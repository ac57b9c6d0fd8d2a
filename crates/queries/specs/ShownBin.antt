-- The rows by which the lots in a bin are shown.
use Rattle.std.specs.Prelude.{◌≡◌, ◌⊎◌}
use Rattle.queries.specs.Words.{ℕ, ℤ, List, [], Option, Some, None, Result, Ok, Err, option_map, Vec, refl, ap, sym, ◌∙◌, Global, inl, inr, same_text, LotId, Tables, NewBin, Refusal, UnknownBin, UnknownLot, BinRow, ItemRow, LeastRow, LotRow, MetaRow, RecallRow, StockRow, AreStockIn, BinView, page, bin_view, bin_shown, Act, is_lot, KnownLot, bin_named, lot_known, if_known, tables_of, Rows, AreRows, ItemKey, same_item, item_key, LotKey, same_lot, recall_key, with_keys, AreLotsOf, Each, AreLeast, items_of_lots, bin_and_more, known_row}
use Rattle.queries.specs.ShownExpiring.{IsLotSeen, IsNoLot}

-- the lots of stock, each once
abbrev pub lots_of_stock : List StockRow → List LotId
lots_of_stock stock = with_keys is_lot (λ r. r.lot) stock []

-- the stock of a bin, and the lots of it
pub record AreStockAndLots (b : List ℕ) (t : Tables) (lots : List LotRow) (stock : List StockRow) : Type 0 where
  pub in_bin : AreStockIn b t stock
  pub all_lots : AreLotsOf (lots_of_stock stock) t lots

-- items, what they ask for, and their recalls, one item after another
pub record AreOfGoods (gtins : List (List ℕ)) (t : Tables) (items : List ItemRow) (least : List LeastRow) (recalls : List RecallRow) : Type 0 where
  pub own : Each (λ g found. AreRows {K = ItemKey} same_item item_key (λ k. same_text g k) t.item found) gtins items
  pub asked : AreLeast gtins t least
  pub recalled : Each (λ g found. AreRows {K = LotKey} same_lot recall_key (λ k. same_text g k.gtin) t.recall found) gtins recalls

-- of the lots in the bin those behind the one seen: a page and one more; the rows of their items, the stock of the bin, and the row of `meta`
pub record AreInBinRead (b : List ℕ) (seen : Option LotRow) (t : Tables) (meta : MetaRow) (listed : List LotRow) (rows : Rows) : Type 0 where
  pub lots : List LotRow
  pub in_bin : AreStockAndLots b t lots rows.stock
  pub is_page : listed ≡ bin_and_more b seen rows.stock lots
  pub of_goods : AreOfGoods (items_of_lots (page listed)) t rows.items rows.least rows.recalls
  pub is_meta : t.meta ≡ Some meta

pub record AreInBinBehind (behind : Option LotId) (t : Tables) (bin : BinRow) (meta : MetaRow) (listed : List LotRow) (rows : Rows) : Type 0 where
  pub seen : Option LotRow
  pub is_seen : IsLotSeen behind t seen
  pub are : AreInBinRead bin.name seen t meta listed rows

-- these of the bin whose row this is, or the refusal where the one seen last is not known
abbrev pub AreBehind : BinRow → Option LotId → Tables → Result (BinRow × (MetaRow × (Vec LotRow Global × Rows))) Refusal → Type 0
AreBehind bin behind t (Err why) = IsNoLot behind t why
AreBehind bin behind t (Ok found) = (bin ≡ found.0) × AreInBinBehind behind t found.0 found.1.0 found.1.1.0.items found.1.1.1

-- these, or the refusal where the bin is not known, or else the lot
abbrev pub IsBinIn : List ℕ → Option LotId → Tables → Result (BinRow × (MetaRow × (Vec LotRow Global × Rows))) Refusal → Type 0
IsBinIn b behind t (Err why) = ((t.bin b ≡ None) × (why ≡ UnknownBin)) ⊎ ((bin : BinRow) × (t.bin b ≡ Some bin) × IsNoLot behind t why)
IsBinIn b behind t (Ok found) = (t.bin b ≡ Some found.0) × AreInBinBehind behind t found.0 found.1.0 found.1.1.0.items found.1.1.1

-- what the tables have nothing of, the machine refuses

abbrev row_of : NewBin → BinRow
row_of x = record { name = x.bin; kind = x.kind }

module _ (first : ℤ) (acts : List Act) where
  abbrev shown_of : Option NewBin → Option LotId → Result BinView Refusal
  shown_of x None = if_known x UnknownBin (λ bin. Ok (bin_view first acts bin None))
  shown_of x (Some l) = if_known x UnknownBin (λ bin. if_known (lot_known acts l) UnknownLot (λ k. Ok (bin_view first acts bin (Some k))))

  no_bin : (x : Option NewBin) (behind : Option LotId) → option_map row_of x ≡ None → shown_of x behind ≡ Err UnknownBin
  no_bin None None e = refl
  no_bin None (Some l) e = refl
  no_bin (Some bin) behind e = absurd cc

  no_lot : (bin : NewBin) (x : Option KnownLot) → option_map (known_row acts) x ≡ None → if_known x UnknownLot (λ k. Ok (bin_view first acts bin (Some k))) ≡ Err UnknownLot
  no_lot bin None e = refl
  no_lot bin (Some k) e = absurd cc

  no_lot_in : (x : Option NewBin) (row : BinRow) (behind : Option LotId) (why : Refusal) → option_map row_of x ≡ Some row → IsNoLot behind (tables_of first acts) why → shown_of x behind ≡ Err why
  unfolding tables_of
  no_lot_in None row behind why e none = absurd cc
  no_lot_in (Some bin) row None why e none = absurd none
  no_lot_in (Some bin) row (Some l) why e (none, is) = no_lot bin (lot_known acts l) none ∙ ap (λ w. let r : Result BinView Refusal = Err w in r) (sym is)

  shown_is : (b : List ℕ) (behind : Option LotId) → bin_shown first acts b behind ≡ shown_of (bin_named acts b) behind
  shown_is b None = refl
  shown_is b (Some l) = refl

  pub bin_refused : (b : List ℕ) (behind : Option LotId) (why : Refusal) → IsBinIn b behind (tables_of first acts) (Err why) → bin_shown first acts b behind ≡ Err why
  unfolding tables_of
  bin_refused b behind why (inl (none, is)) = shown_is b behind ∙ no_bin (bin_named acts b) behind none ∙ ap (λ w. let r : Result BinView Refusal = Err w in r) (sym is)
  bin_refused b behind why (inr (row, e, none)) = shown_is b behind ∙ no_lot_in (bin_named acts b) row behind why e none
