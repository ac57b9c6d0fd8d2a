-- What is read of the tables of a history are the rows by which the lots in a bin are shown.
use Rattle.queries.proofs.Words.{◌≡◌, ℕ, Bool, true, List, [], refl, ap, sym, subst, ◌∙◌, Global, inl, inr, ◌+◌, Option, Some, None, ℤ, Result, Ok, Err, Vec, length, map, take, list_any, same_Some, same_text, LotId, Tables, NewBin, Refusal, UnknownBin, UnknownLot, BinRow, LotRow, MetaRow, StockRow, Act, is_lot, KnownLot, bin_named, lots, lot_known, if_known, tables_of, meta_row, no_two, same_text_is, same_text_refl, is_lot_is, is_lot_refl, is_lot_turned, found_key, some_of_mapped, Rows, PAGE_MAX, page, lots_in_bin, bin_view, bin_shown, has_key, has_keys, once_keys, ItemKey, same_item, item_key, least_key, LotKey, same_lot, lot_key, recall_key, StockKey, same_stock, stock_key, is_among, items_of_lots, any_mapped, keys_read, same_cell_is, same_cell_refl, rows_read, rows_as, among_names, once_names, sought, known_bin, AreInBin, is_item_in_bin, AreOfBinPage, known_row, IsLotSeenLast, bin_page_shown, take_map, page_of_more, IsLotSeen, lots_of_stock, AreStockAndLots, AreOfGoods, AreInBinRead, AreInBinBehind, AreBehind, IsBinIn}

-- What is read is what is asked for

pub from_first : (t : Tables) (bin : BinRow) (behind : Option LotId) → behind ≡ None → (found : MetaRow × (Vec LotRow Global × Rows)) → AreInBinRead bin.name None t found.0 found.1.0.items found.1.1 → AreBehind bin behind t (Ok (bin, found))
from_first t bin behind is found are = subst (λ (b : Option LotId). AreBehind bin b t (Ok (bin, found))) (sym is) (refl, record { seen = None; is_seen = refl; are = are })

pub from_lot : (t : Tables) (bin : BinRow) (behind : Option LotId) (l : LotId) → behind ≡ Some l → (last : Option LotRow) (k : LotRow) → last ≡ Some k → last ≡ t.lot l → (found : MetaRow × (Vec LotRow Global × Rows))
    → AreInBinRead bin.name (Some k) t found.0 found.1.0.items found.1.1 → AreBehind bin behind t (Ok (bin, found))
from_lot t bin behind l is last k own read found are = subst (λ (b : Option LotId). AreBehind bin b t (Ok (bin, found))) (sym is) (refl, record { seen = Some k; is_seen = (k, sym read ∙ own, refl); are = are })

pub no_lot : (t : Tables) (bin : BinRow) (behind : Option LotId) (l : LotId) → behind ≡ Some l → (last : Option LotRow) → last ≡ None → last ≡ t.lot l → AreBehind bin behind t (Err UnknownLot)
no_lot t bin behind l is last none read = subst (λ (b : Option LotId). AreBehind bin b t (Err UnknownLot)) (sym is) (sym read ∙ none, refl)

pub no_bin : (t : Tables) (b : List ℕ) (behind : Option LotId) (x : Option BinRow) → x ≡ None → x ≡ t.bin b → IsBinIn b behind t (Err UnknownBin)
no_bin t b behind x none read = inl (sym read ∙ none, refl)

pub of_bin : (t : Tables) (b : List ℕ) (behind : Option LotId) (x : Option BinRow) (bin : BinRow) → x ≡ Some bin → x ≡ t.bin b → (found : Result (BinRow × (MetaRow × (Vec LotRow Global × Rows))) Refusal) → AreBehind bin behind t found → IsBinIn b behind t found
of_bin t b behind x bin is read (Err why) none = inr (bin, sym read ∙ is, none)
of_bin t b behind x bin is read (Ok found) are = (sym read ∙ is ∙ ap Some are.0, are.1)

module _ (first : ℤ) (acts : List Act) where
  abbrev t : Tables
  t = tables_of first acts

  -- The bin, and the lot that was seen last

  abbrev row_of : NewBin → BinRow
  row_of x = record { name = x.bin; kind = x.kind }

  pub record IsLastIn (b : List ℕ) (behind : Option LotId) (bin : BinRow) (seen : Option LotRow) : Type 0 where
    pub last : Option KnownLot
    pub is_last : IsLotSeenLast acts last seen
    pub told : bin_shown first acts b behind ≡ Ok (bin_view first acts (known_bin bin) last)

  last_in : (b : List ℕ) (behind : Option LotId) (bin : BinRow) (seen : Option LotRow) → t.bin b ≡ Some bin → IsLotSeen behind t seen → IsLastIn b behind bin seen
  unfolding tables_of
  last_in b None bin seen own is =
      let x = some_of_mapped row_of (bin_named acts b) bin own in
      record {
        last = None;
        is_last = is;
        told = ap (λ y. if_known y UnknownBin (λ n. Ok (bin_view first acts n None))) x.1 ∙ ap (λ (r : BinRow). Ok (bin_view first acts (known_bin r) None)) x.2;
      }
  last_in b (Some l) bin seen own (row, e, is) =
      let x = some_of_mapped row_of (bin_named acts b) bin own in
      let y = some_of_mapped (known_row acts) (lot_known acts l) row e in
      let k : KnownLot = y.0 in
      let name : l ≡ k.lot = found_key is_lot is_lot_is is_lot_turned (λ (m : KnownLot). m.lot) l (lots acts) k y.1 in
      record {
        last = Some k;
        is_last = (ap (lot_known acts) (sym name) ∙ y.1, is ∙ ap Some (sym y.2));
        told =
            ap (λ z. if_known z UnknownBin (λ n. if_known (lot_known acts l) UnknownLot (λ k. Ok (bin_view first acts n (Some k))))) x.1
            ∙ ap (λ z. if_known z UnknownLot (λ k. Ok (bin_view first acts x.0 (Some k)))) y.1
            ∙ ap (λ (r : BinRow). Ok (bin_view first acts (known_bin r) (Some k))) x.2;
      }

  -- What is in the bin

  module _ (b : List ℕ) (lot_rows : List LotRow) (stock_rows : List StockRow) (are : AreStockAndLots b t lot_rows stock_rows) where
    abbrev any_stock : LotId → Bool
    any_stock l = list_any (λ (r : StockRow). is_lot l r.lot) stock_rows

    stock_told : (l : LotId) → has_key is_lot (lots_of_stock stock_rows) l ≡ any_stock l
    stock_told l = has_keys is_lot is_lot_is is_lot_turned (λ (r : StockRow). r.lot) stock_rows [] l

    stock_once : no_two is_lot (lots_of_stock stock_rows) ≡ true
    stock_once = once_keys is_lot is_lot_is is_lot_turned (λ (r : StockRow). r.lot) stock_rows [] refl

    in_bin : AreInBin first acts b lot_rows stock_rows
    unfolding tables_of
    in_bin = record {
      lots = rows_as {K = LotKey} same_lot lot_key is_lot_is is_lot_refl any_stock any_stock any_stock (λ l. true) t.lot lot_rows (λ l e. e) (λ l e. refl)
          (keys_read is_lot is_lot_is is_lot_turned {K = LotKey} same_lot lot_key is_lot_is is_lot_refl (λ k. k) t.lot (lots_of_stock stock_rows) any_stock lot_rows stock_once stock_told are.all_lots);
      stock = rows_as {K = StockKey} same_stock stock_key same_cell_is same_cell_refl (λ k. same_text b k.1) (λ k. same_text b k.1) (λ k. same_text b k.1) (λ k. true) (λ k. t.stock k.0 k.1) stock_rows (λ k e. e) (λ k e. refl)
          (rows_read {K = StockKey} same_stock stock_key same_cell_is same_cell_refl (λ k. same_text b k.1) (λ k. t.stock k.0 k.1) stock_rows are.in_bin);
    }

  -- The rows of a page

  module _ (b : List ℕ) (last : Option KnownLot) (listed : List LotRow) (is_page : listed ≡ map (known_row acts) (take (PAGE_MAX + 1) (lots_in_bin first acts b last))) (lot_rows : List LotRow) (rows : Rows)
      (stock : AreStockAndLots b t lot_rows rows.stock) (are : AreOfGoods (items_of_lots (page listed)) t rows.items rows.least rows.recalls) where
    abbrev shown : List KnownLot
    shown = page (lots_in_bin first acts b last)

    abbrev gtins : List (List ℕ)
    gtins = items_of_lots (page listed)

    abbrev wanted : List ℕ → Bool
    wanted = is_item_in_bin first acts b last

    listed_as : page listed ≡ map (known_row acts) shown
    listed_as =
        ap page is_page ∙ take_map (known_row acts) PAGE_MAX (take (PAGE_MAX + 1) (lots_in_bin first acts b last)) ∙ ap (map (known_row acts)) (page_of_more PAGE_MAX (lots_in_bin first acts b last))

    told : (g : List ℕ) → is_among gtins g ≡ wanted g
    told g =
        among_names (λ (r : LotRow). r.lot.gtin) (page listed) [] g
        ∙ ap (list_any (λ (r : LotRow). same_text g r.lot.gtin)) listed_as
        ∙ any_mapped (known_row acts) (λ (r : LotRow). same_text g r.lot.gtin) shown

    once : no_two same_text gtins ≡ true
    once = once_names (λ (r : LotRow). r.lot.gtin) (page listed) [] refl

    of_page : AreOfBinPage first acts b last rows
    unfolding tables_of
    of_page = record {
      items = rows_as {K = ItemKey} same_item item_key same_text_is same_text_refl wanted wanted wanted (λ g. true) t.item rows.items (λ g e. e) (λ g e. refl)
          (sought {K = ItemKey} same_item item_key same_text_is same_text_refl (λ k. k) t.item gtins wanted rows.items once told are.own);
      least = rows_as {K = ItemKey} same_item least_key same_text_is same_text_refl wanted wanted wanted (λ g. true) t.least rows.least (λ g e. e) (λ g e. refl)
          (sought {K = ItemKey} same_item least_key same_text_is same_text_refl (λ k. k) t.least gtins wanted rows.least once told are.asked);
      recalls = rows_as {K = LotKey} same_lot recall_key is_lot_is is_lot_refl (λ l. wanted l.gtin) (λ l. wanted l.gtin) (λ l. wanted l.gtin) (λ l. true) t.recall rows.recalls (λ l e. e) (λ l e. refl)
          (sought {K = LotKey} same_lot recall_key is_lot_is is_lot_refl (λ k. k.gtin) t.recall gtins wanted rows.recalls once told are.recalled);
      stock = (in_bin b lot_rows rows.stock stock).stock;
    }

  -- All of it

  pub record IsBinRead (b : List ℕ) (behind : Option LotId) (bin : BinRow) (meta : MetaRow) (listed : List LotRow) (rows : Rows) : Type 0 where
    pub last : Option KnownLot
    pub told : bin_shown first acts b behind ≡ Ok (bin_view first acts (known_bin bin) last)
    pub count : length acts ≡ meta.acts
    pub is_page : listed ≡ map (known_row acts) (take (PAGE_MAX + 1) (lots_in_bin first acts bin.name last))
    pub of_page : AreOfBinPage first acts bin.name last rows

  counted : (meta : MetaRow) → t.meta ≡ Some meta → length acts ≡ meta.acts
  unfolding tables_of
  counted meta is = ap (λ (r : MetaRow). r.acts) (same_Some (meta_row first acts) meta is)

  pub bin_right : (b : List ℕ) (behind : Option LotId) (bin : BinRow) (meta : MetaRow) (listed : List LotRow) (rows : Rows) → t.bin b ≡ Some bin → AreInBinBehind behind t bin meta listed rows → IsBinRead b behind bin meta listed rows
  bin_right b behind bin meta listed rows own are =
      let read = last_in b behind bin are.seen own are.is_seen in
      let found = are.are in
      let is_page : listed ≡ map (known_row acts) (take (PAGE_MAX + 1) (lots_in_bin first acts bin.name read.last)) =
      found.is_page ∙ bin_page_shown first acts bin.name read.last are.seen read.is_last found.lots rows.stock (in_bin bin.name found.lots rows.stock found.in_bin) in
      record {
        last = read.last;
        told = read.told;
        count = counted meta found.is_meta;
        is_page = is_page;
        of_page = of_page bin.name read.last listed is_page found.lots rows found.in_bin found.of_goods;
      }
