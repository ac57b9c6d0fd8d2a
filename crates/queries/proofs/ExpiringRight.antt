-- What is read of the tables of a history are the rows by which lots that expire are shown.
use Rattle.queries.proofs.Words.{◌≡◌, ℕ, Bool, true, List, [], refl, ap, sym, subst, ◌∙◌, Global, ◌||◌, ◌+◌, Option, Some, None, ℤ, Ok, Err, Vec, length, map, take, list_any, same_Some, same_text, LotId, Tables, UnknownLot, LotRow, MetaRow, StagedRow, StockRow, Act, IsHistory, is_lot, KnownLot, lots, lot_known, if_known, tables_of, meta_row, no_two, same_text_is, same_text_refl, is_lot_is, is_lot_refl, is_lot_turned, found_key, some_of_mapped, Rows, PAGE_MAX, page, expiring_lots, expiring_view, expiring_shown, has_key, with_keys, has_keys, once_keys, ItemKey, same_item, item_key, least_key, LotKey, same_lot, lot_key, recall_key, StockKey, same_stock, stock_key, StagedKey, same_staged, staged_key, ReservedKey, same_reserved, reserved_key, is_among, items_of_lots, any_mapped, keys_read, same_cell_is, same_cell_refl, same_share_is, same_share_refl, rows_read, rows_as, among_names, once_names, sought, known_row, IsLotSeenLast, AreInHouse, is_item_on_page, AreOfLotsPage, lots_page_shown, take_map, page_of_more, lots_in_house, AreHouse, AreOfItems, AreExpiring, IsLotSeen, AreExpiringBehind, AreExpiringIn}

-- What is read is what is asked for

pub expiring_from_first : (t : Tables) (day : ℤ) (behind : Option LotId) → behind ≡ None → (found : MetaRow × (Vec LotRow Global × Rows)) → AreExpiring day None t found.0 found.1.0.items found.1.1 → AreExpiringIn day behind t (Ok found)
expiring_from_first t day behind is found are = subst (λ (b : Option LotId). AreExpiringIn day b t (Ok found)) (sym is) (record { seen = None; is_seen = refl; are = are })

pub expiring_behind : (t : Tables) (day : ℤ) (behind : Option LotId) (l : LotId) → behind ≡ Some l → (last : Option LotRow) (k : LotRow) → last ≡ Some k → last ≡ t.lot l → (found : MetaRow × (Vec LotRow Global × Rows))
    → AreExpiring day (Some k) t found.0 found.1.0.items found.1.1 → AreExpiringIn day behind t (Ok found)
expiring_behind t day behind l is last k own read found are = subst (λ (b : Option LotId). AreExpiringIn day b t (Ok found)) (sym is) (record { seen = Some k; is_seen = (k, sym read ∙ own, refl); are = are })

pub no_lot : (t : Tables) (day : ℤ) (behind : Option LotId) (l : LotId) → behind ≡ Some l → (last : Option LotRow) → last ≡ None → last ≡ t.lot l → AreExpiringIn day behind t (Err UnknownLot)
no_lot t day behind l is last none read = subst (λ (b : Option LotId). AreExpiringIn day b t (Err UnknownLot)) (sym is) (sym read ∙ none, refl)

module _ (first : ℤ) (acts : List Act) where
  abbrev t : Tables
  t = tables_of first acts

  -- The lot that was seen last

  pub record IsLastLot (day : ℤ) (behind : Option LotId) (seen : Option LotRow) : Type 0 where
    pub last : Option KnownLot
    pub is_last : IsLotSeenLast acts last seen
    pub told : expiring_shown first acts day behind ≡ Ok (expiring_view first acts day last)

  last_lot : (day : ℤ) (behind : Option LotId) (seen : Option LotRow) → IsLotSeen behind t seen → IsLastLot day behind seen
  unfolding tables_of
  last_lot day None seen is = record { last = None; is_last = is; told = refl }
  last_lot day (Some l) seen (row, e, is) =
      let x = some_of_mapped (known_row acts) (lot_known acts l) row e in
      let k : KnownLot = x.0 in
      let name : l ≡ k.lot = found_key is_lot is_lot_is is_lot_turned (λ (m : KnownLot). m.lot) l (lots acts) k x.1 in
      record {
        last = Some k;
        is_last = (ap (lot_known acts) (sym name) ∙ x.1, is ∙ ap Some (sym x.2));
        told = ap (λ y. if_known y UnknownLot (λ k. Ok (expiring_view first acts day (Some k)))) x.1;
      }

  -- What is in the house

  module _ (lot_rows : List LotRow) (stock_rows : List StockRow) (staged_rows : List StagedRow) (are : AreHouse t lot_rows stock_rows staged_rows) where
    abbrev any_stock : LotId → Bool
    any_stock l = list_any (λ (r : StockRow). is_lot l r.lot) stock_rows

    abbrev any_staged : LotId → Bool
    any_staged l = list_any (λ (r : StagedRow). is_lot l r.lot) staged_rows

    stock_told : (l : LotId) → has_key is_lot (with_keys is_lot (λ (r : StockRow). r.lot) stock_rows []) l ≡ any_stock l
    stock_told l = has_keys is_lot is_lot_is is_lot_turned (λ (r : StockRow). r.lot) stock_rows [] l

    house_told : (l : LotId) → has_key is_lot (lots_in_house stock_rows staged_rows) l ≡ any_stock l || any_staged l
    house_told l = has_keys is_lot is_lot_is is_lot_turned (λ (r : StagedRow). r.lot) staged_rows (with_keys is_lot (λ (r : StockRow). r.lot) stock_rows []) l ∙ ap (λ b. b || any_staged l) (stock_told l)

    house_once : no_two is_lot (lots_in_house stock_rows staged_rows) ≡ true
    house_once =
        once_keys is_lot is_lot_is is_lot_turned (λ (r : StagedRow). r.lot) staged_rows (with_keys is_lot (λ (r : StockRow). r.lot) stock_rows [])
        (once_keys is_lot is_lot_is is_lot_turned (λ (r : StockRow). r.lot) stock_rows [] refl)

    pub in_house : AreInHouse first acts lot_rows stock_rows staged_rows
    unfolding tables_of
    in_house = record {
      lots = rows_as {K = LotKey} same_lot lot_key is_lot_is is_lot_refl (λ l. any_stock l || any_staged l) (λ l. any_stock l || any_staged l) (λ l. any_stock l || any_staged l) (λ l. true) t.lot lot_rows (λ l e. e) (λ l e. refl)
          (keys_read is_lot is_lot_is is_lot_turned {K = LotKey} same_lot lot_key is_lot_is is_lot_refl (λ k. k) t.lot (lots_in_house stock_rows staged_rows) (λ l. any_stock l || any_staged l) lot_rows house_once house_told are.all_lots);
      stock = rows_read {K = StockKey} same_stock stock_key same_cell_is same_cell_refl (λ k. true) (λ k. t.stock k.0 k.1) stock_rows are.all_stock;
      staged = rows_read {K = StagedKey} same_staged staged_key same_share_is same_share_refl (λ k. true) (λ k. t.staged k.0 k.1) staged_rows are.all_staged;
    }

  -- The rows of a page

  module _ (day : ℤ) (last : Option KnownLot) (listed : List LotRow) (is_page : listed ≡ map (known_row acts) (take (PAGE_MAX + 1) (expiring_lots first acts day last))) (lot_rows : List LotRow) (rows : Rows)
      (house : AreHouse t lot_rows rows.stock rows.staged) (are : AreOfItems (items_of_lots (page listed)) t rows.items rows.least rows.recalls rows.reserved) where
    abbrev shown : List KnownLot
    shown = page (expiring_lots first acts day last)

    abbrev gtins : List (List ℕ)
    gtins = items_of_lots (page listed)

    abbrev wanted : List ℕ → Bool
    wanted = is_item_on_page first acts day last

    listed_as : page listed ≡ map (known_row acts) shown
    listed_as =
        ap page is_page ∙ take_map (known_row acts) PAGE_MAX (take (PAGE_MAX + 1) (expiring_lots first acts day last)) ∙ ap (map (known_row acts)) (page_of_more PAGE_MAX (expiring_lots first acts day last))

    told : (g : List ℕ) → is_among gtins g ≡ wanted g
    told g =
        among_names (λ (r : LotRow). r.lot.gtin) (page listed) [] g
        ∙ ap (list_any (λ (r : LotRow). same_text g r.lot.gtin)) listed_as
        ∙ any_mapped (known_row acts) (λ (r : LotRow). same_text g r.lot.gtin) shown

    once : no_two same_text gtins ≡ true
    once = once_names (λ (r : LotRow). r.lot.gtin) (page listed) [] refl

    of_page : AreOfLotsPage first acts day last rows
    unfolding tables_of
    of_page = record {
      items = rows_as {K = ItemKey} same_item item_key same_text_is same_text_refl wanted wanted wanted (λ g. true) t.item rows.items (λ g e. e) (λ g e. refl)
          (sought {K = ItemKey} same_item item_key same_text_is same_text_refl (λ k. k) t.item gtins wanted rows.items once told are.own);
      least = rows_as {K = ItemKey} same_item least_key same_text_is same_text_refl wanted wanted wanted (λ g. true) t.least rows.least (λ g e. e) (λ g e. refl)
          (sought {K = ItemKey} same_item least_key same_text_is same_text_refl (λ k. k) t.least gtins wanted rows.least once told are.asked);
      recalls = rows_as {K = LotKey} same_lot recall_key is_lot_is is_lot_refl (λ l. wanted l.gtin) (λ l. wanted l.gtin) (λ l. wanted l.gtin) (λ l. true) t.recall rows.recalls (λ l e. e) (λ l e. refl)
          (sought {K = LotKey} same_lot recall_key is_lot_is is_lot_refl (λ k. k.gtin) t.recall gtins wanted rows.recalls once told are.recalled);
      stock = rows_as {K = StockKey} same_stock stock_key same_cell_is same_cell_refl (λ k. true) (λ k. true) (λ k. wanted k.0.gtin) (λ k. true) (λ k. t.stock k.0 k.1) rows.stock (λ k e. refl) (λ k e. refl)
          (rows_read {K = StockKey} same_stock stock_key same_cell_is same_cell_refl (λ k. true) (λ k. t.stock k.0 k.1) rows.stock house.all_stock);
      staged = rows_as {K = StagedKey} same_staged staged_key same_share_is same_share_refl (λ k. true) (λ k. true) (λ k. wanted k.1.gtin) (λ k. true) (λ k. t.staged k.0 k.1) rows.staged (λ k e. refl) (λ k e. refl)
          (rows_read {K = StagedKey} same_staged staged_key same_share_is same_share_refl (λ k. true) (λ k. t.staged k.0 k.1) rows.staged house.all_staged);
      reserved = rows_as {K = ReservedKey} same_reserved reserved_key same_share_is same_share_refl (λ k. wanted k.1.gtin) (λ k. wanted k.1.gtin) (λ k. wanted k.1.gtin) (λ k. true) (λ k. t.reserved k.0 k.1) rows.reserved (λ k e. e) (λ k e. refl)
          (sought {K = ReservedKey} same_reserved reserved_key same_share_is same_share_refl (λ k. k.1.gtin) (λ k. t.reserved k.0 k.1) gtins wanted rows.reserved once told are.taken);
    }

  -- All of it

  pub record AreExpiringRead (day : ℤ) (behind : Option LotId) (meta : MetaRow) (listed : List LotRow) (rows : Rows) : Type 0 where
    pub last : Option KnownLot
    pub told : expiring_shown first acts day behind ≡ Ok (expiring_view first acts day last)
    pub count : length acts ≡ meta.acts
    pub is_page : listed ≡ map (known_row acts) (take (PAGE_MAX + 1) (expiring_lots first acts day last))
    pub of_page : AreOfLotsPage first acts day last rows

  pub counted : (meta : MetaRow) → t.meta ≡ Some meta → length acts ≡ meta.acts
  unfolding tables_of
  counted meta is = ap (λ (r : MetaRow). r.acts) (same_Some (meta_row first acts) meta is)

  pub expiring_right : IsHistory first acts → (day : ℤ) (behind : Option LotId) (meta : MetaRow) (listed : List LotRow) (rows : Rows) → AreExpiringBehind day behind t meta listed rows → AreExpiringRead day behind meta listed rows
  expiring_right history day behind meta listed rows are =
      let read = last_lot day behind are.seen are.is_seen in
      let found = are.are in
      let is_page : listed ≡ map (known_row acts) (take (PAGE_MAX + 1) (expiring_lots first acts day read.last)) =
      found.is_page ∙ lots_page_shown first acts history day read.last are.seen read.is_last found.lots rows.stock rows.staged (in_house found.lots rows.stock rows.staged found.house) in
      record {
        last = read.last;
        told = read.told;
        count = counted meta found.is_meta;
        is_page = is_page;
        of_page = of_page day read.last listed is_page found.lots rows found.house found.of_items;
      }
