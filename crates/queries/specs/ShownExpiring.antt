-- The rows by which lots that expire are shown.
use Rattle.std.specs.Prelude.{◌≡◌}
use Rattle.queries.specs.Words.{ℕ, ℤ, true, List, [], Option, Some, None, Result, Ok, Err, option_map, Vec, refl, ap, sym, ◌∙◌, Global, same_text, LotId, Tables, Refusal, UnknownLot, ItemRow, LeastRow, LotRow, MetaRow, RecallRow, ReservedRow, StagedRow, StockRow, ExpiringView, page, expiring_view, expiring_shown, Act, is_lot, KnownLot, lot_known, if_known, tables_of, Rows, AreRows, ItemKey, same_item, item_key, LotKey, same_lot, recall_key, StockKey, same_stock, stock_key, StagedKey, same_staged, staged_key, ReservedKey, same_reserved, reserved_key, with_keys, AreLotsOf, Each, AreLeast, items_of_lots, lots_and_more, known_row}

abbrev pub AreAllStock : Tables → List StockRow → Type 0
AreAllStock t rows = AreRows {K = StockKey} same_stock stock_key (λ k. true) (λ k. t.stock k.0 k.1) rows

abbrev pub AreAllStaged : Tables → List StagedRow → Type 0
AreAllStaged t rows = AreRows {K = StagedKey} same_staged staged_key (λ k. true) (λ k. t.staged k.0 k.1) rows

-- the lots of stock and of what is staged, each once
abbrev pub lots_in_house : List StockRow → List StagedRow → List LotId
lots_in_house stock staged = with_keys is_lot (λ r. r.lot) staged (with_keys is_lot (λ r. r.lot) stock [])

-- all stock, all that is staged, and the lots of these
pub record AreHouse (t : Tables) (lots : List LotRow) (stock : List StockRow) (staged : List StagedRow) : Type 0 where
  pub all_stock : AreAllStock t stock
  pub all_staged : AreAllStaged t staged
  pub all_lots : AreLotsOf (lots_in_house stock staged) t lots

-- items, what they ask for, their recalls, and what is reserved of them, one item after another
pub record AreOfItems (gtins : List (List ℕ)) (t : Tables) (items : List ItemRow) (least : List LeastRow) (recalls : List RecallRow) (reserved : List ReservedRow) : Type 0 where
  pub own : Each (λ g found. AreRows {K = ItemKey} same_item item_key (λ k. same_text g k) t.item found) gtins items
  pub asked : AreLeast gtins t least
  pub recalled : Each (λ g found. AreRows {K = LotKey} same_lot recall_key (λ k. same_text g k.gtin) t.recall found) gtins recalls
  pub taken : Each (λ g found. AreRows {K = ReservedKey} same_reserved reserved_key (λ k. same_text g k.1.gtin) (λ k. t.reserved k.0 k.1) found) gtins reserved

-- of the lots in the house those that expire up to the day, behind the one seen: a page and one more; the rows of their items, and the row of `meta`
pub record AreExpiring (day : ℤ) (seen : Option LotRow) (t : Tables) (meta : MetaRow) (listed : List LotRow) (rows : Rows) : Type 0 where
  pub lots : List LotRow
  pub house : AreHouse t lots rows.stock rows.staged
  pub is_page : listed ≡ lots_and_more day seen rows.stock rows.staged lots
  pub of_items : AreOfItems (items_of_lots (page listed)) t rows.items rows.least rows.recalls rows.reserved
  pub is_meta : t.meta ≡ Some meta

-- the lot that was seen last, if any was
abbrev pub IsLotSeen : Option LotId → Tables → Option LotRow → Type 0
IsLotSeen None t seen = seen ≡ None
IsLotSeen (Some l) t seen = (k : LotRow) × (t.lot l ≡ Some k) × (seen ≡ Some k)

pub record AreExpiringBehind (day : ℤ) (behind : Option LotId) (t : Tables) (meta : MetaRow) (listed : List LotRow) (rows : Rows) : Type 0 where
  pub seen : Option LotRow
  pub is_seen : IsLotSeen behind t seen
  pub are : AreExpiring day seen t meta listed rows

-- these, or the refusal where the one seen last is not known
abbrev pub IsNoLot : Option LotId → Tables → Refusal → Type 0
IsNoLot None t why = ⊥
IsNoLot (Some l) t why = (t.lot l ≡ None) × (why ≡ UnknownLot)

abbrev pub AreExpiringIn : ℤ → Option LotId → Tables → Result (MetaRow × (Vec LotRow Global × Rows)) Refusal → Type 0
AreExpiringIn day behind t (Err why) = IsNoLot behind t why
AreExpiringIn day behind t (Ok found) = AreExpiringBehind day behind t found.0 found.1.0.items found.1.1

-- what the tables have nothing of, the machine refuses

not_known : (first : ℤ) (acts : List Act) (day : ℤ) (x : Option KnownLot) → option_map (known_row acts) x ≡ None → if_known x UnknownLot (λ k. Ok (expiring_view first acts day (Some k))) ≡ Err UnknownLot
not_known first acts day None e = refl
not_known first acts day (Some k) e = absurd cc

pub expiring_refused : (first : ℤ) (acts : List Act) (day : ℤ) (behind : Option LotId) (why : Refusal) → AreExpiringIn day behind (tables_of first acts) (Err why) → expiring_shown first acts day behind ≡ Err why
unfolding tables_of
expiring_refused first acts day None why none = absurd none
expiring_refused first acts day (Some l) why (none, is) = not_known first acts day (lot_known acts l) none ∙ ap (λ w. let r : Result ExpiringView Refusal = Err w in r) (sym is)
