-- What is read for a shipment of the tables of a history is its slice.
use Rattle.slices.proofs.Words.{◌≡◌, ℕ, Bool, true, false, ◌&&◌, List, [], ◌∷◌, filter, refl, ap, sym, ◌∙◌, ◌||◌, Some, ℤ, list_any, same_text, LotId, Tables, Key, Ship, LineRow, StagedRow, ItemKey, same_item, item_key, least_key, BinKey, same_bin, bin_key, LotKey, same_lot, lot_key, recall_key, StockKey, same_stock, stock_key, StagedKey, same_staged, staged_key, ReservedKey, same_reserved, reserved_key, OrderKey, same_order, order_key, urgent_key, LineKey, same_line, line_key, Act, is_lot, has_line, tables_of, IsHistory, AreRows, and_both, or_false, or_first, or_later, same_text_is, same_text_refl, is_lot_is, is_lot_turned, is_lot_item, IsSlice, on_named_stage, has_touched_line, Slice, has_key, is_among, with_names, lots_on_stage, AreShipped, has_keys, once_keys}
use Rattle.slices.proofs.KeysTold.{same_cell_is, same_cell_refl, same_share_is, same_share_refl, same_line_is, same_line_refl}
use Rattle.slices.proofs.RowsTold.{rows_as}
use Rattle.slices.proofs.SliceTold.{among_names, once_names, sought}
use Rattle.slices.proofs.KeysRead.{keys_read}
use Rattle.slices.proofs.LinesTold.{taken}
use Rattle.slices.proofs.LinedOrders.{rows_told}
use Rattle.slices.proofs.OwnRows.{own_any, any_kept, no_rows}

module _ (first : ℤ) (acts : List Act) (history : IsHistory first acts) (key : Key) (order : List ℕ) (s : Slice) (meta : (tables_of first acts).meta ≡ Some s.meta) (are : AreShipped order (tables_of first acts) s.rows) where
  abbrev t : Tables
  t = tables_of first acts

  abbrev act : Act
  act = record { key = key; command = Ship order }

  abbrev touched : List ℕ → Bool
  touched g = has_line acts order g

  abbrev gtins : List (List ℕ)
  gtins = with_names (λ (r : LineRow). r.gtin) s.rows.lines []

  -- the items of the order's lines are those that it touches
  told : (x : List ℕ) → is_among gtins x ≡ touched x
  told x = among_names (λ (r : LineRow). r.gtin) s.rows.lines [] x ∙ taken first acts order s.rows.lines are.named.lines x

  staged_rows : AreRows {K = StagedKey} same_staged staged_key (λ k. touched k.1.gtin) (λ k. touched k.1.gtin) (λ k. t.staged k.0 k.1) s.rows.staged
  staged_rows = sought {K = StagedKey} same_staged staged_key same_share_is same_share_refl (λ k. k.1.gtin) (λ k. t.staged k.0 k.1) gtins touched s.rows.staged (once_names (λ (r : LineRow). r.gtin) s.rows.lines [] refl) told are.staged

  -- what is staged for it, and the lots of that
  abbrev own_staged : List StagedRow
  own_staged = filter (λ r. same_text r.order order) s.rows.staged

  abbrev lots : List LotId
  lots = lots_on_stage order s.rows.staged

  on_stage : (l : LotId) → has_key is_lot lots l ≡ list_any (λ (r : StagedRow). same_text r.order order && is_lot l r.lot) s.rows.staged
  on_stage l = has_keys is_lot is_lot_is is_lot_turned (λ (r : StagedRow). r.lot) own_staged [] l ∙ any_kept (λ (r : StagedRow). same_text r.order order) (λ r. is_lot l r.lot) s.rows.staged

  lots_touched : (l : LotId) → has_key is_lot lots l ≡ true → touched l.gtin ≡ true
  lots_touched l e =
      own_any {K = StagedKey} staged_key (λ k. touched k.1.gtin) (λ k. t.staged k.0 k.1) (λ r. same_text r.order order && is_lot l r.lot) s.rows.staged (touched l.gtin ≡ true) staged_rows.own
      (λ r passes there. ap touched (same_text_is l.gtin r.lot.gtin (is_lot_item l r.lot (and_both (same_text r.order order) (is_lot l r.lot) passes).1)) ∙ there) (sym (on_stage l) ∙ e)

  one_named : (o : List ℕ) (b : Bool) → is_among (order ∷ []) o ≡ true → same_text o order || b ≡ true
  one_named o b e = or_first (same_text o order) b (sym (or_false (same_text o order)) ∙ e)

  none : {K : Type 0} (k : K) → false ≡ true → ⊥
  none k e = cc

  pub shipment_right : IsSlice first act acts (tables_of first acts) s
  shipment_right = record {
    meta = meta;
    items_counted = λ e. absurd (let no : false ≡ true = e in cc);
    bins_counted = λ e. absurd (let no : false ≡ true = e in cc);
    items = no_rows {K = ItemKey} same_item item_key (λ g. false) touched t.item s.rows.items are.no_items none;
    least = no_rows {K = ItemKey} same_item least_key (λ g. false) touched t.least s.rows.least are.no_least none;
    lots = no_rows {K = LotKey} same_lot lot_key (λ l. false) (λ l. touched l.gtin) t.lot s.rows.lots are.no_lots none;
    recalls = no_rows {K = LotKey} same_lot recall_key (λ l. false) (λ l. touched l.gtin) t.recall s.rows.recalls are.no_recalls none;
    stock = rows_as {K = StockKey} same_stock stock_key same_cell_is same_cell_refl (λ k. has_key is_lot lots k.0) (λ k. has_key is_lot lots k.0) (λ k. touched k.0.gtin && on_named_stage (Ship order) s.rows k.0) (λ k. touched k.0.gtin) (λ k. t.stock k.0 k.1) s.rows.stock
        (λ k e. on_stage k.0 ∙ (and_both (touched k.0.gtin) (on_named_stage (Ship order) s.rows k.0) e).1) (λ k e. lots_touched k.0 e)
        (keys_read is_lot is_lot_is is_lot_turned {K = StockKey} same_stock stock_key same_cell_is same_cell_refl (λ k. k.0) (λ k. t.stock k.0 k.1) lots (has_key is_lot lots) s.rows.stock
        (once_keys is_lot is_lot_is is_lot_turned (λ (r : StagedRow). r.lot) own_staged [] refl) (λ l. refl) are.stock);
    bins = no_rows {K = BinKey} same_bin bin_key (λ b. false) (λ b. list_any (λ r. same_text b r.bin) s.rows.stock) t.bin s.rows.bins are.no_bins none;
    orders = rows_as {K = OrderKey} same_order order_key same_text_is same_text_refl (is_among (order ∷ [])) (is_among (order ∷ [])) (λ o. same_text o order || false) (λ o. same_text o order || has_touched_line first act acts o) t.order s.rows.orders
        (λ o e. e) (λ o e. one_named o (has_touched_line first act acts o) e)
        (sought {K = OrderKey} same_order order_key same_text_is same_text_refl (λ o. o) t.order (order ∷ []) (is_among (order ∷ [])) s.rows.orders refl (λ x. refl) (rows_told first acts history (order ∷ []) s.rows.orders are.named.orders));
    urgents = no_rows {K = OrderKey} same_order urgent_key (λ o. false) (λ o. same_text o order || has_touched_line first act acts o) t.urgent s.rows.urgents are.no_urgents none;
    lines = rows_as {K = LineKey} same_line line_key same_line_is same_line_refl (λ k. is_among (order ∷ []) k.0) (λ k. is_among (order ∷ []) k.0) (λ k. same_text k.0 order || false) (λ k. same_text k.0 order || touched k.1) (λ k. t.line k.0 k.1) s.rows.lines
        (λ k e. e) (λ k e. one_named k.0 (touched k.1) e)
        (sought {K = LineKey} same_line line_key same_line_is same_line_refl (λ k. k.0) (λ k. t.line k.0 k.1) (order ∷ []) (is_among (order ∷ [])) s.rows.lines refl (λ x. refl) are.named.lines);
    staged = rows_as {K = StagedKey} same_staged staged_key same_share_is same_share_refl (λ k. touched k.1.gtin) (λ k. touched k.1.gtin) (λ k. touched k.1.gtin) (λ k. same_text k.0 order || touched k.1.gtin) (λ k. t.staged k.0 k.1) s.rows.staged
        (λ k e. e) (λ k e. or_later (same_text k.0 order) (touched k.1.gtin) e) staged_rows;
    reserved = no_rows {K = ReservedKey} same_reserved reserved_key (λ k. false) (λ k. same_text k.0 order || touched k.1.gtin) (λ k. t.reserved k.0 k.1) s.rows.reserved are.no_reserved none;
  }
