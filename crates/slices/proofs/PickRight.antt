-- What is read for a pick of the tables of a history is its slice.
use Rattle.slices.proofs.Words.{◌≡◌, ℕ, Bool, true, false, ◌&&◌, List, sym, ◌∙◌, ◌||◌, Some, ℤ, list_any, same_text, LotId, Tables, Key, Pick, Picking, StockRow, same_lot_id, ItemKey, same_item, item_key, least_key, BinKey, same_bin, bin_key, LotKey, same_lot, lot_key, recall_key, StockKey, same_stock, stock_key, StagedKey, same_staged, staged_key, ReservedKey, same_reserved, reserved_key, OrderKey, same_order, order_key, urgent_key, LineKey, same_line, line_key, Act, is_lot, tables_of, and_both, or_false, or_first, same_text_turned, same_text_is, same_text_refl, is_lot_is, is_lot_refl, is_lot_turned, is_lot_item, IsSlice, has_touched_line, Slice, ArePicked}
use Rattle.slices.proofs.KeysTold.{same_cell_is, same_cell_refl, same_share_is, same_share_refl, same_line_is, same_line_refl}
use Rattle.slices.proofs.RowsTold.{and_true, rows_read_as}
use Rattle.slices.proofs.OwnRows.{no_rows}

module _ (first : ℤ) (acts : List Act) (key : Key) (p : Picking) (s : Slice) (meta : (tables_of first acts).meta ≡ Some s.meta) (are : ArePicked p (tables_of first acts) s.rows) where
  abbrev t : Tables
  t = tables_of first acts

  abbrev act : Act
  act = record { key = key; command = Pick p }

  -- it touches the item of its lot
  abbrev touched : List ℕ → Bool
  touched g = same_text g p.lot.gtin

  own_item : (g : List ℕ) → touched g ≡ true → same_text p.lot.gtin g ≡ true
  own_item g e = same_text_turned p.lot.gtin g ∙ e

  item_touched : (g : List ℕ) → same_text p.lot.gtin g ≡ true → touched g ≡ true
  item_touched g e = same_text_turned g p.lot.gtin ∙ e

  own_lot : (l : LotId) → is_lot l p.lot ≡ true → same_lot_id p.lot l ≡ true
  own_lot l e = is_lot_turned p.lot l ∙ e

  lot_touched : (l : LotId) → same_lot_id p.lot l ≡ true → touched l.gtin ≡ true
  lot_touched l e = is_lot_item l p.lot (is_lot_turned l p.lot ∙ e)

  own_name : (name x : List ℕ) → same_text x name || false ≡ true → same_text name x ≡ true
  own_name name x e = same_text_turned name x ∙ sym (or_false (same_text x name)) ∙ e

  named : (name x : List ℕ) (more : Bool) → same_text name x ≡ true → same_text x name || more ≡ true
  named name x more e = or_first (same_text x name) more (same_text_turned x name ∙ e)

  own_line : (k : LineKey) → (touched k.1 && same_text k.0 p.order) || false ≡ true → same_line (p.order, p.lot.gtin) k ≡ true
  own_line k e =
      let two = and_both (touched k.1) (same_text k.0 p.order) (sym (or_false (touched k.1 && same_text k.0 p.order)) ∙ e) in
      and_true (same_text p.order k.0) (same_text p.lot.gtin k.1) (same_text_turned p.order k.0 ∙ two.1) (own_item k.1 two.0)

  own_share : (k : StagedKey) → same_text k.0 p.order && is_lot k.1 p.lot ≡ true → same_staged (p.order, p.lot) k ≡ true
  own_share k e =
      let two = and_both (same_text k.0 p.order) (is_lot k.1 p.lot) e in
      and_true (same_text p.order k.0) (same_lot_id p.lot k.1) (same_text_turned p.order k.0 ∙ two.0) (own_lot k.1 two.1)

  none : {K : Type 0} (k : K) → false ≡ true → ⊥
  none k e = cc

  pub pick_right : IsSlice first act acts (tables_of first acts) s
  pick_right = record {
    meta = meta;
    items_counted = λ e. absurd (let no : false ≡ true = e in cc);
    bins_counted = λ e. absurd (let no : false ≡ true = e in cc);
    items = rows_read_as {K = ItemKey} same_item item_key same_text_is same_text_refl (λ k. same_text p.lot.gtin k) touched touched t.item s.rows.items own_item item_touched are.goods.items;
    least = rows_read_as {K = ItemKey} same_item least_key same_text_is same_text_refl (λ k. same_text p.lot.gtin k) touched touched t.least s.rows.least own_item item_touched are.goods.least;
    lots = rows_read_as {K = LotKey} same_lot lot_key is_lot_is is_lot_refl (same_lot_id p.lot) (λ l. touched l.gtin && (is_lot l p.lot || false)) (λ l. touched l.gtin) t.lot s.rows.lots
        (λ l e. own_lot l (sym (or_false (is_lot l p.lot)) ∙ (and_both (touched l.gtin) (is_lot l p.lot || false) e).1)) lot_touched are.goods.lots;
    recalls = rows_read_as {K = LotKey} same_lot recall_key is_lot_is is_lot_refl (λ l. same_text p.lot.gtin l.gtin) (λ l. is_lot l p.lot && touched l.gtin) (λ l. touched l.gtin) t.recall s.rows.recalls
        (λ l e. own_item l.gtin (and_both (is_lot l p.lot) (touched l.gtin) e).1) (λ l e. item_touched l.gtin e) are.goods.recalls;
    stock = rows_read_as {K = StockKey} same_stock stock_key same_cell_is same_cell_refl (λ k. same_lot_id p.lot k.0) (λ k. touched k.0.gtin && ((is_lot k.0 p.lot && same_text k.1 p.bin) || false)) (λ k. touched k.0.gtin) (λ k. t.stock k.0 k.1) s.rows.stock
        (λ k e. own_lot k.0 (and_both (is_lot k.0 p.lot) (same_text k.1 p.bin) (sym (or_false (is_lot k.0 p.lot && same_text k.1 p.bin)) ∙ (and_both (touched k.0.gtin) ((is_lot k.0 p.lot && same_text k.1 p.bin) || false) e).1)).0)
        (λ k e. lot_touched k.0 e) are.goods.stock;
    bins = rows_read_as {K = BinKey} same_bin bin_key same_text_is same_text_refl (λ k. same_text p.bin k) (λ b. same_text b p.bin || false) (λ b. same_text b p.bin || list_any (λ (r : StockRow). same_text b r.bin) s.rows.stock) t.bin s.rows.bins
        (λ b e. own_name p.bin b e) (λ b e. named p.bin b (list_any (λ (r : StockRow). same_text b r.bin) s.rows.stock) e) are.goods.bins;
    orders = rows_read_as {K = OrderKey} same_order order_key same_text_is same_text_refl (λ k. same_text p.order k) (λ o. same_text o p.order || false) (λ o. same_text o p.order || has_touched_line first act acts o) t.order s.rows.orders
        (λ o e. own_name p.order o e) (λ o e. named p.order o (has_touched_line first act acts o) e) are.ordered.orders;
    urgents = no_rows {K = OrderKey} same_order urgent_key (λ o. false) (λ o. same_text o p.order || has_touched_line first act acts o) t.urgent s.rows.urgents are.ordered.no_urgents none;
    lines = rows_read_as {K = LineKey} same_line line_key same_line_is same_line_refl (λ k. same_line (p.order, p.lot.gtin) k) (λ k. (touched k.1 && same_text k.0 p.order) || false) (λ k. same_text k.0 p.order || touched k.1) (λ k. t.line k.0 k.1) s.rows.lines
        own_line (λ k e. named p.order k.0 (touched k.1) (and_both (same_text p.order k.0) (same_text p.lot.gtin k.1) e).0) are.ordered.lines;
    staged = rows_read_as {K = StagedKey} same_staged staged_key same_share_is same_share_refl (λ k. same_staged (p.order, p.lot) k) (λ k. (same_text k.0 p.order && is_lot k.1 p.lot) && touched k.1.gtin) (λ k. same_text k.0 p.order || touched k.1.gtin) (λ k. t.staged k.0 k.1) s.rows.staged
        (λ k e. own_share k (and_both (same_text k.0 p.order && is_lot k.1 p.lot) (touched k.1.gtin) e).0) (λ k e. named p.order k.0 (touched k.1.gtin) (and_both (same_text p.order k.0) (same_lot_id p.lot k.1) e).0) are.shares.staged;
    reserved = rows_read_as {K = ReservedKey} same_reserved reserved_key same_share_is same_share_refl (λ k. same_reserved (p.order, p.lot) k) (λ k. same_text k.0 p.order && is_lot k.1 p.lot) (λ k. same_text k.0 p.order || touched k.1.gtin) (λ k. t.reserved k.0 k.1) s.rows.reserved
        own_share (λ k e. named p.order k.0 (touched k.1.gtin) (and_both (same_text p.order k.0) (same_lot_id p.lot k.1) e).0) are.shares.reserved;
  }
