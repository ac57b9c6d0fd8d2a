-- What is read of the tables of a history are the rows by which the recall notice of a lot is shown.
use Rattle.queries.proofs.Words.{◌≡◌, ◌≤◌, ◌<◌, true, List, [], ◌∷◌, map, filter, reverse, Global, inl, inr, refl, ap, sym, ◌∙◌, subst, arith, ◌==◌, ℤ, nat_eq, Option, Some, None, IsSomeAnd, Ok, Vec, AllByRecursion, cases_Bool, LotId, Tables, ACTS_MAX, CardRow, ShiplineRow, ShipmentRow, StockRow, BinUnits, NoticeView, ShippedUnits, Act, IsHistory, is_lot, shipments, tables_of, bins_of_lot, card_of_lot, shipments_of_lot, shipped_units, has_shipped_units, is_lot_refl, StockKey, same_stock, stock_key, same_number, itself_number, one_order, AreStockOfLot, same_cell_is, same_cell_refl, rows_read, rows_as, bins_seen, all_bins_shown, notice_with_head, is_of_shipment, units_told, AllTell, AreShipped, shipment_cards, IsNoticeIn, whole, whole_notice_shown, NoticeRows}
use Rattle.queries.proofs.CardOrder.{card_lines_of}
use Rattle.queries.proofs.ShipmentCards.{AreLines, cards_told, lines, units_of}
use Rattle.queries.proofs.ShipmentOrder.{line_of, numbers_small, units_all_told}

module _ (first : ℤ) (acts : List Act) (l : LotId) (history : IsHistory first acts) where
  abbrev t : Tables
  t = tables_of first acts

  -- The shipments

  abbrev IsTold : ShippedUnits → Type 0
  IsTold u = units_told t (line_of first acts l history u) ≡ Some u

  mapped : (rows : List ShipmentRow) → map (line_of first acts l history) (filter has_shipped_units (map (shipped_units first acts l) rows)) ≡ lines l (units_of first l acts) rows
  mapped [] = refl
  mapped (r ∷ rows) = elim (cases_Bool (units_of first l acts r.number == 0)) [
    | inl e ↦ rw e (mapped rows)
    | inr e ↦ rw e (ap (λ (ss : List ShiplineRow). line_of first acts l history (shipped_units first acts l r) ∷ ss) (mapped rows))
  ]

  each_tells : (cs : List CardRow) (us : List ShippedUnits) → AreLines cs (map (line_of first acts l history) us) → AllByRecursion IsTold us → AllByRecursion (λ (u : ShippedUnits). u.number ≤ ACTS_MAX) us → AllTell t cs us
  each_tells [] [] are told small = tt
  each_tells (c ∷ cs) (u ∷ us) are told small = ((line_of first acts l history u, small.0, are.0, told.0), each_tells cs us are.1 told.1 small.1)
  each_tells [] (u ∷ us) are told small = absurd are
  each_tells (c ∷ cs) [] are told small = absurd are

  -- each line of the card that is of a shipment tells of the shipment beside it
  pub all_tell : AllTell t (shipment_cards first acts l) (shipments_of_lot first acts l)
  all_tell =
      each_tells (shipment_cards first acts l) (shipments_of_lot first acts l) (subst (AreLines (shipment_cards first acts l)) (sym (mapped (reverse (shipments first acts)))) (cards_told first l acts history))
      (units_all_told first acts l history) (numbers_small first acts l history)

  shipped : (told : Option (Vec ShippedUnits Global)) → AreShipped l t told → IsSomeAnd told (λ v. v.items ≡ shipments_of_lot first acts l)
  shipped told are =
      let same : are.0 ≡ card_of_lot first acts l =
      one_order nat_eq same_number itself_number (λ n m. n < m) (λ k low. omega arith) (λ i j k p q. omega arith) (λ (c : CardRow). c.act) (t.card l) are.0 (card_of_lot first acts l) are.1 (card_lines_of first acts l) in
      are.2 (shipments_of_lot first acts l) (subst (λ (cs : List CardRow). AllTell t (filter is_of_shipment cs) (shipments_of_lot first acts l)) (sym same) all_tell)

  -- The bins

  pub bins : (stock : List StockRow) → AreStockOfLot l t stock → bins_of_lot first acts l ≡ bins_seen stock l
  unfolding tables_of
  bins stock are =
      all_bins_shown first acts history l (λ k. is_lot l k.0) stock
      (rows_as {K = StockKey} same_stock stock_key same_cell_is same_cell_refl (λ k. is_lot l k.0) (λ k. is_lot l k.0) (λ k. is_lot l k.0) (λ k. true) (λ k. t.stock k.0 k.1) stock (λ k e. e) (λ k e. refl)
      (rows_read {K = StockKey} same_stock stock_key same_cell_is same_cell_refl (λ k. is_lot l k.0) (λ k. t.stock k.0 k.1) stock are))
      (λ b. is_lot_refl l)

  -- The notice

  pub told_by : (rows : NoticeRows) → IsNoticeIn l t (Ok rows) → (v : Vec ShippedUnits Global) → rows.shipments ≡ Some v → (in_bins : List BinUnits) (out : List ShippedUnits) → in_bins ≡ bins_seen rows.stock.items l → out ≡ v.items
      → whole_notice_shown first acts l ≡ Ok (Some (record { item = rows.item; lot = l.lot; expiry = rows.expiry; bins = in_bins; shipments = out }))
  told_by rows are v some in_bins out are_bins are_out =
      let as_shipped : v.items ≡ shipments_of_lot first acts l = subst (λ told. IsSomeAnd told (λ v. v.items ≡ shipments_of_lot first acts l)) some (shipped rows.shipments are.2) in
      ap (whole {V = NoticeView}) (notice_with_head first acts l rows.item rows.expiry are.0)
      ∙ (λ i. Ok (Some (record { item = rows.item; lot = l.lot; expiry = rows.expiry; bins = (bins rows.stock.items are.1 ∙ sym are_bins) i; shipments = (sym as_shipped ∙ sym are_out) i })))

  pub none_missing : (rows : NoticeRows) → IsNoticeIn l t (Ok rows) → rows.shipments ≡ None → ⊥
  none_missing rows are none = subst (λ told. IsSomeAnd told (λ v. v.items ≡ shipments_of_lot first acts l)) none (shipped rows.shipments are.2)
