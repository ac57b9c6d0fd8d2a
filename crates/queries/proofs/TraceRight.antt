-- What is read of the tables of a history are the rows by which the trace of a lot is shown.
use Rattle.queries.proofs.Words.{◌≡◌, ◌≤◌, ◌<◌, ℕ, true, List, [], ◌∷◌, filter, Global, refl, ap, sym, ◌∙◌, subst, arith, ℤ, nat_eq, Option, Some, None, option_map, IsSomeAnd, Ok, Vec, length, same_Some, same_text, LotId, Tables, CardRow, ItemRow, LeastRow, LotRow, MetaRow, OrderRow, RecallRow, StagedRow, ShippedUnits, Act, IsHistory, is_lot, KnownLot, lots, lot_known, today, tables_of, meta_row, item_row, if_known, card_of_lot, shipments_of_lot, bins_of_lot, is_lot_is, is_lot_refl, is_lot_turned, same_text_refl, found_key, bins_seen, same_number, itself_number, one_order, ItemKey, same_item, least_key, LotKey, same_lot, recall_key, same_text_is, rows_read, rows_as, Rows, is_of_shipment, AreTold, AllTell, AreCardLines, ACTS_MAX, Result, Err, Refusal}
use Rattle.std.specs.Prelude.{◌*◌}
use Rattle.values.specs.Values.{QTY_MAX}
use Rattle.commands.specs.declared.refusal.Refusal.TheVariants.{UnknownItem, UnknownLot}
use Rattle.commands.specs.declared.rows.CardKind.{CardKind}
use Rattle.commands.specs.declared.rows.CardKind.TheVariants.{Receipt, WriteOn, WriteOff}
use Rattle.machine.specs.Views.{lot_status}
use Rattle.row_rules.specs.Seen.{capped}
use Rattle.row_rules.specs.Plans.{inserted}
use Rattle.row_rules.specs.Status.{status_seen, least_seen}
use Rattle.views.proofs.LotsShown.{shown_lot}
use Rattle.views.proofs.StockTold.{status_told}
use Rattle.overviews.specs.Traces.{deliveries, stages_of_lot, trace_view, units_of_kind}
use Rattle.overviews.specs.declared.trace.Delivery.{Delivery}
use Rattle.overviews.specs.declared.trace.StagedUnits.{StagedUnits}
use Rattle.overviews.specs.declared.trace.TraceView.{TraceView}
use Rattle.overviews.proofs.TraceBounds.{units_bounded}
use Rattle.overviews.proofs.DeliveryCards.{AreReceipts, deliveries_told}
use Rattle.queries.specs.Telling.{EachTells, AreToldOf}
use Rattle.queries.specs.ShownNotice.{whole}
use Rattle.queries.specs.Traced.{IsDelivery, IsStaged, is_receipt, order_before, trace_head_of, trace_head_in, AreStages, AreStanding, AreOfTrace, whole_trace_shown}
use Rattle.queries.specs.declared.shown_trace.TraceRows.{TraceRows}
use Rattle.queries.proofs.CardOrder.{card_lines_of}
use Rattle.queries.proofs.NoticeRight.{bins, all_tell}
use Rattle.queries.proofs.ShipmentOrder.{acts_within}
use Rattle.queries.proofs.StagesTold.{stages_right}

each_receipt : (cs : List CardRow) (ds : List Delivery) → AreReceipts cs ds → EachTells IsDelivery cs ds
each_receipt [] [] are = tt
each_receipt (c ∷ cs) (d ∷ ds) are = (are.0, each_receipt cs ds are.1)
each_receipt [] (d ∷ ds) are = absurd are
each_receipt (c ∷ cs) [] are = absurd are

-- what is within the bound is not cut off
uncut : (n most : ℕ) → n ≤ QTY_MAX * most → most ≤ ACTS_MAX → capped n ≡ n
uncut n most less few = omega arith

module _ (first : ℤ) (acts : List Act) (l : LotId) (history : IsHistory first acts) where
  abbrev t : Tables
  t = tables_of first acts

  -- The lot

  abbrev IsLot : ItemRow → LotRow → KnownLot → Type 0
  IsLot item row k = (item_row acts l.gtin ≡ Some item) × (lot_known acts l ≡ Some k) × (shown_lot acts k ≡ row) × (l ≡ k.lot)

  known_by : (x : Option ItemRow) (y : Option KnownLot) (item : ItemRow) (row : LotRow) → item_row acts l.gtin ≡ x → lot_known acts l ≡ y → Ok (item, row) ≡ trace_head_of x (option_map (shown_lot acts) y) → (k : KnownLot) × IsLot item row k
  known_by None y item row own is e = absurd cc
  known_by (Some i) None item row own is e = absurd cc
  known_by (Some i) (Some k) item row own is e =
      let same_item : i ≡ item = sym (ap (λ (x : Result (ItemRow × LotRow) Refusal). item_in x item) e) in
      let same_row : shown_lot acts k ≡ row = sym (ap (λ (x : Result (ItemRow × LotRow) Refusal). row_in x row) e) in
      (k, (own ∙ ap Some same_item, is, same_row, found_key is_lot is_lot_is is_lot_turned (λ (m : KnownLot). m.lot) l (lots acts) k is))
    where
      item_in : Result (ItemRow × LotRow) Refusal → ItemRow → ItemRow
      item_in (Ok h) none = h.0
      item_in (Err why) none = none

      row_in : Result (ItemRow × LotRow) Refusal → LotRow → LotRow
      row_in (Ok h) none = h.1
      row_in (Err why) none = none

  known : (item : ItemRow) (row : LotRow) → Ok (item, row) ≡ trace_head_in t l → (k : KnownLot) × IsLot item row k
  unfolding tables_of
  known item row e = known_by (item_row acts l.gtin) (lot_known acts l) item row refl refl e

  -- The card

  same_card : (cards : List CardRow) → AreCardLines t l cards → cards ≡ card_of_lot first acts l
  same_card cards are =
      one_order nat_eq same_number itself_number (λ n m. n < m) (λ k low. omega arith) (λ i j k p q. omega arith) (λ (c : CardRow). c.act) (t.card l) cards (card_of_lot first acts l) are (card_lines_of first acts l)

  of_kind : (kind : CardKind) (cards : List CardRow) → cards ≡ card_of_lot first acts l → units_of_kind kind (card_of_lot first acts l) ≤ QTY_MAX * length acts → capped (units_of_kind kind cards) ≡ units_of_kind kind (card_of_lot first acts l)
  of_kind kind cards same few = ap (λ (cs : List CardRow). capped (units_of_kind kind cs)) same ∙ uncut (units_of_kind kind (card_of_lot first acts l)) (length acts) few (acts_within first acts history)

  came : (cards : List CardRow) → cards ≡ card_of_lot first acts l → (told : Option (Vec Delivery Global)) → AreToldOf IsDelivery (filter is_receipt cards) told → IsSomeAnd told (λ v. v.items ≡ deliveries first acts l)
  came cards same told are =
      are (deliveries first acts l) (subst (λ (cs : List CardRow). EachTells IsDelivery (filter is_receipt cs) (deliveries first acts l)) (sym same) (each_receipt (filter is_receipt (card_of_lot first acts l)) (deliveries first acts l) (deliveries_told first l acts history)))

  went : (cards : List CardRow) → cards ≡ card_of_lot first acts l → (told : Option (Vec ShippedUnits Global)) → AreTold t (filter is_of_shipment cards) told → IsSomeAnd told (λ v. v.items ≡ shipments_of_lot first acts l)
  went cards same told are =
      are (shipments_of_lot first acts l) (subst (λ (cs : List CardRow). AllTell t (filter is_of_shipment cs) (shipments_of_lot first acts l)) (sym same) (all_tell first acts l history))

  stands : (staged : List StagedRow) (order_rows : List OrderRow) → AreStages l t staged order_rows → (told : Option (Vec StagedUnits Global)) → AreToldOf (IsStaged order_rows) (inserted order_before [] staged) told
      → IsSomeAnd told (λ v. v.items ≡ stages_of_lot first acts l)
  stands staged order_rows are told by = by (stages_of_lot first acts l) (stages_right first acts history l staged order_rows are)

  -- How it stands

  abbrev rows_of : List LeastRow → List RecallRow → Rows
  rows_of least recalls = record { items = []; least = least; bins = []; lots = []; recalls = recalls; stock = []; orders = []; urgents = []; lines = []; staged = []; reserved = [] }

  status : (meta : MetaRow) (least : List LeastRow) (recalls : List RecallRow) → AreStanding l.gtin t meta least recalls → (k : KnownLot) → l ≡ k.lot → lot_status first acts k ≡ status_seen (today first acts) (least_seen least l.gtin) recalls (shown_lot acts k)
  unfolding tables_of
  status meta least recalls are k own =
      let least_are = rows_as {K = ItemKey} same_item least_key same_text_is same_text_refl (λ g. same_text l.gtin g) (λ g. same_text l.gtin g) (λ g. same_text l.gtin g) (λ g. true) t.least least (λ g e. e) (λ g e. refl)
      (rows_read {K = ItemKey} same_item least_key same_text_is same_text_refl (λ g. same_text l.gtin g) t.least least are.asked) in
      let recalls_are = rows_as {K = LotKey} same_lot recall_key is_lot_is is_lot_refl (λ m. same_text l.gtin m.gtin) (λ m. same_text l.gtin m.gtin) (λ m. same_text l.gtin m.gtin) (λ m. true) t.recall recalls (λ m e. e) (λ m e. refl)
      (rows_read {K = LotKey} same_lot recall_key is_lot_is is_lot_refl (λ m. same_text l.gtin m.gtin) t.recall recalls are.recalled) in
      status_told first acts history l.gtin (rows_of least recalls) (least_are.found l.gtin (same_text_refl l.gtin)) (λ m. same_text l.gtin m.gtin) recalls_are (λ m e. e) k (ap (λ (m : LotId). same_text l.gtin m.gtin) (sym own) ∙ same_text_refl l.gtin)

  counted : (meta : MetaRow) → t.meta ≡ Some meta → length acts ≡ meta.acts
  unfolding tables_of
  counted meta is = ap (λ (r : MetaRow). r.acts) (same_Some (meta_row first acts) meta is)

  -- The trace

  abbrev view_of : ItemRow → KnownLot → TraceView
  view_of item k = trace_view first acts item k

  pub shown_as : (item : ItemRow) (row : LotRow) (k : KnownLot) → IsLot item row k → whole_trace_shown first acts l ≡ Ok (Some (trace_view first acts item k))
  shown_as item row k is =
      ap (λ x. whole {V = TraceView} (if_known x UnknownItem (λ i. if_known (lot_known acts l) UnknownLot (λ m. Ok (trace_view first acts i m))))) is.0
      ∙ ap (λ y. whole {V = TraceView} (if_known y UnknownLot (λ m. Ok (trace_view first acts item m)))) is.1

  -- what the code makes of the rows
  pub record IsMade (rows : TraceRows) (v : TraceView) : Type 0 where
    pub act : v.act ≡ rows.meta.acts
    pub bins : v.bins ≡ bins_seen rows.stock.items l
    pub came : (told : Option (Vec Delivery Global)) × AreToldOf IsDelivery (filter is_receipt rows.cards.items) told × IsSomeAnd told (λ w. v.deliveries ≡ w.items)
    pub expiry : v.expiry ≡ rows.lot.expiry
    pub item : v.item ≡ rows.item
    pub lot : v.lot ≡ l.lot
    pub off : v.off ≡ capped (units_of_kind WriteOff rows.cards.items)
    pub on : v.on ≡ capped (units_of_kind WriteOn rows.cards.items)
    pub received : v.received ≡ capped (units_of_kind Receipt rows.cards.items)
    pub went : IsSomeAnd rows.shipments (λ w. v.shipments ≡ w.items)
    pub stands : (told : Option (Vec StagedUnits Global)) × AreToldOf (IsStaged rows.orders.items) (inserted order_before [] rows.staged.items) told × IsSomeAnd told (λ w. v.staged ≡ w.items)
    pub status : v.status ≡ status_seen (today first acts) (least_seen rows.least.items l.gtin) rows.recalls.items rows.lot

  both_are : {X : Type 0} (told : Option (Vec X Global)) (xs ys : List X) → IsSomeAnd told (λ w. xs ≡ w.items) → IsSomeAnd told (λ w. w.items ≡ ys) → xs ≡ ys
  both_are None xs ys one two = absurd one
  both_are (Some w) xs ys one two = one ∙ two

  pub trace_right : (rows : TraceRows) → AreOfTrace l t rows → (v : TraceView) → IsMade rows v → whole_trace_shown first acts l ≡ Ok (Some v)
  trace_right rows are v made =
      let lot = known rows.item rows.lot are.head in
      let k = lot.0 in
      let own : l ≡ k.lot = lot.1.3 in
      let row : shown_lot acts k ≡ rows.lot = lot.1.2 in
      let same = same_card rows.cards.items are.past.0 in
      let bound = units_bounded first acts l history in
      let item : rows.item ≡ v.item = sym made.item in
      let is_act = counted rows.meta are.standing.is_meta ∙ sym made.act in
      let is_bins = bins first acts l history rows.stock.items are.stock ∙ sym made.bins in
      let is_deliveries = sym (both_are made.came.0 v.deliveries (deliveries first acts l) made.came.2 (came rows.cards.items same made.came.0 made.came.1)) in
      let is_expiry = ap (λ (r : LotRow). r.expiry) row ∙ sym made.expiry in
      let is_lot : k.lot.lot ≡ v.lot = ap (λ (m : LotId). m.lot) (sym own) ∙ sym made.lot in
      let is_off = sym (made.off ∙ of_kind WriteOff rows.cards.items same bound.off) in
      let is_on = sym (made.on ∙ of_kind WriteOn rows.cards.items same bound.on) in
      let is_received = sym (made.received ∙ of_kind Receipt rows.cards.items same bound.received) in
      let is_shipments = sym (both_are rows.shipments v.shipments (shipments_of_lot first acts l) made.went (went rows.cards.items same rows.shipments are.past.1)) in
      let is_staged = sym (both_are made.stands.0 v.staged (stages_of_lot first acts l) made.stands.2 (stands rows.staged.items rows.orders.items are.stages made.stands.0 made.stands.1)) in
      let is_status = status rows.meta rows.least.items rows.recalls.items are.standing k own ∙ ap (status_seen (today first acts) (least_seen rows.least.items l.gtin) rows.recalls.items) row ∙ sym made.status in
      shown_as rows.item rows.lot k lot.1
      ∙ ap (λ (m : LotId). Ok (Some (record (trace_view first acts rows.item k) { bins = bins_of_lot first acts m; deliveries = deliveries first acts m; off = units_of_kind WriteOff (card_of_lot first acts m); on = units_of_kind WriteOn (card_of_lot first acts m); received = units_of_kind Receipt (card_of_lot first acts m); shipments = shipments_of_lot first acts m; staged = stages_of_lot first acts m }))) (sym own)
      ∙ (λ i. Ok (Some (record { act = is_act i; bins = is_bins i; deliveries = is_deliveries i; expiry = is_expiry i; item = item i; lot = is_lot i; off = is_off i; on = is_on i; received = is_received i; shipments = is_shipments i; staged = is_staged i; status = is_status i })))

  -- and nothing that they refer to is missing

  pub none_came : (rows : TraceRows) → AreOfTrace l t rows → (told : Option (Vec Delivery Global)) → AreToldOf IsDelivery (filter is_receipt rows.cards.items) told → told ≡ None → ⊥
  none_came rows are told is none = subst (λ (x : Option (Vec Delivery Global)). IsSomeAnd x (λ v. v.items ≡ deliveries first acts l)) none (came rows.cards.items (same_card rows.cards.items are.past.0) told is)

  pub none_went : (rows : TraceRows) → AreOfTrace l t rows → rows.shipments ≡ None → ⊥
  none_went rows are none = subst (λ (x : Option (Vec ShippedUnits Global)). IsSomeAnd x (λ v. v.items ≡ shipments_of_lot first acts l)) none (went rows.cards.items (same_card rows.cards.items are.past.0) rows.shipments are.past.1)

  pub none_stands : (rows : TraceRows) → AreOfTrace l t rows → (told : Option (Vec StagedUnits Global)) → AreToldOf (IsStaged rows.orders.items) (inserted order_before [] rows.staged.items) told → told ≡ None → ⊥
  none_stands rows are told is none = subst (λ (x : Option (Vec StagedUnits Global)). IsSomeAnd x (λ v. v.items ≡ stages_of_lot first acts l)) none (stands rows.staged.items rows.orders.items are.stages told is)

-- what is there has these items
pub some_items : {X : Type 0} (told : Option (Vec X Global)) (w : Vec X Global) (xs : List X) → told ≡ Some w → xs ≡ w.items → IsSomeAnd told (λ v. xs ≡ v.items)
some_items told w xs is same = subst (λ (o : Option (Vec _ Global)). IsSomeAnd o (λ v. xs ≡ v.items)) (sym is) same
