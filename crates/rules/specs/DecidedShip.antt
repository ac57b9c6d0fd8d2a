-- What is decided of the shipping of an order by the rows of its slice: the conditions judged, and the rows changed.
use Rattle.std.specs.Prelude.{◌+◌, ◌-◌, ◌==◌, if◌then◌else◌, ◌∷◌}
use Rattle.rules.specs.Words.{ℕ, min, Bool, not, List, [], map, filter, decimal, Option, Some, None, pos, neg_ℤ, list_any, same_text, UNITS_MAX, UnknownOrder, OrderClosed, NothingStaged, Shipment, Done, MetaRow, OrderRow, LineRow, StagedRow, ShipmentRow, ShiplineRow, CardRow, Judgement, reply_text, ShipmentNumber, capped, number_seen, none_put, none_dropped, lot_units, order_row_seen, sees_order, sees_open, staged_for_seen, lines_seen, staged_seen, Slice, Change}

-- Judging

abbrev pub ship_seen : Slice → List ℕ → Judgement
ship_seen s o =
    (not (sees_order s o), UnknownOrder)
    ∷ (not (sees_open s o), OrderClosed)
    ∷ (staged_for_seen s o == 0, NothingStaged) ∷ []

-- Changing

-- the number of the shipment
abbrev pub shipment_seen : Slice → ℕ
shipment_seen s = capped (s.meta.shipments + 1)

-- the row of `meta` after a shipment
abbrev pub meta_shipped : Slice → MetaRow
meta_shipped s = record { day = s.meta.day; acts = number_seen s; shipments = shipment_seen s }

-- the rows of what is staged for the order, all of which is shipped
abbrev pub rows_shipped : List ℕ → List StagedRow → List StagedRow
rows_shipped o rows = filter (λ r. same_text o r.order) rows

-- a line with what was staged of its item
abbrev pub line_shipped : List StagedRow → LineRow → LineRow
line_shipped staged r = record { order = r.order; gtin = r.gtin; ordered = r.ordered; shipped = capped (r.shipped + capped (staged_seen r.gtin r.order staged)) }

abbrev pub lines_shipped : Slice → List ℕ → List LineRow
lines_shipped s o = map (line_shipped s.rows.staged) (lines_seen s o)

-- not all of the line is shipped
abbrev pub lacks_units : LineRow → Bool
lacks_units r = not (r.shipped == r.ordered)

abbrev pub done_row : OrderRow → OrderRow
done_row r = record { order = r.order; act = r.act; customer = r.customer; state = Done }

-- the order's row, where it is done
abbrev pub order_put : Option OrderRow → Bool → List OrderRow
order_put None lacking = []
order_put (Some r) lacking = if lacking then [] else done_row r ∷ []

abbrev pub shipment_put : Slice → List ℕ → ShipmentRow
shipment_put s o = record { number = shipment_seen s; act = number_seen s; day = s.meta.day; order = o }

abbrev pub shipline : ℕ → StagedRow → ShiplineRow
shipline n r = record { number = n; lot = r.lot; qty = r.qty }

abbrev pub ship_card : Slice → StagedRow → CardRow
ship_card s r = record {
  lot = r.lot;
  act = number_seen s;
  day = s.meta.day;
  kind = Shipment;
  note = decimal (shipment_seen s);
  qty = neg_ℤ (pos (min r.qty UNITS_MAX));
  rest = lot_units r.lot s.rows.stock s.rows.staged - r.qty;
}

abbrev pub ship_reply : Slice → List ℕ
ship_reply s = reply_text (number_seen s) (Some (ShipmentNumber (shipment_seen s)))

abbrev pub ship_changes : Slice → List ℕ → Change
ship_changes s o = record {
  meta = meta_shipped s;
  put = record none_put {
    orders = order_put (order_row_seen s o) (list_any lacks_units (lines_shipped s o));
    lines = lines_shipped s o;
    shipments = shipment_put s o ∷ [];
    shiplines = map (shipline (shipment_seen s)) (rows_shipped o s.rows.staged);
    cards = map (ship_card s) (rows_shipped o s.rows.staged);
  };
  dropped = record none_dropped { stage = Some o };
  text = ship_reply s;
}
