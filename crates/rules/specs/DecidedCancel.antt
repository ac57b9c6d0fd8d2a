-- What is decided of the cancelling of an order by the rows of its slice: the conditions judged, and the rows changed.
use Rattle.std.specs.Prelude.{◌==◌, ◌∷◌}
use Rattle.rules.specs.Words.{ℕ, not, List, [], filter, flat_map, Option, Some, None, same_text, UnknownOrder, OrderClosed, StillStaged, Cancelled, OrderRow, ReservedRow, Judgement, meta_after, plain_reply, none_put, none_dropped, order_row_seen, sees_order, sees_open, staged_for_seen, items_seen, Rows, Slice, Change, Replanned}
use Rattle.rules.specs.ItemTold.{replanned_to}

-- Judging

abbrev pub cancel_seen : Slice → List ℕ → Judgement
cancel_seen s o =
    (not (sees_order s o), UnknownOrder)
    ∷ (not (sees_open s o), OrderClosed)
    ∷ (not (staged_for_seen s o == 0), StillStaged) ∷ []

-- Changing

abbrev pub cancelled_row : Option OrderRow → List OrderRow
cancelled_row None = []
cancelled_row (Some r) = record { order = r.order; act = r.act; customer = r.customer; state = Cancelled } ∷ []

-- the other orders: only these want units after the act
abbrev pub other_orders : Slice → List ℕ → List OrderRow
other_orders s o = filter (λ r. not (same_text o r.order)) s.rows.orders

abbrev pub rows_after_cancel : Slice → List ℕ → Rows
rows_after_cancel s o = record s.rows { orders = other_orders s o }

-- what changes of an item's reserved rows
abbrev pub cancel_replanned : Slice → List ℕ → List ℕ → Replanned
cancel_replanned s o g = replanned_to s s.meta.day (rows_after_cancel s o) g

-- and item after item
abbrev pub cancel_put : Slice → List ℕ → List ReservedRow
cancel_put s o = flat_map (λ g. (cancel_replanned s o g).put) (items_seen s o)

abbrev pub cancel_dropped : Slice → List ℕ → List ReservedRow
cancel_dropped s o = flat_map (λ g. (cancel_replanned s o g).dropped) (items_seen s o)

abbrev pub cancel_changes : Slice → List ℕ → Change
cancel_changes s o = record {
  meta = meta_after s;
  put = record none_put { orders = cancelled_row (order_row_seen s o); reserved = cancel_put s o };
  dropped = record none_dropped { reserved = cancel_dropped s o };
  text = plain_reply s;
}
