-- What is decided of an order by the rows of its slice: the conditions judged, urgent or not, and the rows changed where it is not.
use Rattle.std.specs.Prelude.{◌+◌, ◌∷◌}
use Rattle.rules.specs.Words.{ℕ, Bool, not, nat_lt, List, [], map, flat_map, Some, list_any, total, OPEN_MAX, UnknownItem, OrderExists, ItemTwice, OverOrdered, OrderLine, NewOrder, Open, OrderRow, LineRow, ReservedRow, Judgement, names_item_twice, reply_text, UnitsShort, capped, sees_item, number_seen, meta_after, none_put, none_dropped, sees_order, Slice, Change}
use Rattle.rules.specs.Booked.{open_units_seen, line_put, line_short}

-- Judging

-- one of the lines is of an item that the slice does not have
abbrev pub misses_item : Slice → List OrderLine → Bool
misses_item s lines = list_any (λ l. not (sees_item s l.gtin)) lines

-- with one of the lines more units of its item would be ordered than the limit
abbrev pub orders_too_much : Slice → List OrderLine → Bool
orders_too_much s lines = list_any (λ l. nat_lt OPEN_MAX (capped (open_units_seen s l.gtin + l.qty))) lines

abbrev pub order_seen : Slice → NewOrder → Judgement
order_seen s o =
    (misses_item s o.lines, UnknownItem)
    ∷ (sees_order s o.order, OrderExists)
    ∷ (names_item_twice o.lines, ItemTwice)
    ∷ (orders_too_much s o.lines, OverOrdered) ∷ []

-- Changing

abbrev pub new_order_row : Slice → NewOrder → OrderRow
new_order_row s o = record { order = o.order; act = number_seen s; customer = o.customer; state = Open }

abbrev pub new_line_rows : NewOrder → List LineRow
new_line_rows o = map (λ l. record { order = o.order; gtin = l.gtin; ordered = l.qty; shipped = 0 }) o.lines

-- the rows that the order reserves, line by line; no other row changes
abbrev pub order_rows_to_put : Slice → NewOrder → List OrderLine → List ReservedRow
order_rows_to_put s o lines = flat_map (line_put s (new_order_row s o)) lines

-- what the lines are short of together
abbrev pub short_seen : Slice → List OrderLine → ℕ
short_seen s lines = capped (total (line_short s) lines)

abbrev pub order_reply : Slice → NewOrder → List ℕ
order_reply s o = reply_text (number_seen s) (Some (UnitsShort (short_seen s o.lines)))

abbrev pub order_changes : Slice → NewOrder → Change
order_changes s o = record {
  meta = meta_after s;
  put = record none_put { orders = new_order_row s o ∷ []; lines = new_line_rows o; reserved = order_rows_to_put s o o.lines };
  dropped = none_dropped;
  text = order_reply s o;
}
