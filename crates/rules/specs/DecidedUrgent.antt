-- What an urgent order changes of the rows of its slice. It is judged as any order is (`DecidedOrder`). Its lines are served
-- before those of all orders that are not urgent, so its items are planned anew.
use Rattle.std.specs.Prelude.{◌-◌, if◌then◌else◌, ◌∷◌, ◌++◌}
use Rattle.rules.specs.Words.{ℕ, List, [], map, flat_map, Some, same_text, total, reply_text, OrderLine, NewOrder, LineRow, UrgentRow, ReservedRow, UnitsShort, capped, number_seen, meta_after, none_put, none_dropped, Rows, Slice, Change, Replanned}
use Rattle.rules.specs.ItemTold.{replanned_to}
use Rattle.rules.specs.DecidedOrder.{new_order_row, new_line_rows}

abbrev pub new_urgent_row : Slice → NewOrder → UrgentRow
new_urgent_row s o = record { order = o.order; act = number_seen s }

-- the lines after the act, and the rows of urgent orders
abbrev pub lines_with : Slice → NewOrder → List LineRow
lines_with s o = new_line_rows o ++ s.rows.lines

abbrev pub urgents_with : Slice → NewOrder → List UrgentRow
urgents_with s o = new_urgent_row s o ∷ s.rows.urgents

abbrev pub rows_after_urgent : Slice → NewOrder → Rows
rows_after_urgent s o = record s.rows { orders = new_order_row s o ∷ s.rows.orders; lines = lines_with s o; urgents = urgents_with s o }

abbrev pub items_ordered : List OrderLine → List (List ℕ)
items_ordered lines = map (λ l. l.gtin) lines

-- what changes of an item's reserved rows
abbrev pub urgent_replanned : Slice → NewOrder → List ℕ → Replanned
urgent_replanned s o g = replanned_to s s.meta.day (rows_after_urgent s o) g

-- and item after item
abbrev pub urgent_put : Slice → NewOrder → List ReservedRow
urgent_put s o = flat_map (λ g. (urgent_replanned s o g).put) (items_ordered o.lines)

abbrev pub urgent_dropped : Slice → NewOrder → List ReservedRow
urgent_dropped s o = flat_map (λ g. (urgent_replanned s o g).dropped) (items_ordered o.lines)

abbrev pub units_ordered : List OrderLine → ℕ
units_ordered lines = capped (total (λ l. l.qty) lines)

-- the units that rows have for an order
abbrev pub units_for : List ℕ → List ReservedRow → ℕ
units_for o rows = capped (total (λ r. if same_text o r.order then r.qty else 0) rows)

-- What the order is short of, where these rows are put: all that is reserved for it is new.
abbrev pub short_with : NewOrder → List ReservedRow → ℕ
short_with o put = units_ordered o.lines - units_for o.order put

abbrev pub urgent_changes : Slice → NewOrder → Change
urgent_changes s o = record {
  meta = meta_after s;
  put = record none_put { orders = new_order_row s o ∷ []; lines = new_line_rows o; urgents = new_urgent_row s o ∷ []; reserved = urgent_put s o };
  dropped = record none_dropped { reserved = urgent_dropped s o };
  text = reply_text (number_seen s) (Some (UnitsShort (short_with o (urgent_put s o))));
}
