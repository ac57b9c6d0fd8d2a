-- What a decision reads of an order in the rows of its slice.
use Rattle.std.specs.Prelude.{ℕ, Bool, false, ◌&&◌, if◌then◌else◌, List, find, filter, map, Option, Some, None, is_some}
use Rattle.row_rules.specs.Words.{same_text, total, OrderRow, LineRow, StagedRow, is_open_state}
use Rattle.row_rules.specs.Seen.{capped}
use Rattle.row_rules.specs.declared.slice.Slice.{Slice}

abbrev pub order_row_seen : Slice → List ℕ → Option OrderRow
order_row_seen s o = find (λ r. same_text o r.order) s.rows.orders

abbrev pub sees_order : Slice → List ℕ → Bool
sees_order s o = is_some (order_row_seen s o)

abbrev pub is_open_row : Option OrderRow → Bool
is_open_row None = false
is_open_row (Some r) = is_open_state r.state

-- the slice has the order, and it is open
abbrev pub sees_open : Slice → List ℕ → Bool
sees_open s o = is_open_row (order_row_seen s o)

abbrev pub line_row_seen : Slice → List ℕ → List ℕ → Option LineRow
line_row_seen s o g = find (λ l. same_text o l.order && same_text g l.gtin) s.rows.lines

-- the order has a line of the item
abbrev pub sees_line : Slice → List ℕ → List ℕ → Bool
sees_line s o g = is_some (line_row_seen s o g)

-- the units that rows have staged for an order
abbrev pub staged_for : List ℕ → List StagedRow → ℕ
staged_for o rows = total (λ r. if same_text o r.order then r.qty else 0) rows

abbrev pub staged_for_seen : Slice → List ℕ → ℕ
staged_for_seen s o = capped (staged_for o s.rows.staged)

-- the line rows of an order, and the items of these
abbrev pub lines_seen : Slice → List ℕ → List LineRow
lines_seen s o = filter (λ l. same_text o l.order) s.rows.lines

abbrev pub items_seen : Slice → List ℕ → List (List ℕ)
items_seen s o = map (λ l. l.gtin) (lines_seen s o)
