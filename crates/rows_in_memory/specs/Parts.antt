-- What slices are made of besides the tables: the names in a command, and which rows count.
use Rattle.std.specs.Prelude.{ℕ, ℤ, Bool, not, ◌&&◌, if◌then◌else◌, List, [], ◌∷◌, ◌++◌, map, filter, Option, Some, None, option_map}
use Rattle.std.specs.Option.{option_to_list}
use Rattle.std.specs.List.{list_any}
use Rattle.values.specs.Values.{same_text}
use Rattle.values.specs.declared.lot.LotId.{LotId}
use Rattle.commands.specs.declared.command.Command.{Command}
use Rattle.commands.specs.declared.names.NamedOrder.{NamedOrder}
use Rattle.commands.specs.declared.names.OrderStep.{OrderStep}
use Rattle.commands.specs.Names.{names_of, is_cancelled}
use Rattle.commands.specs.declared.rows.LeastRow.{LeastRow}
use Rattle.commands.specs.declared.rows.LotRow.{LotRow}
use Rattle.commands.specs.declared.rows.RecallRow.{RecallRow}
use Rattle.commands.specs.declared.rows.StockRow.{StockRow}
use Rattle.commands.specs.declared.rows.OrderRow.{OrderRow}
use Rattle.commands.specs.declared.rows.UrgentRow.{UrgentRow}
use Rattle.commands.specs.declared.rows.LineRow.{LineRow}
use Rattle.commands.specs.declared.rows.StagedRow.{StagedRow}
use Rattle.machine.specs.Postings.{is_lot}
use Rattle.row_rules.specs.Seen.{has_recall}
use Rattle.row_rules.specs.Status.{may_ship, earliest_seen}
use Rattle.rows_in_memory.specs.Keys.{with_keys}

-- Names

-- the text is one of these
abbrev pub is_among : List (List ℕ) → List ℕ → Bool
is_among xs x = list_any (same_text x) xs

-- the names with one more, if it is new
abbrev pub with_name : List ℕ → List (List ℕ) → List (List ℕ)
with_name x xs = if is_among xs x then xs else xs ++ x ∷ []

-- and with those of each element
abbrev pub with_names : {X : Type 0} → (X → List ℕ) → List X → List (List ℕ) → List (List ℕ)
with_names name [] xs = xs
with_names name (r ∷ rs) xs = with_names name rs (with_name (name r) xs)

-- and with one that may be there
abbrev pub with_some : Option (List ℕ) → List (List ℕ) → List (List ℕ)
with_some None xs = xs
with_some (Some x) xs = with_name x xs

-- what a command names, each once
abbrev pub items_named : Command → List (List ℕ)
items_named command = with_names (λ l. l.gtin) (names_of command).lines (option_to_list (names_of command).item)

abbrev pub bins_named : Command → List (List ℕ)
bins_named command = with_some (names_of command).other_bin (with_some (names_of command).bin [])

abbrev pub lots_named : Command → List LotId
lots_named command = option_to_list (names_of command).lot

abbrev pub orders_named : Command → List (List ℕ)
orders_named command = option_to_list (option_map (λ n. n.order) (names_of command).order)

-- the order that is named, where this is done with it
abbrev pub order_where : (OrderStep → Bool) → Option NamedOrder → Option (List ℕ)
order_where is_done None = None
order_where is_done (Some n) = if is_done n.step then Some n.order else None

-- the order that a command takes whole, since it cancels it: it touches the item of each of its lines
abbrev pub whole_orders : Command → List (List ℕ)
whole_orders command = option_to_list (order_where is_cancelled (names_of command).order)

-- Orders and lines

-- the orders that are not named, and those that have one of the lines
abbrev pub others : List (List ℕ) → List OrderRow → List OrderRow
others named order_rows = filter (λ r. not (is_among named r.order)) order_rows

-- those of these names
abbrev pub other_names : List (List ℕ) → List (List ℕ) → List (List ℕ)
other_names named orders = filter (λ o. not (is_among named o)) orders

abbrev pub has_line_in : List LineRow → List ℕ → Bool
has_line_in line_rows o = list_any (λ l. same_text o l.order) line_rows

abbrev pub with_lines : List LineRow → List OrderRow → List OrderRow
with_lines line_rows order_rows = filter (λ r. has_line_in line_rows r.order) order_rows

-- Urgent orders

-- one of the rows of urgent orders is the order's
abbrev pub has_urgent_row : List UrgentRow → List ℕ → Bool
has_urgent_row urgent_rows o = list_any (λ u. same_text o u.order) urgent_rows

-- the lines of urgent orders
abbrev pub urgent_lines : List UrgentRow → List LineRow → List LineRow
urgent_lines urgent_rows line_rows = filter (λ l. has_urgent_row urgent_rows l.order) line_rows

-- the names of these that orders of the rows have
abbrev pub names_among : List (List ℕ) → List OrderRow → List (List ℕ)
names_among names order_rows = map (λ r. r.order) (filter (λ r. is_among names r.order) order_rows)

-- Lots

-- those that a command names and those with units in bins or on stages, each once
abbrev pub held_lots : Command → List StockRow → List StagedRow → List LotId
held_lots command stock_rows staged_rows = with_keys is_lot (λ r. r.lot) staged_rows (with_keys is_lot (λ r. r.lot) stock_rows (with_keys is_lot (λ l. l) (lots_named command) []))

-- those with units on the stage of an order, each once
abbrev pub lots_on_stage : List ℕ → List StagedRow → List LotId
lots_on_stage order staged_rows = with_keys is_lot (λ r. r.lot) (filter (λ r. same_text r.order order) staged_rows) []

-- Openings of a day

-- a lot that may be shipped on the old day and no more on the new one, its recalls aside
abbrev pub is_ending : ℤ → ℤ → List LeastRow → LotRow → Bool
is_ending old new least r = may_ship (earliest_seen old least r.lot.gtin) [] r && not (may_ship (earliest_seen new least r.lot.gtin) [] r)

abbrev pub not_recalled : List RecallRow → List LotRow → List LotRow
not_recalled recall_rows lot_rows = filter (λ r. not (has_recall recall_rows r.lot)) lot_rows

-- the items of lots and of staged units, each once
abbrev pub items_of_lots : List LotRow → List (List ℕ)
items_of_lots lot_rows = with_names (λ r. r.lot.gtin) lot_rows []

abbrev pub with_staged : List StagedRow → List (List ℕ) → List (List ℕ)
with_staged staged_rows gtins = with_names (λ r. r.lot.gtin) staged_rows gtins
