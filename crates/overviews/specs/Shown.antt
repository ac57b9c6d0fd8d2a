-- What these queries are answered: a view, or the first refusal. The last one that was seen has to be known; it may be closed, or have no units any more.
use Rattle.std.specs.Prelude.{ℕ, List, length, Option, Some, None, Result, Ok, ℤ}
use Rattle.values.specs.declared.lot.LotId.{LotId}
use Rattle.commands.specs.declared.refusal.Refusal.{Refusal}
use Rattle.commands.specs.declared.refusal.Refusal.TheVariants.{UnknownBin, UnknownItem, UnknownLot, UnknownOrder}
use Rattle.overviews.specs.declared.lists.BooksView.{BooksView}
use Rattle.overviews.specs.declared.lists.OpenOrdersView.{OpenOrdersView}
use Rattle.overviews.specs.declared.lists.ItemNamesView.{ItemNamesView}
use Rattle.overviews.specs.declared.lists.ExpiringView.{ExpiringView}
use Rattle.overviews.specs.declared.lists.BinView.{BinView}
use Rattle.overviews.specs.declared.trace.TraceView.{TraceView}
use Rattle.machine.specs.Acts.{Act}
use Rattle.machine.specs.Standing.{bin_named, item_named, lot_known, order_named, today}
use Rattle.machine.specs.Queries.{if_known}
use Rattle.machine.specs.Tables.{item_row}
use Rattle.overviews.specs.Pages.{open_orders_view, item_names_view, expiring_view, bin_view}
use Rattle.overviews.specs.Traces.{trace_view}

-- never refused
abbrev pub books_shown : ℤ → List Act → Result BooksView Refusal
books_shown first acts = Ok (record { act = length acts; day = today first acts })

abbrev pub open_orders_shown : ℤ → List Act → Option (List ℕ) → Result OpenOrdersView Refusal
open_orders_shown first acts None = Ok (open_orders_view first acts None)
open_orders_shown first acts (Some o) = if_known (order_named acts o) UnknownOrder (λ p. Ok (open_orders_view first acts (Some p)))

abbrev pub item_names_shown : List Act → Option (List ℕ) → Result ItemNamesView Refusal
item_names_shown acts None = Ok (item_names_view acts None)
item_names_shown acts (Some g) = if_known (item_named acts g) UnknownItem (λ i. Ok (item_names_view acts (Some i)))

abbrev pub expiring_shown : ℤ → List Act → ℤ → Option LotId → Result ExpiringView Refusal
expiring_shown first acts day None = Ok (expiring_view first acts day None)
expiring_shown first acts day (Some l) = if_known (lot_known acts l) UnknownLot (λ k. Ok (expiring_view first acts day (Some k)))

abbrev pub bin_shown : ℤ → List Act → List ℕ → Option LotId → Result BinView Refusal
bin_shown first acts b None = if_known (bin_named acts b) UnknownBin (λ bin. Ok (bin_view first acts bin None))
bin_shown first acts b (Some l) =
    if_known (bin_named acts b) UnknownBin (λ bin. if_known (lot_known acts l) UnknownLot (λ k. Ok (bin_view first acts bin (Some k))))

-- of every lot that ever came, recalled or not
abbrev pub trace_shown : ℤ → List Act → LotId → Result TraceView Refusal
trace_shown first acts l = if_known (item_row acts l.gtin) UnknownItem (λ item. if_known (lot_known acts l) UnknownLot (λ k. Ok (trace_view first acts item k)))
