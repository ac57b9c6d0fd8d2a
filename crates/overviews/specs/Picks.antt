-- The pick list of an order: its lines with the names of their items, and what to take from which bins.
use Rattle.std.specs.Prelude.{ℕ, List, map, Result, Ok, ℤ}
use Rattle.commands.specs.Lists.{in_order}
use Rattle.commands.specs.declared.command.OrderLine.{OrderLine}
use Rattle.commands.specs.declared.refusal.Refusal.{Refusal}
use Rattle.commands.specs.declared.refusal.Refusal.TheVariants.{UnknownOrder}
use Rattle.overviews.specs.declared.picks.PickLine.{PickLine}
use Rattle.overviews.specs.declared.picks.PicksView.{PicksView}
use Rattle.machine.specs.Acts.{Act}
use Rattle.machine.specs.Standing.{Placed, least_days, order_named}
use Rattle.machine.specs.Planning.{item_postings, order_state, shipped_of, staged}
use Rattle.machine.specs.Queries.{if_known}
use Rattle.machine.specs.Views.{reserved_lots, short_of_line, text_before}
use Rattle.overviews.specs.Pages.{item_of}

-- a line of the order: what is staged for it, and what is reserved, which is to be taken
abbrev pub pick_line : ℤ → List Act → List ℕ → OrderLine → PickLine
pick_line first acts o l = record {
  item = item_of acts l.gtin;
  least = least_days acts l.gtin;
  ordered = l.qty;
  shipped = shipped_of first acts o l.gtin;
  short = short_of_line first acts o l.gtin;
  staged = staged (item_postings first acts l.gtin) o l.gtin;
  take = reserved_lots first acts o l.gtin;
}

-- lines in the order of their items
abbrev pub picks_view : ℤ → List Act → Placed → PicksView
picks_view first acts p = record {
  customer = p.customer;
  lines = map (pick_line first acts p.order) (in_order (λ l m. text_before l.gtin m.gtin) p.lines);
  order = p.order;
  state = order_state first acts p.order;
}

abbrev pub picks_shown : ℤ → List Act → List ℕ → Result PicksView Refusal
picks_shown first acts o = if_known (order_named acts o) UnknownOrder (λ p. Ok (picks_view first acts p))
