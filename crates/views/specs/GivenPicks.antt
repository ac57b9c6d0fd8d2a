-- What is picked for an order, from rows.
use Rattle.views.specs.Words.{ℕ, List, find, Option, option_map, same_text, ItemRow, LineRow, OrderRow, LineView, staged_seen, capped, Rows, FoundRows, PickLine, PicksView}
use Rattle.views.specs.Seen.{found_of, line_found, lines_seen}
use Rattle.views.specs.GivenExpiring.{all_found}

-- a line with its item, and with what is staged for it
abbrev pub with_item : ℕ → LineView → ItemRow → PickLine
with_item staged l item = record {
  item = item;
  least = l.least;
  ordered = l.ordered;
  shipped = l.shipped;
  short = l.short;
  staged = staged;
  take = l.reserved;
}

-- the line, where there is a row of its item
abbrev pub pick_line_found : FoundRows → List ItemRow → OrderRow → LineRow → Option PickLine
pick_line_found m items o l = option_map (with_item (capped (staged_seen l.gtin o.order m.staged)) (line_found m o l)) (find (λ i. same_text l.gtin i.gtin) items)

abbrev pub pick_line_seen : Rows → List ItemRow → OrderRow → LineRow → Option PickLine
pick_line_seen rows items o l = pick_line_found (found_of rows) items o l

-- the lines stand by GTIN
abbrev pub picks_seen : Rows → List ItemRow → OrderRow → PicksView
picks_seen rows items o = record {
  customer = o.customer;
  lines = all_found (pick_line_seen rows items o) (lines_seen o.order rows.lines);
  order = o.order;
  state = o.state;
}
