-- What is read of the tables of a history are the rows by which the pick list is shown.
use Rattle.queries.proofs.Words.{◌≡◌, ℕ, Vec, Global, true, List, [], refl, ap, ◌∙◌, Option, Some, ℤ, Ok, list_any, same_text, ItemRow, LineRow, OrderRow, ItemKey, same_item, item_key, Act, Placed, order_named, lines_placed, tables_of, Rows, same_text_is, same_text_refl, with_names, rows_as, among_names, once_names, sought, line_items, orders_item, AreLineItems, AreOfPicks, ArePicksIn}
use Rattle.queries.proofs.OrderRight.{IsOrderRead, order_right}

module _ (first : ℤ) (acts : List Act) (order : List ℕ) (p : Placed) (named : order_named acts order ≡ Some p) (rows : Rows) (items : List ItemRow) (are : AreOfPicks order (tables_of first acts) rows items) where
  -- the items, by the lines of which they are taken
  item_there : (g : List ℕ) → orders_item p g ≡ true → list_any (λ (r : LineRow). same_text g r.gtin) rows.lines ≡ true
  item_there g e = line_items first acts order rows.lines are.of_order.lines g ∙ ap (λ (x : Option Placed). list_any (λ l. same_text g l.gtin) (lines_placed x)) named ∙ e

  pub items_right : AreLineItems acts p items
  unfolding tables_of
  items_right =
      rows_as {K = ItemKey} same_item item_key same_text_is same_text_refl (λ g. list_any (λ (r : LineRow). same_text g r.gtin) rows.lines) (λ g. list_any (λ (r : LineRow). same_text g r.gtin) rows.lines) (λ g. orders_item p g) (λ g. true) (tables_of first acts).item items
      item_there (λ g e. refl)
      (sought {K = ItemKey} same_item item_key same_text_is same_text_refl (λ k. k) (tables_of first acts).item (with_names (λ (r : LineRow). r.gtin) rows.lines []) (λ g. list_any (λ (r : LineRow). same_text g r.gtin) rows.lines) items
      (once_names (λ (r : LineRow). r.gtin) rows.lines [] refl) (λ g. among_names (λ (r : LineRow). r.gtin) rows.lines [] g) are.named)

-- the order, the rows by which it is shown, and the items of its lines
pub record ArePicksRead (first : ℤ) (acts : List Act) (order : List ℕ) (row : OrderRow) (rows : Rows) (items : List ItemRow) : Type 0 where
  pub read : IsOrderRead first acts order row rows
  pub named : AreLineItems acts read.p items

pub picks_right : (first : ℤ) (acts : List Act) (order : List ℕ) (row : OrderRow) (rows : Rows) (items : Vec ItemRow Global) → ArePicksIn order (tables_of first acts) (Ok (row, (rows, items))) → ArePicksRead first acts order row rows items.items
picks_right first acts order row rows items (table, are) =
    let one = order_right first acts order row rows (table, are.of_order) in
    record { read = one; named = items_right first acts order one.p one.named rows items.items are }
