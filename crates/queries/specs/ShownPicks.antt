-- The rows by which a pick list is shown.
use Rattle.std.specs.Prelude.{◌≡◌}
use Rattle.queries.specs.Words.{ℕ, ℤ, List, [], Option, Some, None, Result, Ok, Err, option_map, Vec, refl, ap, sym, ◌∙◌, Global, same_text, Tables, Refusal, UnknownOrder, ItemRow, LineRow, OrderRow, PicksView, picks_view, picks_shown, Act, Placed, order_named, order_state, if_known, tables_of, AreRows, ItemKey, same_item, item_key, Rows, with_names, Each}
use Rattle.queries.specs.ShownOrders.{AreOfOrder}

-- items, one after another
abbrev pub AreItemRows : List (List ℕ) → Tables → List ItemRow → Type 0
AreItemRows gtins t items = Each (λ g found. AreRows {K = ItemKey} same_item item_key (λ k. same_text g k) t.item found) gtins items

-- the rows by which the order is shown, and the items of its lines
pub record AreOfPicks (order : List ℕ) (t : Tables) (rows : Rows) (items : List ItemRow) : Type 0 where
  pub of_order : AreOfOrder order t rows
  pub named : AreItemRows (with_names (λ (r : LineRow). r.gtin) rows.lines []) t items

-- the row of the order and these, or the refusal where there is none
abbrev pub ArePicksIn : List ℕ → Tables → Result (OrderRow × (Rows × Vec ItemRow Global)) Refusal → Type 0
ArePicksIn order t (Err why) = (t.order order ≡ None) × (why ≡ UnknownOrder)
ArePicksIn order t (Ok found) = (t.order order ≡ Some found.0) × AreOfPicks order t found.1.0 found.1.1.items

-- what the tables have nothing of, the machine refuses

not_known : (first : ℤ) (acts : List Act) (x : Option Placed)
    → option_map (λ (p : Placed). let row : OrderRow = record { order = p.order; act = p.act; customer = p.customer; state = order_state first acts p.order } in row) x ≡ None
    → if_known x UnknownOrder (λ p. Ok (picks_view first acts p)) ≡ Err UnknownOrder
not_known first acts None e = refl
not_known first acts (Some p) e = absurd cc

pub picks_refused : (first : ℤ) (acts : List Act) (order : List ℕ) (why : Refusal) → ArePicksIn order (tables_of first acts) (Err why) → picks_shown first acts order ≡ Err why
unfolding tables_of
picks_refused first acts order why (none, is) = not_known first acts (order_named acts order) none ∙ ap (λ w. let r : Result PicksView Refusal = Err w in r) (sym is)
