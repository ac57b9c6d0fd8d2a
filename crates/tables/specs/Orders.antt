-- The table `orders`.
use Rattle.std.specs.Prelude.{◌≡◌, ◌∷◌}
use Rattle.tables.specs.Words.{ℕ, true, List, [], codes, refl, ap, ◌∙◌, pos, and_parts, Value, Text, Row, column, Chosen, rowid, with_rowid, is_name, is_title, Tables, OrderRow, ACTS_MAX, ADD_ORDER, CHANGE_ORDER, ORDERS_OF, OPEN_ORDERS, Open, AreRows, only_if, is_word, is_the_text, is_count, is_order_state, one, text_stored, orders_table, same_order, order_key, is_open_order, order_mapping, same, by_rowid, passes, in_order, cast_number, cast_null, and_true, same_word, equals_text, order_state_back, open_is, same_bytes, itself_bytes, Described, IsLawful, Change, ChangeIs, IsChange, Query, QueryIs, IsSought, key_found, Asks, by_text, AreSought, IsText, IsAsked, planned, whole_change, one_keyed, rows_of, found_by_test}
use Rattle.sqlite.specs.Listing.{understood}
use Rattle.sqlite_tied.specs.Compute.{everything}

-- what the table is
abbrev pub orders : Described OrderRow (List ℕ)
orders = planned order_mapping (record {
  place = 6;
  tree = orders_table.tree;
  name = codes "orders";
  columns = orders_table.columns;
  key = order_key;
  same = same_order;
  key_cells = λ k. Text k ∷ [];
  key_places = 1 ∷ [];
  look = λ t k. t.order k;
  set = λ f t. record t { order = f };
  add = ADD_ORDER.now;
})

-- the statement that changes a row
abbrev pub change_order : Change OrderRow
change_order = whole_change orders CHANGE_ORDER.now

-- that of a name
abbrev pub orders_of : Asks (List ℕ) (List ℕ)
orders_of = by_text ORDERS_OF.now 1 (λ k. k)

abbrev pub AreOrdersOf : List ℕ → Tables → List OrderRow → Type 0
AreOrdersOf = AreSought orders orders_of

-- the open ones
abbrev pub open_orders : Query OrderRow (List ℕ) Open
open_orders = record {
  may = λ by. true;
  text = OPEN_ORDERS.now;
  params = λ by. Text (codes "OPEN") ∷ [];
  tests = same 4 0 ∷ [];
  order = by_rowid;
  wanted = λ by s. is_open_order s;
  stored = λ by r. is_the_text (codes "OPEN") (column r 4);
}

abbrev pub AreOpenOrders : Open → Tables → List OrderRow → Type 0
AreOpenOrders by t rows = AreRows {K = List ℕ} same_order order_key (λ k. true) (λ k. only_if is_open_order (t.order k)) rows

-- ---- what holds of them

order_text : IsText orders 1 (λ k. k)
order_text = record { rule = is_name; has = λ r h. (and_parts _ _ h).0; reads = λ r. refl }

-- what is written reads as the row
back : (id : Value) (s : OrderRow) → orders.reads (id ∷ orders.cells s) ≡ s
back id s = ap (λ x. let r : OrderRow = record { order = s.order; act = s.act; customer = s.customer; state = x } in r) (order_state_back s.state)

pub orders_laws : IsLawful orders
unfolding understood everything
orders_laws = record {
  placed_first = refl;
  placed = λ rest. refl;
  itself = itself_bytes;
  one_key = same_bytes;
  one_row = λ db ready params. one_keyed db ready 6 orders_table.tree (codes "orders") orders_table.columns (1 ∷ []) refl refl params;
  at_key = key_found orders orders_of.columns (order_text, tt);
  own_key = λ s r. refl;
  looks = λ trees. refl;
  sets = λ trees rows. refl;
  same_set = λ t. refl;
  ruled = refl;
  has_shown = λ params r. refl;
  seen_shown = λ params r. refl;
  add_is = λ rest. (refl, (refl, refl));
  added = λ s. refl;
  casts = λ s. rw (cast_null, cast_number (pos s.act)) refl;
  comes = λ s rows sound. (refl, (sound, back (rowid (with_rowid Chosen rows (orders.source s))) s));
}

change_is : ChangeIs orders change_order
unfolding understood everything
change_is rest = (refl, (refl, refl))

pub change_order_laws : IsChange orders change_order
change_order_laws = record {
  is = change_is;
  changed = λ s r. refl;
  casts = λ s. rw (cast_number (pos s.act)) refl;
  becomes = λ s r sound int own. (sound, back (rowid r) s);
}

pub orders_of_laws : IsAsked (one (text_stored is_name)) 1 orders orders_of
unfolding understood everything
orders_of_laws = record { few = refl; fits = λ by. refl; cells = λ by. refl; is = λ rest. (refl, refl, (refl, refl)); texts = (order_text, tt) }

open_orders_is : QueryIs orders open_orders
unfolding understood everything
open_orders_is rest = (refl, refl, (refl, refl))

open_orders_at : (by : Open) (r : Row) → orders.is r ≡ true → passes (open_orders.params by) open_orders.tests r ≡ is_open_order (orders.reads r)
open_orders_at by r h =
    let p0 = and_parts (is_word is_name (column r 1)) _ h in
    let p1 = and_parts (is_count ACTS_MAX (column r 2)) _ p0.1 in
    let p2 = and_parts (is_word is_title (column r 3)) _ p1.1 in
    and_true _ ∙ same_word is_order_state (column r 4) (Text (codes "OPEN")) (codes "OPEN") p2.1 refl ∙ open_is (column r 4)

pub open_orders_laws : IsSought orders open_orders AreOpenOrders
open_orders_laws = record {
  is = open_orders_is;
  at = open_orders_at;
  at_stored = λ by r int. and_true _ ∙ equals_text (column r 4) (codes "OPEN");
  ordered = λ db ready by rows a. in_order db.trees (open_orders.params by) orders_table.tree open_orders.tests orders.shown rows (rows_of orders orders_laws db ready).0 a;
  finds = λ db ready by xs are. found_by_test orders orders_laws is_open_order db ready xs are;
}
