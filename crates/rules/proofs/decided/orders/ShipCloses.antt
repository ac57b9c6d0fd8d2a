-- The row of an order that is shipped: it is DONE where no line lacks units.
use Rattle.rules.proofs.Words.{◌≡◌, ℕ, Bool, true, false, ◌&&◌, not, List, [], ◌∷◌, refl, ap, sym, subst, ◌∙◌, ◌==◌, ◌||◌, if◌then◌else◌, find, filter, map, Option, Some, None, option_map, is_some, ℤ, list_all, list_any, same_text, Key, OrderLine, Ship, Open, Done, Cancelled, OrderRow, LineRow, Act, Placed, orders, order_named, lines_of, lines_placed, is_cancelled, shipped_of, order_state, is_open_state, is_shipped_in_full, IsHistory, tables_of, order_row, line_row, is_touched, AreOwn, OrderItem, IsSlice, changed, unless_put, names_item_twice, order_row_seen, line_shipped, lines_shipped, lacks_units, done_row, order_put, Slice, and_both, or_none, not_false, same_text_is, same_text_refl, same_text_turned, AllFound, all_found, ship_accepted, orders_single, found_order}
use Rattle.rules.proofs.decided.orders.OrderTells.{single_apart}
use Rattle.rules.proofs.rows.OrderTold.{found_order_row}
use Rattle.rules.proofs.rows.DemandsTold.{single_of}
use Rattle.rules.proofs.decided.orders.ShipTells.{shipped_same, line_units, has_placed, line_test, found_shipped}

-- Lines of an order that names no item twice

abbrev same_item : OrderLine → OrderLine → Bool
same_item l m = same_text l.gtin m.gtin

record Passes (test : OrderLine → Bool) (g : List ℕ) (l : OrderLine) : Type 0 where
  passes : test l ≡ true
  item : g ≡ l.gtin

placed_passes : (test : OrderLine → Bool) (g : List ℕ) (ls : List OrderLine) → list_all test ls ≡ true → (l : OrderLine) → find (λ m. same_text g m.gtin) ls ≡ Some l → Passes test g l
placed_passes test g [] h l e = cc
placed_passes test g (m ∷ ms) h l e =
    let two = and_both (test m) (list_all test ms) h in
    elim (same_text g m.gtin) as (λ b. same_text g m.gtin ≡ b → (if b then Some m else find (λ m. same_text g m.gtin) ms) ≡ Some l → Passes test g l) [
      | true ↦ λ t f. let own : m ≡ l = cc in record { passes = ap test (sym own) ∙ two.0; item = same_text_is g m.gtin t ∙ ap (λ (x : OrderLine). x.gtin) own }
      | false ↦ λ t f. placed_passes test g ms two.1 l f
    ] refl e

none_found : {X : Type 0} (p test : X → Bool) (xs : List X) (x : X) → list_any p xs ≡ false → find test xs ≡ Some x → p x ≡ false
none_found p test [] x e f = cc
none_found p test (y ∷ ys) x e f =
    let two = or_none (p y) (list_any p ys) e in
    elim (test y) as (λ b. (if b then Some y else find test ys) ≡ Some x → p x ≡ false) [
      | true ↦ λ h. let own : y ≡ x = cc in ap p (sym own) ∙ two.0
      | false ↦ λ h. none_found p test ys x two.1 h
    ] f

either_way : (a b : Bool) → (b ≡ true → a ≡ false) → (a ≡ false → b ≡ true) → a ≡ not b
either_way true true f h = f refl
either_way false true f h = refl
either_way true false f h = refl
either_way false false f h = h refl

-- States

open_is : (b c : Bool) → is_open_state (if b then Cancelled else (if c then Done else Open)) ≡ true → (b ≡ false) × (c ≡ false)
open_is true c e = let f : false ≡ true = e in cc
open_is false true e = let f : false ≡ true = e in cc
open_is false false e = (refl, refl)

some_named : (p : Option Placed) → is_some p ≡ true → (q : Placed) × (p ≡ Some q)
some_named None e = let f : false ≡ true = e in cc
some_named (Some p) e = (p, refl)

module _ (first : ℤ) (acts : List Act) (key : Key) (o : List ℕ) (s : Slice) (slice : IsSlice first (record { key = key; command = Ship o }) acts (tables_of first acts) s)
    (next : IsHistory first (record { key = key; command = Ship o } ∷ acts)) where
  abbrev act : Act
  act = record { key = key; command = Ship o }

  abbrev after : List Act
  after = act ∷ acts

  abbrev line_before : List ℕ → OrderLine → LineRow
  line_before g l = record { order = o; gtin = g; ordered = l.qty; shipped = shipped_of first acts o g }

  abbrev line_after : List ℕ → OrderLine → LineRow
  line_after g l = record { order = o; gtin = g; ordered = l.qty; shipped = shipped_of first after o g }

  abbrev line_placed : List ℕ → Option OrderLine
  line_placed g = find (λ l. same_text g l.gtin) (lines_of acts o)

  -- the line is shipped in full
  abbrev is_full : OrderLine → Bool
  is_full l = shipped_of first after o l.gtin == l.qty

  full_lacks_none : list_all is_full (lines_of acts o) ≡ true → (g : List ℕ) (x : Option OrderLine) → line_placed g ≡ x → (r : LineRow) → option_map (line_before g) x ≡ Some r → lacks_units (line_shipped s.rows.staged r) ≡ false
  full_lacks_none full g None e r f = cc
  full_lacks_none full g (Some l) e r f =
      let own : line_before g l ≡ r = cc in
      let h = placed_passes is_full g (lines_of acts o) full l e in
      ap (λ (x : LineRow). lacks_units (line_shipped s.rows.staged x)) (sym own)
      ∙ ap (λ n. not (n == l.qty)) (line_units first acts key o s slice next g (has_placed first acts key o s slice next g l e))
      ∙ ap (λ (x : List ℕ). not (shipped_of first after o x == l.qty)) h.item ∙ ap not h.passes

  lines_own : AreOwn {K = OrderItem} (λ (r : LineRow). (r.order, r.gtin)) (λ k. same_text k.0 o || is_touched first act acts k.1) (λ k. line_row first acts k.0 k.1) s.rows.lines
  unfolding tables_of
  lines_own = slice.lines.own

  abbrev of_order : List LineRow → List LineRow
  of_order rows = filter (λ r. same_text o r.order) rows

  rows_lack_none : list_all is_full (lines_of acts o) ≡ true → (rows : List LineRow) → AreOwn {K = OrderItem} (λ (r : LineRow). (r.order, r.gtin)) (λ k. same_text k.0 o || is_touched first act acts k.1) (λ k. line_row first acts k.0 k.1) rows
      → list_any lacks_units (map (line_shipped s.rows.staged) (of_order rows)) ≡ false
  rows_lack_none full [] h = refl
  rows_lack_none full (r ∷ rs) h =
      elim (same_text o r.order) as (λ b. same_text o r.order ≡ b → list_any lacks_units (map (line_shipped s.rows.staged) (if b then r ∷ of_order rs else of_order rs)) ≡ false) [
        | true ↦ λ e.
            let own : line_row first acts o r.gtin ≡ Some r = ap (λ (x : List ℕ). line_row first acts x r.gtin) (same_text_is o r.order e) ∙ h.1 in
            (λ i. full_lacks_none full r.gtin (line_placed r.gtin) refl r own i || rows_lack_none full rs h.2 i)
        | false ↦ λ e. rows_lack_none full rs h.2
      ] refl

  all_full : list_any lacks_units (lines_shipped s o) ≡ false → (ms : List OrderLine) → AllFound same_item (lines_of acts o) ms → list_all is_full ms ≡ true
  all_full none [] h = refl
  all_full none (m ∷ ms) h =
      let found : find (line_test first acts key o s slice next m.gtin) (lines_shipped s o) ≡ Some (line_after m.gtin m) = found_shipped first acts key o s slice next m.gtin ∙ ap (option_map (line_after m.gtin)) h.0 in
      let full : is_full m ≡ true = not_false (is_full m) (none_found lacks_units (line_test first acts key o s slice next m.gtin) (lines_shipped s o) (line_after m.gtin m) none found) in
      (λ i. full i && all_full none ms h.1 i)

  -- a line lacks units unless the order is shipped in full
  lacking_is : (p : Placed) → order_named acts o ≡ Some p → list_any lacks_units (lines_shipped s o) ≡ not (is_shipped_in_full first after o)
  lacking_is p named =
      let single : names_item_twice (lines_of acts o) ≡ false = ap (λ q. names_item_twice (lines_placed q)) named ∙ single_of (orders acts) [] (orders_single first acts next.0) o p named in
      let found = all_found same_item (λ l. same_text_refl l.gtin) (λ l m. same_text_turned l.gtin m.gtin) (lines_of acts o) (single_apart (lines_of acts o) single) in
      either_way (list_any lacks_units (lines_shipped s o)) (is_shipped_in_full first after o) (λ full. rows_lack_none full s.rows.lines lines_own) (λ none. all_full none (lines_of acts o) found)

  -- The order's row

  abbrev row_before : Placed → OrderRow
  row_before p = record { order = p.order; act = p.act; customer = p.customer; state = order_state first acts p.order }

  abbrev row_after : Placed → OrderRow
  row_after p = record { order = p.order; act = p.act; customer = p.customer; state = order_state first after p.order }

  abbrev puts : List OrderRow
  puts = order_put (order_row_seen s o) (list_any lacks_units (lines_shipped s o))

  still_open : (is_cancelled acts o ≡ false) × (is_shipped_in_full first acts o ≡ false)
  still_open = open_is (is_cancelled acts o) (is_shipped_in_full first acts o) (ship_accepted first acts o next.1.passes).still_open

  state_before : order_state first acts o ≡ Open
  state_before = λ i. if still_open.0 i then Cancelled else (if still_open.1 i then Done else Open)

  state_after : order_state first after o ≡ (if is_shipped_in_full first after o then Done else Open)
  state_after = λ i. if still_open.0 i then Cancelled else (if is_shipped_in_full first after o then Done else Open)

  module _ (p : Placed) (named : order_named acts o ≡ Some p) where
    own : o ≡ p.order
    own = found_order o (orders acts) p named

    puts_are : puts ≡ (if not (is_shipped_in_full first after o) then [] else done_row (row_before p) ∷ [])
    puts_are = λ i. order_put ((found_order_row first acts act s slice o (same_text_refl o) ∙ ap (option_map row_before) named) i) (lacking_is p named i)

    own_row : (full : Bool) → order_state first after o ≡ (if full then Done else Open)
        → unless_put (find (λ (r : OrderRow). same_text o r.order) (if not full then [] else done_row (row_before p) ∷ [])) false (Some (row_before p)) ≡ Some (row_after p)
    own_row true e =
        ap (λ b. unless_put (if b then Some (done_row (row_before p)) else None) false (Some (row_before p))) (ap (same_text o) (sym own) ∙ same_text_refl o)
        ∙ (λ i. Some (record { order = p.order; act = p.act; customer = p.customer; state = (sym e ∙ ap (λ (x : List ℕ). order_state first after x) own) i }))
    own_row false e =
        (λ i. Some (record { order = p.order; act = p.act; customer = p.customer; state = (ap (λ (x : List ℕ). order_state first acts x) (sym own) ∙ state_before ∙ sym e ∙ ap (λ (x : List ℕ). order_state first after x) own) i }))

    not_put : (u : List ℕ) → same_text u o ≡ false → (lacking : Bool) → find (λ (r : OrderRow). same_text u r.order) (if lacking then [] else done_row (row_before p) ∷ []) ≡ None
    not_put u e true = refl
    not_put u e false = ap (λ b. if b then Some (done_row (row_before p)) else None) (ap (same_text u) (sym own) ∙ e)

    others_same : (u : List ℕ) → same_text u o ≡ false → (q : Option Placed) → order_named acts u ≡ q → option_map row_before q ≡ option_map row_after q
    others_same u e None f = refl
    others_same u e (Some q) f =
        let other : same_text q.order o ≡ false = ap (λ (x : List ℕ). same_text x o) (sym (found_order u (orders acts) q f)) ∙ e in
        (λ i. Some (record {
          order = q.order;
          act = q.act;
          customer = q.customer;
          state = if is_cancelled acts q.order then Cancelled else (if list_all (λ l. shipped_same first acts key o s slice next q.order l.gtin other i == l.qty) (lines_of acts q.order) then Done else Open);
        }))

    order_by : (u : List ℕ) → changed (λ (r : OrderRow). same_text u r.order) puts [] (order_row first acts u) ≡ order_row first after u
    order_by u =
        elim (same_text u o) as (λ b. same_text u o ≡ b → changed (λ (r : OrderRow). same_text u r.order) puts [] (order_row first acts u) ≡ order_row first after u) [
          | true ↦ λ e.
              subst (λ (x : List ℕ). changed (λ (r : OrderRow). same_text x r.order) puts [] (order_row first acts x) ≡ order_row first after x) (sym (same_text_is u o e))
              ((λ i. changed (λ (r : OrderRow). same_text o r.order) (puts_are i) [] (option_map row_before (named i))) ∙ own_row (is_shipped_in_full first after o) state_after ∙ ap (option_map row_after) (sym named))
          | false ↦ λ e.
              (λ i. changed (λ (r : OrderRow). same_text u r.order) (puts_are i) [] (order_row first acts u))
              ∙ ap (λ x. unless_put x false (order_row first acts u)) (not_put u e (not (is_shipped_in_full first after o)))
              ∙ others_same u e (order_named acts u) refl
        ] refl

  pub order_at : (u : List ℕ) → changed (λ (r : OrderRow). same_text u r.order) puts [] (order_row first acts u) ≡ order_row first after u
  order_at u = let p = some_named (order_named acts o) (ship_accepted first acts o next.1.passes).order in order_by p.0 p.1 u
