-- An order puts its own reserved rows, line after line, and no other row changes.
use Rattle.rules.proofs.Words.{◌≡◌, ℕ, Bool, true, false, ◌&&◌, not, List, [], ◌∷◌, refl, ap, sym, subst, ◌∙◌, ◌==◌, if◌then◌else◌, ℤ, Option, Some, None, find, filter, flat_map, is_some, list_any, cons_option, same_text, LotId, Key, OrderLine, NewOrder, Order, OrderRow, LotRow, ReservedRow, Row, Act, is_lot, of_item, has_order, order_named, plan, reserved, IsHistory, tables_of, order_row, is_touched, names_item_twice, no_two, AreOwn, IsSlice, differs, unless_put, named_row, named_rows, is_share_of, line_put, new_order_row, order_rows_to_put, Slice, or_none, same_text_is, same_text_refl, AllFound, any_found, unknown_is_unreserved, new_is_not_named, Each, Rows}
use Rattle.rules.proofs.rows.DemandsTold.{listed, line_found}
use Rattle.rules.proofs.rows.TableSteps.{AreNamed, IsNamed, share_row, nothing_named}
use Rattle.rules.proofs.rows.SharesTold.{shares_told, shares_once, shares_elsewhere}
use Rattle.rules.proofs.rows.SliceSupplies.{slice_tells_supplies}
use Rattle.rules.proofs.rows.SuppliesTold.{TellsSupplies}
use Rattle.rules.proofs.rows.ItemsNamed.{AllOf, all_of, items_named, items_once}
use Rattle.rules.proofs.decided.orders.OrderStep.{new_row, order_at}
use Rattle.rules.proofs.decided.orders.OrderTells.{is_new, is_single, some_wanted, same_item, lines_found}
use Rattle.rules.proofs.decided.orders.OrderPlan.{others_keep}
use Rattle.rules.proofs.decided.orders.OrderBooked.{put_told}

single_once : (ls : List OrderLine) → names_item_twice ls ≡ false → no_two (λ (l m : OrderLine). same_text l.gtin m.gtin) ls ≡ true
single_once [] e = refl
single_once (l ∷ ls) e =
    let two = or_none (list_any (λ m. same_text l.gtin m.gtin) ls) (names_item_twice ls) e in
    (λ i. not (two.0 i) && single_once ls two.1 i)

-- a row that is new is named
module _ (q : List ℕ) (l : LotId) (n : ℕ) where
  abbrev at : Bool → Option ReservedRow
  at b = if b then None else Some (record { order = q; lot = l; qty = n })

  new_named : (put : List ReservedRow) → find (λ (r : ReservedRow). same_text q r.order && is_lot l r.lot) put ≡ share_row q l n → IsNamed q l 0 n put []
  new_named put e = record { put = e ∙ elim (n == 0) as (λ b. at b ≡ (if differs None (at b) then at b else None)) [ true ↦ refl | false ↦ refl ]; dropped = refl }

-- rows that are named by one order are none of another
module _ (q : List ℕ) (m : LotId) (order : OrderRow) (lots : List LotRow) (other : same_text q order.order ≡ false) where
  abbrev test : ReservedRow → Bool
  test r = same_text q r.order && is_lot m r.lot

  not_found : (rest : List ReservedRow) → find test rest ≡ None → (b : Bool) (y : Option LotRow) (n : ℕ) → find test (cons_option (named_row (if b then Some order else None) y n) rest) ≡ None
  not_found rest h false y n = h
  not_found rest h true None n = h
  not_found rest h true (Some k) n = ap (λ t. if t && is_lot m k.lot then Some (record { order = order.order; lot = k.lot; qty = n }) else find test rest) other ∙ h

  none_of_other : (rs : List Row) → find test (named_rows (order ∷ []) lots rs) ≡ None
  none_of_other [] = refl
  none_of_other (r ∷ rs) = not_found (named_rows (order ∷ []) lots rs) (none_of_other rs) (r.booking == order.act) (find (λ k. r.lot == k.came) lots) r.qty

module _ (first : ℤ) (acts : List Act) (key : Key) (o : NewOrder) (s : Slice) (slice : IsSlice first (record { key = key; command = Order o }) acts (tables_of first acts) s)
    (next : IsHistory first (record { key = key; command = Order o } ∷ acts)) where
  abbrev act : Act
  act = record { key = key; command = Order o }

  abbrev after : List Act
  after = act ∷ acts

  abbrev row : OrderRow
  row = new_row first acts key o false

  new : has_order acts o.order ≡ false
  new = is_new first acts key o false s slice next

  -- the line is the one that is found by its item
  abbrev IsFound : OrderLine → Type 0
  IsFound l = find (same_item l) o.lines ≡ Some l

  each_found : (ls : List OrderLine) → AllFound same_item o.lines ls → Each IsFound ls
  each_found [] h = tt
  each_found (l ∷ ls) h = (h.0, each_found ls h.1)

  row_is_there : order_row first after o.order ≡ Some row
  row_is_there =
      sym (ap (λ b. unless_put (if b then Some row else None) false (order_row first acts o.order)) (sym (same_text_refl o.order))
      ∙ order_at first acts key o false next.0 new (some_wanted first acts key o false s slice next) o.order)

  rows_own : AreOwn (λ (r : OrderRow). r.order) (λ q. true) (order_row first after) (row ∷ [])
  rows_own = (refl, row_is_there, tt)

  module _ (l : OrderLine) (found : IsFound l) where
    abbrev g : List ℕ
    g = l.gtin

    abbrev put : List ReservedRow
    put = line_put s (new_order_row s o) l

    abbrev rows : List ReservedRow
    rows = named_rows (row ∷ []) s.rows.lots (plan first after g)

    touched : is_touched first act acts g ≡ true
    touched = sym (any_found (same_item l) o.lines) ∙ ap is_some found

    pub alone : filter (λ m. same_text g m.gtin) o.lines ≡ l ∷ []
    alone = line_found g o.lines (is_single first acts key o false s slice next) ∙ ap listed found

    rows_are : put ≡ rows
    rows_are = put_told first acts key o s slice next l touched alone

    -- the rows of the slice, with the order alone
    abbrev told : Rows
    told = record s.rows { orders = row ∷ [] }

    supplies_are : TellsSupplies first after g told
    supplies_are =
        let same = slice_tells_supplies first acts act s slice refl g touched in
        record { lots = same.lots; recalls = same.recalls; stock = same.stock; bins = same.bins }

    own_row : (q : List ℕ) (m : LotId) → of_item g m ≡ true → (b : Bool) → same_text q o.order ≡ b → IsNamed q m (reserved first acts q m) (reserved first after q m) put []
    own_row q m own true e =
        let order : q ≡ o.order = same_text_is q o.order e in
        let none : reserved first acts q m ≡ 0 = unknown_is_unreserved first acts q m (ap (order_named acts) order ∙ new_is_not_named first acts next.0 o.order new) in
        let there : find (λ (r : OrderRow). same_text q r.order) (row ∷ []) ≡ order_row first after q =
        ap (λ b. if b then Some row else None) e ∙ sym (ap (order_row first after) order ∙ row_is_there) in
        subst (λ n. IsNamed q m n (reserved first after q m) put []) (sym none)
        (new_named q m (reserved first after q m) put
        (ap (find (λ (r : ReservedRow). same_text q r.order && is_lot m r.lot)) rows_are ∙ shares_told first after next g told rows_own supplies_are q m own (λ e. there)))
    own_row q m own false e =
        let same = nothing_named q m (reserved first acts q m) (reserved first after q m) (others_keep first acts key o next new l alone q m e own) in
        record { put = ap (find (λ (r : ReservedRow). same_text q r.order && is_lot m r.lot)) rows_are ∙ none_of_other q m row s.rows.lots e (plan first after g) ∙ same.put; dropped = same.dropped }

    none_elsewhere : (q : List ℕ) (m : LotId) → of_item g m ≡ false → find (λ (r : ReservedRow). same_text q r.order && is_lot m r.lot) put ≡ None
    none_elsewhere q m other =
        ap (find (λ (r : ReservedRow). same_text q r.order && is_lot m r.lot)) rows_are
        ∙ shares_elsewhere first after next g told rows_own supplies_are q m other

    row_elsewhere : (q : List ℕ) (m : LotId) → of_item g m ≡ false → IsNamed q m 0 0 put []
    row_elsewhere q m other = record { put = none_elsewhere q m other; dropped = refl }

    all_own : AllOf g put
    all_own = all_of g put none_elsewhere

    put_once : no_two is_share_of put ≡ true
    put_once = ap (no_two is_share_of) rows_are ∙ shares_once first after next g told rows_own supplies_are

  abbrev puts : OrderLine → List ReservedRow
  puts l = line_put s (new_order_row s o) l

  abbrev none : OrderLine → List ReservedRow
  none l = []

  none_of : (ls : List OrderLine) → flat_map none ls ≡ []
  none_of [] = refl
  none_of (l ∷ ls) = none_of ls

  lines_once : no_two (λ (l m : OrderLine). same_text l.gtin m.gtin) o.lines ≡ true
  lines_once = single_once o.lines (is_single first acts key o false s slice next)

  lines_are : Each IsFound o.lines
  lines_are = each_found o.lines (lines_found first acts key o false s slice next)

  own_named : (l : OrderLine) → IsFound l → (q : List ℕ) (m : LotId) → of_item l.gtin m ≡ true → IsNamed q m (reserved first acts q m) (reserved first after q m) (puts l) (none l)
  own_named l found q m own = own_row l found q m own (same_text q o.order) refl

  -- each reservation is named where it changes
  pub order_named_rows : AreNamed first act acts (order_rows_to_put s o o.lines) []
  order_named_rows =
      subst (λ (dropped : List ReservedRow). AreNamed first act acts (order_rows_to_put s o o.lines) dropped) (none_of o.lines)
      (items_named (λ (l : OrderLine). l.gtin) first acts act IsFound puts none own_named row_elsewhere o.lines lines_are lines_once (λ g. refl) next)

  -- no row is put twice
  pub order_put_once : no_two is_share_of (order_rows_to_put s o o.lines) ≡ true
  order_put_once = items_once (λ (l : OrderLine). l.gtin) first acts act IsFound puts none own_named row_elsewhere all_own put_once o.lines lines_are lines_once
