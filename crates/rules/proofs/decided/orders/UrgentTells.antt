-- The rows of a slice with those of an urgent order tell the demands and supplies of each of its items after the act.
use Rattle.rules.proofs.Words.{◌≡◌, ℕ, Bool, true, false, ◌&&◌, List, [], ◌∷◌, refl, ap, sym, subst, ◌∙◌, ◌||◌, if◌then◌else◌, ℤ, Some, None, find, map, option_map, list_any, same_text, Key, OrderLine, NewOrder, Urgent, Open, OrderRow, UrgentRow, LineRow, Act, Placed, has_order, has_line, lines_of, lines_placed, order_named, is_open, is_open_state, order_state, IsHistory, tables_of, if_urgent, order_row, line_row, urgent_row, is_touched, AreRows, OrderItem, same_line, IsSlice, has_touched_line, new_line_rows, lines_with, Slice, and_both, or_first, same_text_is, same_text_refl, same_text_turned, new_is_not_named, Rows, rows_after_urgent}
use Rattle.rules.proofs.rows.AfterRows.{loosened}
use Rattle.rules.proofs.rows.AddedRows.{AllNew, with_rows, all_added}
use Rattle.rules.proofs.rows.SameKeys.{same_line_is, same_line_refl, same_line_turned}
use Rattle.rules.proofs.rows.DemandsTold.{TellsDemands}
use Rattle.rules.proofs.rows.SuppliesTold.{TellsSupplies}
use Rattle.rules.proofs.rows.OrderTold.{found_order_row}
use Rattle.rules.proofs.rows.SliceDemands.{line_touched, slice_tells_demands}
use Rattle.rules.proofs.rows.SliceSupplies.{slice_tells_supplies}
use Rattle.rules.proofs.decided.orders.OrderStep.{WantsUnits, placed, new_row, new_urgent, named_same, state_same, order_at, no_line_before, line_at}
use Rattle.rules.proofs.decided.orders.OrderTells.{is_new, some_wanted, number_is, new_lines_once}

module _ (first : ℤ) (acts : List Act) (key : Key) (o : NewOrder) (s : Slice) (slice : IsSlice first (record { key = key; command = Urgent o }) acts (tables_of first acts) s)
    (next : IsHistory first (record { key = key; command = Urgent o } ∷ acts)) where
  abbrev act : Act
  act = record { key = key; command = Urgent o }

  abbrev after : List Act
  after = act ∷ acts

  new : has_order acts o.order ≡ false
  new = is_new first acts key o true s slice next

  some : WantsUnits o.lines
  some = some_wanted first acts key o true s slice next

  abbrev row : OrderRow
  row = new_row first acts key o true

  abbrev urgent : UrgentRow
  urgent = new_urgent first acts key o true

  -- an order that is open after the act is the new one, or was open
  open_before : (q : List ℕ) → same_text q o.order ≡ false → is_open first after q ≡ true → is_open first acts q ≡ true
  open_before q e still = sym (ap is_open_state (state_same first acts key o true q e)) ∙ still

  module _ (g : List ℕ) (touched : is_touched first act acts g ≡ true) where
    before : TellsDemands first acts g s.rows
    before = slice_tells_demands first acts act s slice refl g touched

    touched_item : (h : List ℕ) → same_text g h ≡ true → is_touched first act acts h ≡ true
    touched_item h e = ap (λ (x : List ℕ). is_touched first act acts x) (sym (same_text_is g h e)) ∙ touched

    was_wanted : (q : List ℕ) → same_text q o.order ≡ false → is_open first after q && has_line after q g ≡ true → is_open first acts q && has_line acts q g ≡ true
    was_wanted q e h =
        let two = and_both (is_open first after q) (has_line after q g) h in
        (λ i. open_before q e two.0 i && (ap (λ p. list_any (λ (l : OrderLine). same_text g l.gtin) (lines_placed p)) (sym (named_same first acts key o true q e)) ∙ two.1) i)

    -- Orders

    abbrev is_needed : List ℕ → Bool
    is_needed q = same_text q o.order || (is_open first acts q && has_line acts q g)

    orders_are : AreRows same_text (λ (r : OrderRow). r.order) is_needed (λ q. true) (order_row first acts) s.rows.orders
    unfolding tables_of
    orders_are =
        loosened same_text (λ (r : OrderRow). r.order) _ is_needed _ (λ q. true) (order_row first acts) (order_row first acts) s.rows.orders
        (λ q e. elim (same_text q o.order) as (λ b. b || (is_open first acts q && has_line acts q g) ≡ true → b || (is_open first acts q && has_touched_line first act acts q) ≡ true) [
          | true ↦ λ h. refl
          | false ↦ λ h. let two = and_both (is_open first acts q) (has_line acts q g) h in (λ i. two.0 i && line_touched first acts act s slice g touched (lines_of acts q) two.1 i)
        ] e)
        (λ q e. refl) (λ q. refl) slice.orders

    no_order_before : find (λ (r : OrderRow). same_text o.order r.order) s.rows.orders ≡ None
    no_order_before =
        found_order_row first acts act s slice o.order (same_text_refl o.order)
        ∙ ap (option_map (λ (p : Placed). record { order = p.order; act = p.act; customer = p.customer; state = order_state first acts p.order })) (new_is_not_named first acts next.0 o.order new)

    orders_after : AreRows same_text (λ (r : OrderRow). r.order) (λ q. is_open first after q && has_line after q g) (λ q. true) (order_row first after) (row ∷ s.rows.orders)
    orders_after =
        loosened same_text (λ (r : OrderRow). r.order) is_needed (λ q. is_open first after q && has_line after q g) (λ q. true) (λ q. true)
        (with_rows same_text same_text_is same_text_refl same_text_turned (λ (r : OrderRow). r.order) is_needed (order_row first acts) (row ∷ [])) (order_row first after) (row ∷ s.rows.orders)
        (λ q e. elim (same_text q o.order) as (λ b. same_text q o.order ≡ b → b || (is_open first acts q && has_line acts q g) ≡ true) [ true ↦ λ t. refl | false ↦ λ t. was_wanted q t e ] refl)
        (λ q e. e) (order_at first acts key o true next.0 new some)
        (all_added same_text same_text_is same_text_refl same_text_turned (λ (r : OrderRow). r.order) is_needed (order_row first acts) (row ∷ []) s.rows.orders refl (no_order_before, tt) orders_are)

    -- Lines

    abbrev is_needed_line : OrderItem → Bool
    is_needed_line k = same_text k.0 o.order || (is_open first acts k.0 && same_text g k.1)

    lines_are : AreRows same_line (λ (r : LineRow). (r.order, r.gtin)) is_needed_line (λ k. true) (λ k. line_row first acts k.0 k.1) s.rows.lines
    unfolding tables_of
    lines_are =
        loosened same_line (λ (r : LineRow). (r.order, r.gtin)) _ is_needed_line _ (λ k. true) (λ k. line_row first acts k.0 k.1) (λ k. line_row first acts k.0 k.1) s.rows.lines
        (λ k e. elim (same_text k.0 o.order) as (λ b. b || (is_open first acts k.0 && same_text g k.1) ≡ true → b || (is_open first acts k.0 && is_touched first act acts k.1) ≡ true) [
          | true ↦ λ h. refl
          | false ↦ λ h. let two = and_both (is_open first acts k.0) (same_text g k.1) h in (λ i. two.0 i && touched_item k.1 two.1 i)
        ] e)
        (λ k e. refl) (λ k. refl) slice.lines

    lines_new : (ls : List OrderLine)
        → AllNew same_line same_line_is same_line_refl same_line_turned (λ (r : LineRow). (r.order, r.gtin)) is_needed_line (λ k. line_row first acts k.0 k.1) s.rows.lines (map (λ l. record { order = o.order; gtin = l.gtin; ordered = l.qty; shipped = 0 }) ls)
    lines_new [] = tt
    lines_new (l ∷ ls) =
        (lines_are.found (o.order, l.gtin) (or_first (same_text o.order o.order) _ (same_text_refl o.order)) ∙ no_line_before first acts key o true next.0 new some o.order l.gtin (same_text_refl o.order), lines_new ls)

    lines_after : AreRows same_line (λ (r : LineRow). (r.order, r.gtin)) (λ k. is_open first after k.0 && same_text g k.1) (λ k. true) (λ k. line_row first after k.0 k.1) (lines_with s o)
    lines_after =
        loosened same_line (λ (r : LineRow). (r.order, r.gtin)) is_needed_line (λ k. is_open first after k.0 && same_text g k.1) (λ k. true) (λ k. true)
        (with_rows same_line same_line_is same_line_refl same_line_turned (λ (r : LineRow). (r.order, r.gtin)) is_needed_line (λ k. line_row first acts k.0 k.1) (new_line_rows o)) (λ k. line_row first after k.0 k.1) (lines_with s o)
        (λ k e. elim (same_text k.0 o.order) as (λ b. same_text k.0 o.order ≡ b → b || (is_open first acts k.0 && same_text g k.1) ≡ true) [
          | true ↦ λ t. refl
          | false ↦ λ t. let two = and_both (is_open first after k.0) (same_text g k.1) e in (λ i. open_before k.0 t two.0 i && two.1 i)
        ] refl)
        (λ k e. e) (λ k. line_at first acts key o true next.0 new some k.0 k.1)
        (all_added same_line same_line_is same_line_refl same_line_turned (λ (r : LineRow). (r.order, r.gtin)) is_needed_line (λ k. line_row first acts k.0 k.1) (new_line_rows o) s.rows.lines
        (new_lines_once first acts key o true s slice next) (lines_new o.lines) lines_are)

    -- Urgent orders

    urgents_after : (q : List ℕ) → is_open first after q && has_line after q g ≡ true → find (λ (r : UrgentRow). same_text q r.order) (urgent ∷ s.rows.urgents) ≡ urgent_row after q
    urgents_after q e =
        elim (same_text q o.order) as (λ b. same_text q o.order ≡ b
        → (if b then Some urgent else find (λ (r : UrgentRow). same_text q r.order) s.rows.urgents) ≡ if_urgent (if b then Some (placed first acts key o true) else order_named acts q)) [
          | true ↦ λ t. refl
          | false ↦ λ t. before.urgents q (was_wanted q t e)
        ] refl

    abbrev rows_with : OrderRow → UrgentRow → Rows
    rows_with placed marked = record s.rows { orders = placed ∷ s.rows.orders; lines = lines_with s o; urgents = marked ∷ s.rows.urgents }

    tells : TellsDemands first after g (rows_with row urgent)
    tells = record { orders = orders_after; lines = lines_after; staged = before.staged; urgents = urgents_after }

    -- with the rows as they are seen
    pub demands_after : TellsDemands first after g (rows_after_urgent s o)
    demands_after =
        let P : ℕ → Type 0 = λ n. TellsDemands first after g (rows_with (record { order = o.order; act = n; customer = o.customer; state = Open }) (record { order = o.order; act = n })) in
        subst P (sym (number_is first acts key o true s slice next)) tells

    pub supplies_after : TellsSupplies first after g (rows_after_urgent s o)
    supplies_after =
        let same = slice_tells_supplies first acts act s slice refl g touched in
        record { lots = same.lots; recalls = same.recalls; stock = same.stock; bins = same.bins }
