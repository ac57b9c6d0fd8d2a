-- What the rows of an order's slice tell of its lines: the plan in which a line is booked last has its rows of the plan after the act.
use Rattle.rules.proofs.Words.{◌≡◌, ℕ, ◌+◌, ◌-◌, ◌≤◌, min, true, false, List, [], ◌∷◌, ◌++◌, refl, ap, sym, ◌∙◌, arith, ℤ, filter, same_text, UNITS_MAX, Key, OrderLine, NewOrder, Order, SUM_MAX, Demand, Supply, Row, plan_rows, rows_from, demand_total, reserved_for, plan_rows-append, same_plan, Act, next_number, least_expiry, demands, supplies, plan, IsHistory, tables_of, is_touched, IsSlice, capped, number_seen, staged_units, supplies_within, plan_within, named_rows, plan_of_cut, needs_seen, plan_booked, line_put, new_order_row, Slice, unequal_back, supplies_in}
use Rattle.rules.proofs.rows.OpenUnits.{rows_tell_open_units}
use Rattle.rules.proofs.rows.NeedsTold.{rows_tell_needs, stages_within_limit}
use Rattle.rules.proofs.rows.SliceDemands.{slice_tells_demands}
use Rattle.rules.proofs.rows.SliceSupplies.{slice_tells_supplies}
use Rattle.rules.proofs.rows.SuppliesTold.{rows_tell_supplies, supplies_within_limit}
use Rattle.rules.proofs.rows.DaysAsked.{earliest_told}
use Rattle.rules.proofs.decided.orders.OrderStep.{new_row}
use Rattle.rules.proofs.decided.orders.OrderTells.{is_new, number_is, row_is}
use Rattle.rules.proofs.decided.orders.OrderPlan.{NotBooked, not_booked, for_behind, named_behind, line_demand, line_rows, plan_after, others_booked}

-- what of the units that are open lies beyond the caps serves nothing
needs_same : (wanted staged number qty : ℕ) (ss : List Supply) → staged ≤ UNITS_MAX
    → plan_within (record { booking = 0; need = capped (wanted + staged) - capped staged } ∷ record { booking = number; need = qty } ∷ []) ss ≡ plan_within (record { booking = 0; need = wanted } ∷ record { booking = number; need = qty } ∷ []) ss
needs_same wanted staged number qty ss h =
    let low : min (capped (wanted + staged) - capped staged) SUM_MAX ≡ min wanted SUM_MAX = omega (arith, h) in
    let room : SUM_MAX - (capped (wanted + staged) - capped staged) ≡ SUM_MAX - wanted = omega (arith, h) in
    (λ i. plan_rows (record { booking = 0; need = low i } ∷ record { booking = number; need = min qty (room i) } ∷ []) (supplies_within SUM_MAX ss))

module _ (first : ℤ) (acts : List Act) (key : Key) (o : NewOrder) (s : Slice) (slice : IsSlice first (record { key = key; command = Order o }) acts (tables_of first acts) s)
    (next : IsHistory first (record { key = key; command = Order o } ∷ acts)) (l : OrderLine) (touched : is_touched first (record { key = key; command = Order o }) acts l.gtin ≡ true)
    (alone : filter (λ m. same_text l.gtin m.gtin) o.lines ≡ l ∷ []) where
  abbrev act : Act
  act = record { key = key; command = Order o }

  abbrev after : List Act
  after = act ∷ acts

  abbrev g : List ℕ
  g = l.gtin

  abbrev wanted : ℕ
  wanted = demand_total (demands first acts g)

  -- one demand for all those before
  abbrev together : Demand
  together = record { booking = 0; need = wanted }

  abbrev own : Demand
  own = line_demand first acts key o next (is_new first acts key o false s slice next) l alone

  abbrev own_rows : List Row
  own_rows = line_rows first acts key o next (is_new first acts key o false s slice next) l alone

  abbrev offered : List Supply
  offered = supplies_in g (least_expiry first acts g) s.rows

  abbrev staged : ℕ
  staged = staged_units g s.rows.staged

  needs_told : needs_seen s g ≡ capped (wanted + staged) - capped staged
  needs_told =
      let tells = slice_tells_demands first acts act s slice refl g touched in
      ap (λ n. capped n - capped staged)
      (rows_tell_open_units first acts next.0 g s.rows tells ∙ sym (rows_tell_needs first acts next.0 g s.rows tells))

  booked_is : plan_booked s l ≡ plan_rows (together ∷ []) (supplies first acts g) ++ own_rows
  booked_is =
      let tells = slice_tells_supplies first acts act s slice refl g touched in
      let start : wanted + 0 ≡ wanted = omega arith in
      (λ i. plan_within (record { booking = 0; need = needs_told i } ∷ record { booking = number_is first acts key o false s slice next i; need = l.qty } ∷ [])
      (supplies_in g (earliest_told first acts act s slice refl next.0 g touched i) s.rows))
      ∙ needs_same wanted staged (next_number acts) l.qty offered
      (stages_within_limit first acts next.0 g s.rows (slice_tells_demands first acts act s slice refl g touched))
      ∙ plan_of_cut (together ∷ own ∷ []) offered (supplies_within_limit first acts next.0 g s.rows tells)
      ∙ same_plan (together ∷ own ∷ []) (together ∷ own ∷ []) offered (supplies first acts g) refl (rows_tell_supplies first acts next.0 g s.rows tells)
      ∙ plan_rows-append (together ∷ []) (own ∷ []) (supplies first acts g)
      ∙ ap (λ x. plan_rows (together ∷ []) (supplies first acts g) ++ rows_from x (own ∷ []) (supplies first acts g)) start

  together_apart : NotBooked (next_number acts) (plan_rows (together ∷ []) (supplies first acts g))
  together_apart = not_booked (next_number acts) 0 (together ∷ []) (supplies first acts g) (unequal_back 0 (next_number acts) (omega arith), tt)

  others_apart : NotBooked (next_number acts) (plan first acts g)
  others_apart = others_booked first acts key o next (is_new first acts key o false s slice next) l alone

  after_is : plan first after g ≡ plan first acts g ++ own_rows
  after_is = plan_after first acts key o next (is_new first acts key o false s slice next) l alone

  -- the rows put are those of the order in the plan after the act
  pub put_told : line_put s (new_order_row s o) l ≡ named_rows (new_row first acts key o false ∷ []) s.rows.lots (plan first after g)
  put_told =
      (λ i. named_rows (row_is first acts key o false s slice next i ∷ []) s.rows.lots (booked_is i))
      ∙ named_behind (new_row first acts key o false) s.rows.lots (plan_rows (together ∷ []) (supplies first acts g)) own_rows together_apart
      ∙ sym (named_behind (new_row first acts key o false) s.rows.lots (plan first acts g) own_rows others_apart)
      ∙ ap (named_rows (new_row first acts key o false ∷ []) s.rows.lots) (sym after_is)

  -- and so is what they reserve together
  pub served_told : reserved_for (number_seen s) (plan_booked s l) ≡ reserved_for (next_number acts) (plan first after g)
  served_told =
      (λ i. reserved_for (number_is first acts key o false s slice next i) (booked_is i))
      ∙ for_behind (next_number acts) (plan_rows (together ∷ []) (supplies first acts g)) own_rows together_apart
      ∙ sym (for_behind (next_number acts) (plan first acts g) own_rows others_apart)
      ∙ ap (reserved_for (next_number acts)) (sym after_is)
