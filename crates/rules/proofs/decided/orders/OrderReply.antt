-- The reply to an order says what its plans leave short.
use Rattle.rules.proofs.Words.{◌≡◌, ◌+◌, ◌-◌, false, List, [], ◌∷◌, ◌++◌, refl, ap, sym, ◌∙◌, ℤ, Some, find, is_some, codes, decimal, total, Key, OrderLine, NewOrder, Order, reserved_for, Act, next_number, plan, short_of_order, IsHistory, reply, short_field, tables_of, IsSlice, capped, number_seen, plan_booked, line_short as short_of_line, short_seen, order_reply, Slice, AllFound, any_found}
use Rattle.rules.proofs.rows.DemandsTold.{listed, line_found}
use Rattle.rules.proofs.decided.orders.OrderTells.{is_new, is_single, are_sound, number_is, same_item, lines_found}
use Rattle.rules.proofs.decided.orders.OrderShort.{little_left, short_is}
use Rattle.rules.proofs.decided.orders.OrderBooked.{served_told}

module _ (first : ℤ) (acts : List Act) (key : Key) (o : NewOrder) (s : Slice) (slice : IsSlice first (record { key = key; command = Order o }) acts (tables_of first acts) s)
    (next : IsHistory first (record { key = key; command = Order o } ∷ acts)) where
  abbrev act : Act
  act = record { key = key; command = Order o }

  abbrev after : List Act
  after = act ∷ acts

  seen_short : (ls : List OrderLine) → AllFound same_item o.lines ls → total (short_of_line s) ls ≡ total (λ l. l.qty - reserved_for (next_number acts) (plan first after l.gtin)) ls
  seen_short [] h = refl
  seen_short (l ∷ ls) h = λ i. (l.qty - line_served l h.0 i) + seen_short ls h.1 i
    where
      line_served : (l : OrderLine) → find (same_item l) o.lines ≡ Some l → reserved_for (number_seen s) (plan_booked s l) ≡ reserved_for (next_number acts) (plan first after l.gtin)
      line_served l found =
          served_told first acts key o s slice next l (sym (any_found (same_item l) o.lines) ∙ ap is_some found)
          (line_found l.gtin o.lines (is_single first acts key o false s slice next) ∙ ap listed found)

  short_same : short_seen s o.lines ≡ short_of_order first after o.order
  short_same =
      let found = lines_found first acts key o false s slice next in
      ap capped (seen_short o.lines found)
      ∙ little_left (λ l. reserved_for (next_number acts) (plan first after l.gtin)) o.lines (are_sound first acts key o false s slice next)
      ∙ sym (short_is first acts key o false next.0 (is_new first acts key o false s slice next) (is_single first acts key o false s slice next) found)

  pub order_text : order_reply s o ≡ reply first act acts
  order_text = λ i. codes "{\"act\":" ++ decimal (number_is first acts key o false s slice next i) ++ short_field (short_same i) ++ codes "}"
