-- The reply to an urgent order says what its plans leave short: all that is reserved for it is among the rows that are put.
use Rattle.rules.proofs.Words.{◌≡◌, ℕ, ◌+◌, ◌-◌, ◌*◌, ◌≤◌, true, false, List, [], ◌∷◌, ◌++◌, refl, ap, sym, ◌∙◌, arith, eq-eqb, ◌==◌, if◌then◌else◌, ℤ, Some, find, map, is_some, codes, decimal, QTY_MAX, same_text, total, ORDER_LINES_MAX, Key, OrderLine, NewOrder, Urgent, ReservedRow, reply_text, UnitsShort, reserved_for, Act, next_number, Placed, orders, has_order, Booking, booking_of, lines_of_item, item_postings, need, demands, supplies, plan, short_of_order, IsHistory, reply, short_field, tables_of, is_touched, IsSlice, capped, number_seen, items_ordered, urgent_replanned, urgent_put, short_with, Slice, same_text_refl, AllFound, any_found, new_is_not_named, orders_numbered, served_within_need, demands_told, rows_after_urgent}
use Rattle.rules.proofs.rows.BookingSums.{total_flat_map}
use Rattle.rules.proofs.rows.DaysAsked.{earliest_told}
use Rattle.rules.proofs.rows.DemandsTold.{listed, line_found}
use Rattle.rules.proofs.rows.Ordering.{total_map}
use Rattle.rules.proofs.rows.replanned.PutUnits.{put_units}
use Rattle.rules.proofs.rows.replanned.Unreserved.{none_of_orders, wanted_either_way}
use Rattle.rules.proofs.decided.orders.OrderStep.{placed, named_own}
use Rattle.rules.proofs.decided.orders.OrderTells.{is_new, is_single, are_sound, number_is, same_item, lines_found}
use Rattle.rules.proofs.decided.orders.OrderShort.{little_wanted, line_needs, short_is}
use Rattle.rules.proofs.decided.orders.UrgentTells.{demands_after, supplies_after}

module _ (first : ℤ) (acts : List Act) (key : Key) (o : NewOrder) (s : Slice) (slice : IsSlice first (record { key = key; command = Urgent o }) acts (tables_of first acts) s)
    (next : IsHistory first (record { key = key; command = Urgent o } ∷ acts)) where
  abbrev act : Act
  act = record { key = key; command = Urgent o }

  abbrev after : List Act
  after = act ∷ acts

  abbrev own : Placed
  own = placed first acts key o true

  new : has_order acts o.order ≡ false
  new = is_new first acts key o true s slice next

  found : AllFound same_item o.lines o.lines
  found = lines_found first acts key o true s slice next

  -- what is reserved for a line
  abbrev served : OrderLine → ℕ
  served l = reserved_for (next_number acts) (plan first after l.gtin)

  module _ (l : OrderLine) (there : find (same_item l) o.lines ≡ Some l) where
    abbrev g : List ℕ
    g = l.gtin

    touched : is_touched first act acts g ≡ true
    touched = sym (any_found (same_item l) o.lines) ∙ ap is_some there

    -- it is no more than the line asks for
    abbrev under : Booking → ℕ
    under b = if next_number acts == b.act then need after (item_postings first after g) b else 0

    own_wants : total under (lines_of_item g own) ≡ l.qty
    own_wants =
        ap (λ ls. total under (map (booking_of own) ls)) (line_found g o.lines (is_single first acts key o true s slice next) ∙ ap listed there)
        ∙ ap (λ b. (if b then need after (item_postings first after g) (booking_of own l) else 0) + 0) (eq-eqb (next_number acts) (next_number acts) refl)
        ∙ ap (λ n. n + 0) (line_needs first acts key o true next.0 new (is_single first acts key o true s slice next) l)
        ∙ omega arith

    served_within : served l ≤ l.qty
    served_within =
        omega (
          arith,
          served_within_need (next_number acts) (demands first after g) (supplies first after g),
          wanted_either_way first after g (next_number acts) (demands first after g),
          demands_told first after g (next_number acts),
          own_wants,
          none_of_orders first after g (next_number acts) (orders acts) (orders_numbered acts).below,
        )

    -- and is put
    line_put : total (λ (r : ReservedRow). if same_text o.order r.order then r.qty else 0) (urgent_replanned s o g).put ≡ served l
    line_put =
        put_units first acts act s slice refl next g touched s.meta.day (rows_after_urgent s o) (earliest_told first acts act s slice refl next.0 g touched)
        (demands_after first acts key o s slice next g touched) (supplies_after first acts key o s slice next g touched)
        own (new_is_not_named first acts next.0 o.order new) (named_own first acts key o true o.order (same_text_refl o.order))

  lines_split : (ls : List OrderLine) → AllFound same_item o.lines ls → total (λ l. l.qty - served l) ls + total served ls ≡ total (λ l. l.qty) ls
  lines_split [] h = refl
  lines_split (l ∷ ls) h = omega (arith, served_within l h.0, lines_split ls h.1)

  lines_put : (ls : List OrderLine) → AllFound same_item o.lines ls
      → total (λ (l : OrderLine). total (λ (r : ReservedRow). if same_text o.order r.order then r.qty else 0) (urgent_replanned s o l.gtin).put) ls ≡ total served ls
  lines_put [] h = refl
  lines_put (l ∷ ls) h = λ i. line_put l h.0 i + lines_put ls h.1 i

  all_put : total (λ (r : ReservedRow). if same_text o.order r.order then r.qty else 0) (urgent_put s o) ≡ total served o.lines
  all_put =
      let own_units : ReservedRow → ℕ = λ r. if same_text o.order r.order then r.qty else 0 in
      total_flat_map own_units (λ g. (urgent_replanned s o g).put) (items_ordered o.lines)
      ∙ total_map (λ g. total own_units (urgent_replanned s o g).put) (λ (l : OrderLine). l.gtin) o.lines
      ∙ lines_put o.lines found

  short_told : short_with o (urgent_put s o) ≡ short_of_order first after o.order
  short_told =
      told (total (λ l. l.qty) o.lines) (total served o.lines) (total (λ l. l.qty - served l) o.lines) (total (λ (r : ReservedRow). if same_text o.order r.order then r.qty else 0) (urgent_put s o))
      (little_wanted o.lines (are_sound first acts key o true s slice next)) all_put (lines_split o.lines found)
      ∙ sym (short_is first acts key o true next.0 new (is_single first acts key o true s slice next) found)
    where
      told : (asked reserved short put : ℕ) → asked ≤ ORDER_LINES_MAX * QTY_MAX → put ≡ reserved → short + reserved ≡ asked → capped asked - capped put ≡ short
      told asked reserved short put little same split = omega (arith, little, same, split)

  pub urgent_text : reply_text (number_seen s) (Some (UnitsShort (short_with o (urgent_put s o)))) ≡ reply first act acts
  urgent_text = λ i. codes "{\"act\":" ++ decimal (number_is first acts key o true s slice next i) ++ short_field (short_told i) ++ codes "}"
