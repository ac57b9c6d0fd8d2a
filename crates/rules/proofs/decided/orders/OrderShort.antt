-- What the plans leave short of an order that an act places, line by line.
use Rattle.rules.proofs.Words.{◌≡◌, ℕ, ◌+◌, ◌-◌, ◌*◌, ◌≤◌, Bool, true, false, ◌&&◌, List, [], ◌∷◌, refl, ap, sym, ◌∙◌, arith, if◌then◌else◌, ℤ, Some, find, filter, map, flat_map, length, nat_le, list_all, list_any, nat_tests, QTY_MAX, same_text, is_qty, is_gtin, total, has_order_lines, ORDER_LINES_MAX, is_order_line, are_lines, Key, OrderLine, NewOrder, reserved_for, Act, next_number, Placed, orders, has_order, lines_placed, Booking, booking_of, bookings, lines_of_item, plan, short_of, short_of_order, need, item_postings, IsHistory, names_item_twice, capped, and_both, or_none, same_text_refl, AllFound, any_found, at_most_limit, total_kept}
use Rattle.rules.proofs.rows.BookingSums.{total_flat_map, total_bookings}
use Rattle.rules.proofs.rows.DemandsTold.{listed, line_found}
use Rattle.rules.proofs.decided.orders.Placing.{new_needs, orders_are, need_same}
use Rattle.rules.proofs.decided.orders.OrderStep.{after, placed, named_own}
use Rattle.rules.proofs.decided.orders.OrderTells.{same_item}

-- Sound lines want little together

wanted_within : (ls : List OrderLine) → list_all is_order_line ls ≡ true → total (λ l. l.qty) ls ≤ length ls * QTY_MAX
wanted_within [] e = omega arith
wanted_within (l ∷ ls) e =
    let two = and_both (is_order_line l) (list_all is_order_line ls) e in
    let one : l.qty ≤ QTY_MAX = at_most_limit l.qty (and_both (is_gtin l.gtin) (is_qty l.qty) two.0).1 in
    omega (arith, one, wanted_within ls two.1)

few_lines : (n : ℕ) → nat_le 1 n && nat_le n ORDER_LINES_MAX ≡ true → n ≤ ORDER_LINES_MAX
few_lines n e = let h = (and_both (nat_le 1 n) (nat_le n ORDER_LINES_MAX) e).1 in grind (arith, nat_tests, h)

pub little_wanted : (ls : List OrderLine) → are_lines ls ≡ true → total (λ l. l.qty) ls ≤ ORDER_LINES_MAX * QTY_MAX
little_wanted ls e =
    let two = and_both (has_order_lines ls) (list_all is_order_line ls) e in
    omega (arith, few_lines (length ls) two.0, wanted_within ls two.1)

left_within : (less : OrderLine → ℕ) (ls : List OrderLine) → total (λ l. l.qty - less l) ls ≤ total (λ l. l.qty) ls
left_within less [] = omega arith
left_within less (l ∷ ls) = omega (arith, left_within less ls)

pub little_left : (less : OrderLine → ℕ) (ls : List OrderLine) → are_lines ls ≡ true → capped (total (λ l. l.qty - less l) ls) ≡ total (λ l. l.qty - less l) ls
little_left less ls e = omega (arith, little_wanted ls e, left_within less ls)

module _ (first : ℤ) (acts : List Act) (key : Key) (o : NewOrder) (u : Bool) (history : IsHistory first acts) (new : has_order acts o.order ≡ false) (single : names_item_twice o.lines ≡ false) where
  abbrev later : List Act
  later = after first acts key o u

  abbrev own : Placed
  own = placed first acts key o u

  -- what a booking of the order is short of
  abbrev own_short : Booking → ℕ
  own_short b = if same_text o.order b.order then short_of first later b else 0

  other_line : (p : Placed) → same_text o.order p.order ≡ false → (ls : List OrderLine) → total own_short (map (booking_of p) ls) ≡ 0
  other_line p e [] = refl
  other_line p e (l ∷ ls) = let z : own_short (booking_of p l) ≡ 0 = ap (λ b. if b then short_of first later (booking_of p l) else 0) e in omega (arith, z, other_line p e ls)

  other_orders : (g : List ℕ) (ps : List Placed) → list_any (λ (p : Placed). same_text o.order p.order) ps ≡ false → total (λ p. total own_short (lines_of_item g p)) ps ≡ 0
  other_orders g [] e = refl
  other_orders g (p ∷ ps) e =
      let two = or_none (same_text o.order p.order) (list_any (λ (p : Placed). same_text o.order p.order) ps) e in
      omega (arith, other_line p two.0 (filter (λ l. same_text g l.gtin) p.lines), other_orders g ps two.1)

  item_short : (g : List ℕ) → total own_short (bookings later g) ≡ total own_short (lines_of_item g own)
  item_short g =
      let none : list_any (λ (p : Placed). same_text o.order p.order) (orders acts) ≡ false = sym (any_found (λ (p : Placed). same_text o.order p.order) (orders acts)) ∙ new in
      total_bookings own_short later g
      ∙ ap (total (λ p. total own_short (lines_of_item g p))) (orders_are first acts key o u)
      ∙ omega (arith, other_orders g (orders acts) none)

  -- a line needs all that it asks for
  pub line_needs : (l : OrderLine) → need later (item_postings first later l.gtin) (booking_of own l) ≡ l.qty
  line_needs l = need_same first acts key o u (booking_of own l) l.gtin ∙ new_needs first acts history (booking_of own l) new

  line_short : (l : OrderLine) → find (same_item l) o.lines ≡ Some l → total own_short (lines_of_item l.gtin own) ≡ l.qty - reserved_for (next_number acts) (plan first later l.gtin)
  line_short l found =
      ap (λ ls. total own_short (map (booking_of own) ls)) (line_found l.gtin o.lines single ∙ ap listed found)
      ∙ ap (λ b. (if b then short_of first later (booking_of own l) else 0) + 0) (same_text_refl o.order)
      ∙ ap (λ n. n - reserved_for (next_number acts) (plan first later l.gtin) + 0) (line_needs l)
      ∙ omega arith

  lines_short : (ls : List OrderLine) → AllFound same_item o.lines ls → total (λ l. total own_short (bookings later l.gtin)) ls ≡ total (λ l. l.qty - reserved_for (next_number acts) (plan first later l.gtin)) ls
  lines_short [] h = refl
  lines_short (l ∷ ls) h = λ i. (item_short l.gtin ∙ line_short l h.0) i + lines_short ls h.1 i

  pub short_is : AllFound same_item o.lines o.lines → short_of_order first later o.order ≡ total (λ l. l.qty - reserved_for (next_number acts) (plan first later l.gtin)) o.lines
  short_is found =
      ap (λ ls. total (λ b. short_of first later b) (filter (λ b. same_text o.order b.order) (flat_map (λ (l : OrderLine). bookings later l.gtin) ls)))
      (ap lines_placed (named_own first acts key o u o.order (same_text_refl o.order)))
      ∙ total_kept (λ b. short_of first later b) (λ b. same_text o.order b.order) (flat_map (λ (l : OrderLine). bookings later l.gtin) o.lines)
      ∙ total_flat_map own_short (λ (l : OrderLine). bookings later l.gtin) o.lines
      ∙ lines_short o.lines found
