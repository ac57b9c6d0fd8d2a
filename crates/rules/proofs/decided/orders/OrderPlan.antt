-- After an order the plan of each of its items has the rows of before, and behind them those of its line.
use Rattle.rules.proofs.Words.{◌≡◌, ℕ, ◌+◌, true, false, ◌&&◌, not, List, [], ◌∷◌, ◌++◌, refl, ap, sym, subst, ◌∙◌, arith, ◌==◌, if◌then◌else◌, ℤ, Option, Some, None, find, filter, map, flat_map, reverse, list_any, cons_option, eqb-true, reverse-append, same_text, LotId, Key, OrderLine, NewOrder, OrderRow, LotRow, Demand, Supply, Row, Stretch, overlap, row_of, rows_of_demand, rows_from, plan_rows, supplies_laid, demand_total, reserved_in, reserved_for, total-append, plan_rows-append, Act, next_number, of_item, Placed, KnownLot, orders, order_named, has_order, lot_known, is_urgent, is_normal, booking_of, lines_of_item, bookings, demand_of, demands, supplies, item_postings, plan, reserved, reserved_of, IsHistory, named_row, named_rows, or_none, same_text_is, same_text_refl, AreApart, demands_apart, act_names_order, map_appended, append_assoc}
use Rattle.rules.proofs.decided.orders.Placing.{new_needs}
use Rattle.rules.proofs.decided.orders.OrderStep.{act, after, placed, named_same}

-- Rows of other bookings

abbrev pub NotBooked : ℕ → List Row → Type 0
NotBooked n [] = Unit {0}
NotBooked n (r ∷ rs) = ((r.booking == n) ≡ false) × NotBooked n rs

abbrev pub Others : ℕ → List Demand → Type 0
Others n [] = Unit {0}
Others n (d ∷ ds) = ((d.booking == n) ≡ false) × Others n ds

not_booked_append : (n : ℕ) (xs ys : List Row) → NotBooked n xs → NotBooked n ys → NotBooked n (xs ++ ys)
not_booked_append n [] ys h k = k
not_booked_append n (x ∷ xs) ys h k = (h.0, not_booked_append n xs ys h.1 k)

not_of_demand : (n : ℕ) (d : Stretch) (ss : List Stretch) → (d.name == n) ≡ false → NotBooked n (rows_of_demand ss d)
not_of_demand n d [] e = tt
not_of_demand n d (s ∷ ss) e = elim (overlap d s == 0) as (λ b. NotBooked n (if not b then row_of d s ∷ rows_of_demand ss d else rows_of_demand ss d)) [
  | true ↦ not_of_demand n d ss e
  | false ↦ (e, not_of_demand n d ss e)
]

pub not_booked : (n x : ℕ) (ds : List Demand) (ss : List Supply) → Others n ds → NotBooked n (rows_from x ds ss)
not_booked n x [] ss h = tt
not_booked n x (d ∷ ds) ss h =
    let own : Stretch = record { name = d.booking; start = x; stop = x + d.need } in
    not_booked_append n (rows_of_demand (supplies_laid 0 ss) own) (rows_from (x + d.need) ds ss) (not_of_demand n own (supplies_laid 0 ss) h.0) (not_booked n (x + d.need) ds ss h.1)

pub none_in : (n k : ℕ) (rows : List Row) → NotBooked n rows → reserved_in n k rows ≡ 0
none_in n k [] h = refl
none_in n k (r ∷ rs) h = let z : (if (r.booking == n) && (r.lot == k) then r.qty else 0) ≡ 0 = ap (λ b. if b && (r.lot == k) then r.qty else 0) h.0 in omega (arith, z, none_in n k rs h.1)

none_for : (n : ℕ) (rows : List Row) → NotBooked n rows → reserved_for n rows ≡ 0
none_for n [] h = refl
none_for n (r ∷ rs) h = let z : (if r.booking == n then r.qty else 0) ≡ 0 = ap (λ b. if b then r.qty else 0) h.0 in omega (arith, z, none_for n rs h.1)

-- Behind rows of other bookings, the rows of a booking are all that it has

pub for_behind : (n : ℕ) (xs ys : List Row) → NotBooked n xs → reserved_for n (xs ++ ys) ≡ reserved_for n ys
for_behind n xs ys h = omega (arith, none_for n xs h, total-append (λ (r : Row). if r.booking == n then r.qty else 0) xs ys)

pub named_behind : (order : OrderRow) (lots : List LotRow) (xs ys : List Row) → NotBooked order.act xs → named_rows (order ∷ []) lots (xs ++ ys) ≡ named_rows (order ∷ []) lots ys
named_behind order lots [] ys h = refl
named_behind order lots (r ∷ rs) ys h =
    ap (λ b. cons_option (named_row (if b then Some order else None) (find (λ k. r.lot == k.came) lots) r.qty) (named_rows (order ∷ []) lots (rs ++ ys))) h.0
    ∙ named_behind order lots rs ys h.1

-- The demands after an order

last_apart : (n : ℕ) (ds : List Demand) (d : Demand) → list_any (λ (e : Demand). n == e.booking) (ds ++ d ∷ []) ≡ false → (n == d.booking) ≡ false
last_apart n [] d h = (or_none (n == d.booking) false h).0
last_apart n (c ∷ ds) d h = last_apart n ds d (or_none (n == c.booking) _ h).1

others_before : (ds : List Demand) (d : Demand) → AreApart (λ (d e : Demand). d.booking == e.booking) (ds ++ d ∷ []) → Others d.booking ds
others_before [] d h = tt
others_before (c ∷ ds) d h = (last_apart c.booking ds d h.0, others_before ds d h.1)

module _ (first : ℤ) (acts : List Act) (key : Key) (o : NewOrder) (next : IsHistory first (act first acts key o false ∷ acts)) (new : has_order acts o.order ≡ false)
    (l : OrderLine) (alone : filter (λ m. same_text l.gtin m.gtin) o.lines ≡ l ∷ []) where
  abbrev g : List ℕ
  g = l.gtin

  abbrev own : Placed
  own = placed first acts key o false

  -- the demand of the line
  abbrev pub line_demand : Demand
  line_demand = record { booking = next_number acts; need = l.qty }

  bookings_after : bookings (after first acts key o false) g ≡ bookings acts g ++ booking_of own l ∷ []
  bookings_after =
      let ones = reverse (flat_map (lines_of_item g) (filter is_urgent (orders acts))) in
      let others = flat_map (lines_of_item g) (filter is_normal (orders acts)) in
      ap (λ (ls : List OrderLine). ones ++ reverse (map (booking_of own) ls ++ others)) alone
      ∙ ap (λ bs. ones ++ bs) (reverse-append (booking_of own l ∷ []) others)
      ∙ sym (append_assoc ones (reverse others) (booking_of own l ∷ []))

  demands_after : demands first (after first acts key o false) g ≡ demands first acts g ++ line_demand ∷ []
  demands_after =
      ap (map (demand_of acts (item_postings first acts g))) bookings_after
      ∙ map_appended (demand_of acts (item_postings first acts g)) (bookings acts g) (booking_of own l ∷ [])
      ∙ ap (λ n. demands first acts g ++ record { booking = next_number acts; need = n } ∷ []) (new_needs first acts next.0 (booking_of own l) new)

  -- the rows of the line
  abbrev pub line_rows : List Row
  line_rows = rows_from (demand_total (demands first acts g)) (line_demand ∷ []) (supplies first acts g)

  pub plan_after : plan first (after first acts key o false) g ≡ plan first acts g ++ line_rows
  plan_after =
      ap (λ ds. plan_rows ds (supplies first acts g)) demands_after
      ∙ plan_rows-append (demands first acts g) (line_demand ∷ []) (supplies first acts g)

  -- none of the rows of before is of the order
  pub others_booked : NotBooked (next_number acts) (plan first acts g)
  others_booked =
      not_booked (next_number acts) 0 (demands first acts g) (supplies first acts g)
      (others_before (demands first acts g) line_demand (subst (AreApart (λ (d e : Demand). d.booking == e.booking)) demands_after (demands_apart first (after first acts key o false) g next)))

  -- Other orders keep their reservations

  other_number : (q : List ℕ) (w : Placed) → same_text q o.order ≡ false → order_named acts q ≡ Some w → (next_number acts == w.act) ≡ false
  other_number q w e named = elim (next_number acts == w.act) as (λ b. (next_number acts == w.act) ≡ b → b ≡ false) [
    | true ↦ λ t.
        let same : q ≡ o.order =
        act_names_order (after first acts key o false) q o.order w own (named_same first acts key o false q e ∙ named) (ap (λ b. if b then Some own else order_named acts o.order) (same_text_refl o.order)) (sym (eqb-true (next_number acts) w.act t)) in
        sym (ap (λ (x : List ℕ). same_text x o.order) same ∙ same_text_refl o.order) ∙ e
    | false ↦ λ t. refl
  ] refl

  by_names : (q : List ℕ) → same_text q o.order ≡ false → (x : Option Placed) (y : Option KnownLot) → order_named acts q ≡ x
      → reserved_of x y (plan first (after first acts key o false) g) ≡ reserved_of x y (plan first acts g)
  by_names q e None y f = refl
  by_names q e (Some w) None f = refl
  by_names q e (Some w) (Some k) f =
      let none : reserved_in w.act k.came line_rows ≡ 0 = none_in w.act k.came line_rows (not_booked w.act (demand_total (demands first acts g)) (line_demand ∷ []) (supplies first acts g) (other_number q w e f, tt)) in
      ap (reserved_in w.act k.came) plan_after
      ∙ omega (arith, none, total-append (λ (r : Row). if (r.booking == w.act) && (r.lot == k.came) then r.qty else 0) (plan first acts g) line_rows)

  pub others_keep : (q : List ℕ) (m : LotId) → same_text q o.order ≡ false → of_item g m ≡ true → reserved first (after first acts key o false) q m ≡ reserved first acts q m
  others_keep q m e own_item =
      (λ i. reserved_of (named_same first acts key o false q e i) (lot_known acts m) (plan first (after first acts key o false) (sym item i)))
      ∙ by_names q e (order_named acts q) (lot_known acts m) refl
      ∙ ap (λ (x : List ℕ). reserved_of (order_named acts q) (lot_known acts m) (plan first acts x)) item
    where
      item : g ≡ m.gtin
      item = same_text_is g m.gtin own_item
