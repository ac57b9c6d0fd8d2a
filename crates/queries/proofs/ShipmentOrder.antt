-- The tables tell of the line of a shipment what the machine does.
use Rattle.queries.proofs.Words.{◌≡◌, ◌<◌, ◌≤◌, ℕ, suc, ◌+◌, Bool, true, false, List, [], ◌∷◌, map, find, reverse, length, Option, Some, None, inl, inr, refl, sym, ap, ◌∙◌, subst, arith, lit≤, ℤ, nat_eq, nat_le, if◌then◌else◌, option_map, is_some, AllByRecursion, nat_tests, reverse-append, IsPermutation-reverse, IsPermutation-sym, IsAscending, Has, all_has, all-append, all_weaker, all-filter, all_map, ascending-append, same_text, LotId, Key, Command, Order, Ship, Urgent, ACTS_MAX, OrderRow, ShiplineRow, ShipmentRow, ShippedUnits, Act, order_state, Placed, orders, order_named, has_order, shipments, shipments_after, shipments_so_far, shipment_row, tables_of, IsHistory, verdict, shipments_of_lot, shipped_units, has_shipped_units, customer_of, room_for_acts, ship_accepted, shipments_within_acts, same_number, itself_number, few_with_key, found_alike, with_order, with_shipment, units_told}

pub all_reversed : {X : Type 0} (P : X → Type 0) (xs : List X) → AllByRecursion P xs → AllByRecursion P (reverse xs)
all_reversed P [] all = tt
all_reversed P (x ∷ xs) all = subst (AllByRecursion P) (sym (reverse-append (x ∷ []) xs)) (all-append P (reverse xs) (x ∷ []) (all_reversed P xs all.1) (all.0, tt))

-- ---- numbers of shipments

abbrev pub Falls : ℕ → List ShipmentRow → Type 0
Falls n rows = IsAscending (λ (a b : ShipmentRow). b.number < a.number) rows × AllByRecursion (λ (s : ShipmentRow). s.number ≤ n) rows

falling_after : (first : ℤ) (before : List Act) (c : Command) (past : List ShipmentRow) → Falls (length past) past → Falls (length (shipments_after first before c past)) (shipments_after first before c past)
falling_after first before (Ship o) past h =
    ((all_weaker _ (λ (s : ShipmentRow). s.number < length past + 1) (λ s low. omega arith) past h.1, h.0), (omega arith, all_weaker _ (λ (s : ShipmentRow). s.number ≤ suc (length past)) (λ s low. omega arith) past h.1))
falling_after first before _ past h = h

pub falling : (first : ℤ) (acts : List Act) → Falls (length (shipments first acts)) (shipments first acts)
falling first [] = (tt, tt)
falling first (act ∷ before) = falling_after first before act.command (shipments first before) (falling first before)

turned : (rows : List ShipmentRow) → IsAscending (λ (a b : ShipmentRow). b.number < a.number) rows → IsAscending (λ (a b : ShipmentRow). a.number < b.number) (reverse rows)
turned [] down = tt
turned (row ∷ rows) down =
    subst (IsAscending (λ (a b : ShipmentRow). a.number < b.number)) (sym (reverse-append (row ∷ []) rows))
    (ascending-append (λ (a b : ShipmentRow). a.number < b.number) (reverse rows) (row ∷ []) (turned rows down.1) (tt, tt) (below rows down.0))
  where
    below : (xs : List ShipmentRow) → AllByRecursion (λ (b : ShipmentRow). b.number < row.number) xs → AllByRecursion (λ (a : ShipmentRow). AllByRecursion (λ (b : ShipmentRow). a.number < b.number) (row ∷ [])) (reverse xs)
    below [] low = tt
    below (x ∷ xs) low =
        subst (AllByRecursion (λ (a : ShipmentRow). AllByRecursion (λ (b : ShipmentRow). a.number < b.number) (row ∷ []))) (sym (reverse-append (x ∷ []) xs))
        (all-append (λ (a : ShipmentRow). AllByRecursion (λ (b : ShipmentRow). a.number < b.number) (row ∷ [])) (reverse xs) (x ∷ []) (below xs low.1) ((low.0, tt), tt))

-- ---- orders of shipments

found_still : {X : Type 0} (test : X → Bool) (x : X) (xs : List X) → is_some (find test xs) ≡ true → is_some (find test (x ∷ xs)) ≡ true
found_still test x xs h = elim (test x) as (λ b. is_some (if b then Some x else find test xs) ≡ true) [ true ↦ refl | false ↦ h ]

order_stays : (before : List Act) (key : Key) (c : Command) (o : List ℕ) → has_order before o ≡ true → has_order (record { key = key; command = c } ∷ before) o ≡ true
order_stays before key (Order n) o h = found_still (λ (p : Placed). same_text o p.order) _ (orders before) h
order_stays before key (Urgent n) o h = found_still (λ (p : Placed). same_text o p.order) _ (orders before) h
order_stays before key _ o h = h

have_orders : (first : ℤ) (acts : List Act) → IsHistory first acts → AllByRecursion (λ (s : ShipmentRow). has_order acts s.order ≡ true) (shipments first acts)
have_orders first [] history = tt
have_orders first (act ∷ before) history =
    after act.command history.1.passes (all_weaker _ (λ (s : ShipmentRow). has_order (act ∷ before) s.order ≡ true) (λ s h. order_stays before act.key act.command s.order h) (shipments first before) (have_orders first before history.0))
  where
    after : (c : Command) → verdict first before c ≡ None → AllByRecursion (λ (s : ShipmentRow). has_order (act ∷ before) s.order ≡ true) (shipments first before)
        → AllByRecursion (λ (s : ShipmentRow). has_order (act ∷ before) s.order ≡ true) (shipments_after first before c (shipments first before))
    after (Ship o) ok past = (order_stays before act.key act.command o (ship_accepted first before o ok).order, past)
    after _ ok past = past

-- ---- how many there are

pub acts_within : (first : ℤ) (acts : List Act) → IsHistory first acts → length acts ≤ ACTS_MAX
acts_within first [] history = lit≤ tt
acts_within first (act ∷ before) history = let room = one_more (length before) (room_for_acts first before act.command history.1.passes) in omega (arith, room)
  where
    one_more : (n : ℕ) → nat_le ACTS_MAX n ≡ false → n < ACTS_MAX
    one_more n e = grind (arith, nat_tests)

-- ---- the shipments of a lot

module _ (first : ℤ) (acts : List Act) (l : LotId) (history : IsHistory first acts) where
  abbrev pub line_of : ShippedUnits → ShiplineRow
  line_of u = record { number = u.number; lot = l; qty = u.qty }

  abbrev units : List ShippedUnits
  units = shipments_of_lot first acts l

  -- ---- what is told of each

  abbrev IsTold : ShippedUnits → Type 0
  IsTold u = units_told (tables_of first acts) (line_of u) ≡ Some u

  abbrev row_of : List ℕ → Placed → OrderRow
  row_of o p = record { order = p.order; act = p.act; customer = p.customer; state = order_state first acts p.order }

  with_customer : (u : ShippedUnits) (s : ShipmentRow) (p : Option Placed) → is_some p ≡ true → u ≡ record { number = u.number; day = s.day; qty = u.qty; order = s.order; customer = customer_of p }
      → with_order (line_of u) s (option_map (λ p. row_of s.order p) p) ≡ Some u
  with_customer u s None known is = absurd cc
  with_customer u s (Some p) known is = ap Some (sym is)

  number_found : (s : ShipmentRow) → Has (reverse (shipments first acts)) s → shipment_row first acts s.number ≡ Some s
  number_found s there =
      sym (found_alike (λ (r : ShipmentRow). nat_eq s.number r.number) (reverse (shipments first acts)) (shipments first acts) (IsPermutation-sym _ _ (IsPermutation-reverse (shipments first acts)))
      (few_with_key nat_eq same_number itself_number (λ i j. i < j) (λ k low. omega arith) (λ i j k p q. omega arith) (λ (r : ShipmentRow). r.number) s.number (reverse (shipments first acts)) rise))
      ∙ itself_found (reverse (shipments first acts)) rise there
    where
      rise : IsAscending (λ (a b : ShipmentRow). a.number < b.number) (reverse (shipments first acts))
      rise = turned (shipments first acts) (falling first acts).0

      other : (i j : ℕ) → i < j → nat_eq j i ≡ false
      other i j low = grind (arith, nat_tests)

      itself_found : (rows : List ShipmentRow) → IsAscending (λ (a b : ShipmentRow). a.number < b.number) rows → Has rows s → find (λ (r : ShipmentRow). nat_eq s.number r.number) rows ≡ Some s
      itself_found [] up there = absurd there
      itself_found (r ∷ rows) up (inl is) = rw is (rw (itself_number r.number) refl)
      itself_found (r ∷ rows) up (inr there) =
          let off : nat_eq s.number r.number ≡ false = other r.number s.number (all_has (λ (b : ShipmentRow). r.number < b.number) rows s up.0 there) in
          rw off (itself_found rows up.1 there)

  told : (s : ShipmentRow) → Has (reverse (shipments first acts)) s → has_order acts s.order ≡ true → IsTold (shipped_units first acts l s)
  unfolding tables_of
  told s there known =
      let u = shipped_units first acts l s in
      ap (with_shipment (tables_of first acts) (line_of u)) (number_found s there) ∙ with_customer u s (order_named acts s.order) known refl

  all_told : (rows : List ShipmentRow) → ((s : ShipmentRow) → Has rows s → Has (reverse (shipments first acts)) s) → AllByRecursion (λ (s : ShipmentRow). has_order acts s.order ≡ true) rows → AllByRecursion IsTold (map (shipped_units first acts l) rows)
  all_told [] within orders = tt
  all_told (s ∷ rows) within orders = (told s (within s (inl refl)) orders.0, all_told rows (λ r there. within r (inr there)) orders.1)

  -- the books tell of each line what the machine does
  pub units_all_told : AllByRecursion IsTold units
  units_all_told = all-filter IsTold has_shipped_units (map (shipped_units first acts l) (reverse (shipments first acts))) (all_told (reverse (shipments first acts)) (λ s there. there) (all_reversed (λ (s : ShipmentRow). has_order acts s.order ≡ true) (shipments first acts) (have_orders first acts history)))

  -- no number is too big to be read
  pub numbers_small : AllByRecursion (λ (u : ShippedUnits). u.number ≤ ACTS_MAX) units
  numbers_small =
      let few : shipments_so_far first acts ≤ ACTS_MAX = omega (arith, shipments_within_acts first acts, acts_within first acts history) in
      all-filter (λ (u : ShippedUnits). u.number ≤ ACTS_MAX) has_shipped_units (map (shipped_units first acts l) (reverse (shipments first acts)))
      (all_map (λ (u : ShippedUnits). u.number ≤ ACTS_MAX) (shipped_units first acts l) (reverse (shipments first acts))
      (all_reversed (λ (s : ShipmentRow). s.number ≤ ACTS_MAX) (shipments first acts)
      (all_weaker _ (λ (s : ShipmentRow). s.number ≤ ACTS_MAX) (λ s low. omega (arith, low, few)) (shipments first acts) (falling first acts).1)))
