-- A pick takes its units from its own reservation and from no other.
use Rattle.machine.proofs.Words.{◌≡◌, ℕ, ◌+◌, ◌-◌, ◌≤◌, Bool, true, false, ◌&&◌, List, [], ◌∷◌, ◌++◌, refl, ap, sym, subst, ◌∙◌, arith, eq-eqb, ◌==◌, ◌||◌, if◌then◌else◌, ℤ, Option, Some, None, is_some, filter, map, reverse, flat_map, nat_eq, list_any, eqb-true, reverse-append, same_text, is_name, is_qty, LotId, placed, in_order, is_lot_id, Key, OrderLine, Picking, Pick, Demand, Supply, AreBookingsDistinct, AreLotsDistinct, plan_rows, reserved_in, need_lowered, avail_lowered, lowering_disturbs_none, Act, next_number, Place, InBin, Stage, Posting, balance, is_stage, is_shipped_to, is_lot, of_item, KnownLot, Placed, lots, lots_of, lot_known, is_shippable, orders, order_named, is_cancelled, postings, is_urgent, is_normal, Booking, booking_of, lines_of_item, bookings, need, demand_of, demands, supply_of, supplies, shippable_lots, goes_before, item_postings, staged, shipped, in_store, store_units, plan, reserved, reserved_of, IsHistory, PickDisturbsNone}
use Rattle.machine.proofs.Tests.{same_text_is, same_text_refl, same_text_turned, is_lot_is, is_lot_refl, is_lot_item, same_tests, some_one, and_both}
use Rattle.machine.proofs.Apart.{AllFound, AreApart, distinct_names, found_kept}
use Rattle.machine.proofs.histories.Quantities.{at_least_one}
use Rattle.machine.proofs.histories.Accepted.{PickAccepted, pick_accepted}
use Rattle.machine.proofs.histories.Balances.{holds_posted, balance-elsewhere_of}
use Rattle.machine.proofs.histories.Served.{demands_apart}
use Rattle.machine.proofs.histories.Cells.{Cells}
use Rattle.machine.proofs.histories.ItemBalances.{balance-of_item}
use Rattle.machine.proofs.histories.LegalHistories.{legal_history}
use Rattle.machine.proofs.histories.Lots.{same_known, lots_found, found_lot, receipt_names_lot}
use Rattle.machine.proofs.histories.Orders.{same_order, orders_found, found_order, act_names_order}
use Rattle.machine.proofs.histories.OtherItems.{other_items_are_left_alone}
use Rattle.machine.proofs.histories.PlanRows.{Distinct, shippable_distinct}

-- No number stands twice

apart_of_distinct : {X : Type 0} (number : X → ℕ) (xs : List X) → Distinct number xs → AreApart (λ x y. number x == number y) xs
apart_of_distinct number [] h = tt
apart_of_distinct number (x ∷ xs) h = (h.0, apart_of_distinct number xs h.1)

apart_supplied : (f : KnownLot → Supply) → ((k : KnownLot) → (f k).lot ≡ k.came) → (ks : List KnownLot) → AreApart (λ (k j : KnownLot). k.came == j.came) ks → AreApart (λ (s t : Supply). s.lot == t.lot) (map f ks)
apart_supplied f named [] h = tt
apart_supplied f named (k ∷ ks) h = (others ks ∙ h.0, apart_supplied f named ks h.1)
  where
    others : (js : List KnownLot) → list_any (λ (s : Supply). (f k).lot == s.lot) (map f js) ≡ list_any (λ (j : KnownLot). k.came == j.came) js
    others [] = refl
    others (j ∷ js) = (λ i. (named k i == named j i) || others js i)

pub bookings_distinct : (first : ℤ) (acts : List Act) (g : List ℕ) → IsHistory first acts → AreBookingsDistinct (demands first acts g)
bookings_distinct first acts g history = distinct_names nat_eq (λ (d : Demand). d.booking) (demands first acts g) (demands_apart first acts g history)

pub lots_are_distinct : (first : ℤ) (acts : List Act) (g : List ℕ) → AreLotsDistinct (supplies first acts g)
lots_are_distinct first acts g =
    distinct_names nat_eq (λ (s : Supply). s.lot) (supplies first acts g)
    (apart_supplied (supply_of acts (item_postings first acts g)) (λ k. refl) (shippable_lots first acts g) (apart_of_distinct (λ (k : KnownLot). k.came) (shippable_lots first acts g) (shippable_distinct first acts g)))

-- What is said of each element of a list

abbrev pub Each : {X : Type 0} → (X → Type 0) → List X → Type 0
Each P [] = Unit {0}
Each P (x ∷ xs) = P x × Each P xs

pub each_append : {X : Type 0} (P : X → Type 0) (xs ys : List X) → Each P xs → Each P ys → Each P (xs ++ ys)
each_append P [] ys h k = k
each_append P (x ∷ xs) ys h k = (h.0, each_append P xs ys h.1 k)

pub each_reversed : {X : Type 0} (P : X → Type 0) (xs : List X) → Each P xs → Each P (reverse xs)
each_reversed P [] h = tt
each_reversed P (x ∷ xs) h = subst (Each P) (sym (reverse-append (x ∷ []) xs)) (each_append P (reverse xs) (x ∷ []) (each_reversed P xs h.1) (h.0, tt))

pub each_kept : {X : Type 0} (P : X → Type 0) (keep : X → Bool) (xs : List X) → Each P xs → Each P (filter keep xs)
each_kept P keep [] h = tt
each_kept P keep (x ∷ xs) h = elim (keep x) as (λ b. Each P (if b then x ∷ filter keep xs else filter keep xs)) [ true ↦ (h.0, each_kept P keep xs h.1) | false ↦ each_kept P keep xs h.1 ]

each_placed : {X : Type 0} (P : X → Type 0) (before : X → X → Bool) (x : X) (ys : List X) → P x → Each P ys → Each P (placed before x ys)
each_placed P before x [] h k = (h, tt)
each_placed P before x (y ∷ ys) h k = elim (before y x) as (λ b. Each P (if b then y ∷ placed before x ys else x ∷ y ∷ ys)) [ true ↦ (k.0, each_placed P before x ys h k.1) | false ↦ (h, k) ]

pub each_ordered : {X : Type 0} (P : X → Type 0) (before : X → X → Bool) (xs : List X) → Each P xs → Each P (in_order before xs)
each_ordered P before [] h = tt
each_ordered P before (x ∷ xs) h = each_placed P before x (in_order before xs) h.0 (each_ordered P before xs h.1)

-- what each of two functions makes of the elements is the same
same_lowered_needs : (f : Booking → Demand) (e : Booking → Demand) (n q : ℕ) (bs : List Booking)
    → Each (λ b. f b ≡ (if (e b).booking == n then record { booking = (e b).booking; need = (e b).need - q } else e b)) bs → map f bs ≡ need_lowered n q (map e bs)
same_lowered_needs f e n q [] h = refl
same_lowered_needs f e n q (b ∷ bs) h = (λ i. h.0 i ∷ same_lowered_needs f e n q bs h.1 i)

same_lowered_avails : (f e : KnownLot → Supply) (n q : ℕ) (ks : List KnownLot)
    → Each (λ k. f k ≡ (if (e k).lot == n then record { lot = (e k).lot; avail = (e k).avail - q } else e k)) ks → map f ks ≡ avail_lowered n q (map e ks)
same_lowered_avails f e n q [] h = refl
same_lowered_avails f e n q (k ∷ ks) h = (λ i. h.0 i ∷ same_lowered_avails f e n q ks h.1 i)

module _ (first : ℤ) (before : List Act) (key : Key) (p : Picking) (next : IsHistory first (record { key = key; command = Pick p } ∷ before)) (po : Placed) (named : order_named before p.order ≡ Some po) (kl : KnownLot) (known : lot_known before p.lot ≡ Some kl) where
  abbrev act : Act
  act = record { key = key; command = Pick p }

  abbrev after : List Act
  after = act ∷ before

  abbrev g : List ℕ
  g = p.lot.gtin

  abbrev old : List Posting
  old = item_postings first before g

  abbrev new : List Posting
  new = item_postings first after g

  accepted : PickAccepted first before p
  accepted = pick_accepted first before p next.1.passes

  -- Numbers tell names

  order_number : (w : Placed) → order_named before w.order ≡ Some w → (w.act == po.act) ≡ same_text w.order p.order
  order_number w e = same_tests (w.act == po.act) (same_text w.order p.order) there back
    where
      there : (w.act == po.act) ≡ true → same_text w.order p.order ≡ true
      there t = ap (λ (x : List ℕ). same_text w.order x) (sym (act_names_order before w.order p.order w po e named (eqb-true w.act po.act t))) ∙ same_text_refl w.order

      back : same_text w.order p.order ≡ true → (w.act == po.act) ≡ true
      back t = eq-eqb w.act po.act (ap (λ (x : Placed). x.act) (some_one w po (sym e ∙ ap (order_named before) (same_text_is w.order p.order t) ∙ named)))

  lot_number : (k : KnownLot) → lot_known before k.lot ≡ Some k → (k.came == kl.came) ≡ is_lot k.lot p.lot
  lot_number k e = same_tests (k.came == kl.came) (is_lot k.lot p.lot) there back
    where
      there : (k.came == kl.came) ≡ true → is_lot k.lot p.lot ≡ true
      there t = ap (λ (x : LotId). is_lot k.lot x) (sym (receipt_names_lot before k.lot p.lot k kl e known (eqb-true k.came kl.came t))) ∙ is_lot_refl k.lot

      back : is_lot k.lot p.lot ≡ true → (k.came == kl.came) ≡ true
      back t = eq-eqb k.came kl.came (ap (λ (x : KnownLot). x.came) (some_one k kl (sym e ∙ ap (lot_known before) (is_lot_is k.lot p.lot t) ∙ known)))

  -- Demands

  staged_after : (o : List ℕ) → staged new o g ≡ staged old o g + (if same_text o p.order then p.qty else 0)
  staged_after o =
      let w : Cells = λ x l. is_stage o x && of_item g l in
      let moved = holds_posted w (record { supplier = λ l. refl; write_off = λ l. refl }) (next_number before) p.lot (InBin p.bin) (Stage p.order) p.qty (postings first before) accepted.there (legal_history first before next.0) in
      balance-of_item (is_stage o) g (of_item g) (λ l e. e) (postings first after)
      ∙ settled (same_text o p.order) (same_text g g) (same_text_refl g) _ _ moved
      ∙ ap (λ n. n + (if same_text o p.order then p.qty else 0)) (sym (balance-of_item (is_stage o) g (of_item g) (λ l e. e) (postings first before)))
    where
      settled : (a b : Bool) → b ≡ true → (m n : ℕ) → m + 0 ≡ n + (if a && b then p.qty else 0) → m ≡ n + (if a then p.qty else 0)
      settled true true e m n h = omega (arith, h)
      settled true false e m n h = let f : false ≡ true = e in cc
      settled false b e m n h = omega (arith, h)

  lowered_need : (c t : Bool) (ordered s u x y q : ℕ) → u ≡ s + (if t then q else 0) → y ≡ x → (if c then 0 else ordered - u - y) ≡ (if t then (if c then 0 else ordered - s - x) - q else (if c then 0 else ordered - s - x))
  lowered_need true true ordered s u x y q e f = omega arith
  lowered_need true false ordered s u x y q e f = refl
  lowered_need false true ordered s u x y q e f = omega (arith, e, f)
  lowered_need false false ordered s u x y q e f = omega (arith, e, f)

  abbrev AgreesOnNeed : Booking → Type 0
  AgreesOnNeed b = demand_of after new b ≡ (if b.act == po.act then record { booking = b.act; need = need before old b - p.qty } else demand_of before old b)

  booked : (w : Placed) → order_named before w.order ≡ Some w → (l : OrderLine) → g ≡ l.gtin → AgreesOnNeed (booking_of w l)
  booked w e l item =
      (λ i. record { booking = w.act; need = same i }) ∙ chosen (w.act == po.act)
    where
      same : need after new (booking_of w l) ≡ (if w.act == po.act then need before old (booking_of w l) - p.qty else need before old (booking_of w l))
      same =
          lowered_need (is_cancelled before w.order) (w.act == po.act) l.qty (staged old w.order l.gtin) (staged new w.order l.gtin) (shipped old w.order l.gtin) (shipped new w.order l.gtin) p.qty
          (subst (λ (x : List ℕ). staged new w.order x ≡ staged old w.order x + (if w.act == po.act then p.qty else 0)) item (staged_after w.order ∙ ap (λ t. staged old w.order g + (if t then p.qty else 0)) (sym (order_number w e))))
          (subst (λ (x : List ℕ). shipped new w.order x ≡ shipped old w.order x) item
          (balance-elsewhere_of g (is_shipped_to w.order) (of_item g) (next_number before) p.lot (InBin p.bin) (Stage p.order) p.qty (postings first before) refl refl))

      chosen : (t : Bool) → record { booking = w.act; need = if t then need before old (booking_of w l) - p.qty else need before old (booking_of w l) }
          ≡ (if t then record { booking = w.act; need = need before old (booking_of w l) - p.qty } else demand_of before old (booking_of w l))
      chosen true = refl
      chosen false = refl

  lines_agree : (w : Placed) → order_named before w.order ≡ Some w → (ls : List OrderLine) → Each AgreesOnNeed (map (booking_of w) (filter (λ l. same_text g l.gtin) ls))
  lines_agree w e [] = tt
  lines_agree w e (l ∷ ls) = elim (same_text g l.gtin) as (λ b. same_text g l.gtin ≡ b → Each AgreesOnNeed (map (booking_of w) (if b then l ∷ filter (λ l. same_text g l.gtin) ls else filter (λ l. same_text g l.gtin) ls))) [
    | true ↦ λ t. (booked w e l (same_text_is g l.gtin t), lines_agree w e ls)
    | false ↦ λ t. lines_agree w e ls
  ] refl

  orders_agree : (os : List Placed) → AllFound same_order (orders before) os → Each AgreesOnNeed (flat_map (lines_of_item g) os)
  orders_agree [] h = tt
  orders_agree (w ∷ os) h = each_append AgreesOnNeed (lines_of_item g w) (flat_map (lines_of_item g) os) (lines_agree w h.0 w.lines) (orders_agree os h.1)

  demands_after : demands first after g ≡ need_lowered po.act p.qty (demands first before g)
  demands_after =
      same_lowered_needs (demand_of after new) (demand_of before old) po.act p.qty (bookings before g)
      (each_append AgreesOnNeed (reverse (flat_map (lines_of_item g) (filter is_urgent (orders before)))) (reverse (flat_map (lines_of_item g) (filter is_normal (orders before))))
      (each_reversed AgreesOnNeed (flat_map (lines_of_item g) (filter is_urgent (orders before))) (orders_agree (filter is_urgent (orders before)) (found_kept same_order is_urgent (orders before) (orders before) (orders_found first before next.0))))
      (each_reversed AgreesOnNeed (flat_map (lines_of_item g) (filter is_normal (orders before))) (orders_agree (filter is_normal (orders before)) (found_kept same_order is_normal (orders before) (orders before) (orders_found first before next.0)))))

  -- Supplies

  same_places : (x : Place) → in_store after x ≡ in_store before x
  same_places (InBin b) = refl
  same_places _ = refl

  store_before : (l : LotId) → of_item g l ≡ true → store_units before old l ≡ store_units after new l + (if is_lot l p.lot then p.qty else 0)
  store_before l own =
      let w : Cells = λ x m. in_store before x && is_lot l m in
      let moved = holds_posted w (record { supplier = λ m. refl; write_off = λ m. refl }) (next_number before) p.lot (InBin p.bin) (Stage p.order) p.qty (postings first before) accepted.there (legal_history first before next.0) in
      balance-of_item (in_store before) g (is_lot l) only (postings first before)
      ∙ settled (is_lot l p.lot) _ accepted.store _ _ moved
      ∙ ap (λ n. n + (if is_lot l p.lot then p.qty else 0))
      (sym (balance-of_item (in_store before) g (is_lot l) only (postings first after)) ∙ sym (λ i. balance (λ x. same_places x i) (is_lot l) new))
    where
      settled : (a b : Bool) → b ≡ true → (m n : ℕ) → m + (if b && a then p.qty else 0) ≡ n + 0 → n ≡ m + (if a then p.qty else 0)
      settled true true e m n h = omega (arith, h)
      settled false true e m n h = omega (arith, h)
      settled a false e m n h = let f : false ≡ true = e in cc

      only : (m : LotId) → of_item g m ≡ false → is_lot l m ≡ false
      only m e = elim (is_lot l m) as (λ b. is_lot l m ≡ b → b ≡ false) [
        | true ↦ λ t. let f : true ≡ false = sym own ∙ ap (λ (x : LotId). of_item g x) (is_lot_is l m t) ∙ e in cc
        | false ↦ λ t. refl
      ] refl

  abbrev AgreesOnAvail : KnownLot → Type 0
  AgreesOnAvail k = supply_of after new k ≡ (if k.came == kl.came then record { lot = k.came; avail = store_units before old k.lot - p.qty } else supply_of before old k)

  supplied : (k : KnownLot) → lot_known before k.lot ≡ Some k → of_item g k.lot ≡ true → AgreesOnAvail k
  supplied k e own = by_test (k.came == kl.came) (store_before k.lot own ∙ ap (λ t. store_units after new k.lot + (if t then p.qty else 0)) (sym (lot_number k e)))
    where
      by_test : (t : Bool) → store_units before old k.lot ≡ store_units after new k.lot + (if t then p.qty else 0)
          → supply_of after new k ≡ (if t then record { lot = k.came; avail = store_units before old k.lot - p.qty } else supply_of before old k)
      by_test true h = let same : store_units after new k.lot ≡ store_units before old k.lot - p.qty = omega (arith, h) in (λ i. record { lot = k.came; avail = same i })
      by_test false h = let same : store_units after new k.lot ≡ store_units before old k.lot = omega (arith, h) in (λ i. record { lot = k.came; avail = same i })

  lots_agree : (ks : List KnownLot) → AllFound same_known (lots before) ks → Each AgreesOnAvail (filter (λ k. of_item g k.lot) ks)
  lots_agree [] h = tt
  lots_agree (k ∷ ks) h = elim (of_item g k.lot) as (λ b. of_item g k.lot ≡ b → Each AgreesOnAvail (if b then k ∷ filter (λ k. of_item g k.lot) ks else filter (λ k. of_item g k.lot) ks)) [
    | true ↦ λ t. (supplied k h.0 t, lots_agree ks h.1)
    | false ↦ λ t. lots_agree ks h.1
  ] refl

  supplies_after : supplies first after g ≡ avail_lowered kl.came p.qty (supplies first before g)
  supplies_after =
      same_lowered_avails (supply_of after new) (supply_of before old) kl.came p.qty (shippable_lots first before g)
      (each_ordered AgreesOnAvail goes_before (filter (is_shippable first before) (lots_of before g))
      (each_kept AgreesOnAvail (is_shippable first before) (lots_of before g) (lots_agree (lots before) (lots_found before))))

  -- The plan

  some_picked : 1 ≤ p.qty
  some_picked = at_least_one p.qty (and_both (is_name p.order && is_lot_id p.lot && is_name p.bin) (is_qty p.qty) next.1.sound.command).1

  taken : (n k : ℕ) → reserved_in n k (plan first before g) ≡ reserved_in n k (plan first after g) + (if (po.act == n) && (kl.came == k) then p.qty else 0)
  taken n k =
      lowering_disturbs_none (demands first before g) (supplies first before g) po.act kl.came p.qty (bookings_distinct first before g next.0) (lots_are_distinct first before g) some_picked
      (subst (λ m. p.qty ≤ m) (λ i. reserved_of (named i) (known i) (plan first before g)) accepted.is_reserved) n k
      ∙ (λ i. reserved_in n k (plan_rows (sym demands_after i) (sym supplies_after i)) + (if (po.act == n) && (kl.came == k) then p.qty else 0))

  -- Reservations

  turned : (a b : ℕ) → (a == b) ≡ (b == a)
  turned a b = same_tests (a == b) (b == a) (λ e. eq-eqb b a (sym (eqb-true a b e))) (λ e. eq-eqb a b (sym (eqb-true b a e)))

  by_names : (o : List ℕ) (l : LotId) (x : Option Placed) (y : Option KnownLot) → order_named before o ≡ x → lot_known before l ≡ y
      → reserved_of x y (plan first before g) ≡ reserved_of x y (plan first after g) + (if same_text o p.order && is_lot l p.lot then p.qty else 0)
  by_names o l None y e f = nothing (same_text o p.order) (is_lot l p.lot) (not_named (same_text o p.order) refl)
    where
      not_named : (t : Bool) → same_text o p.order ≡ t → t ≡ false
      not_named true t = let none : ◌≡◌ {A = Option Placed} None (Some po) = sym e ∙ ap (order_named before) (same_text_is o p.order t) ∙ named in cc
      not_named false t = refl

      nothing : (a b : Bool) → a ≡ false → 0 ≡ 0 + (if a && b then p.qty else 0)
      nothing true b h = let k : true ≡ false = h in cc
      nothing false b h = omega arith
  by_names o l (Some w) None e f = nothing (same_text o p.order) (is_lot l p.lot) (not_known (is_lot l p.lot) refl)
    where
      not_known : (t : Bool) → is_lot l p.lot ≡ t → t ≡ false
      not_known true t = let none : ◌≡◌ {A = Option KnownLot} None (Some kl) = sym f ∙ ap (lot_known before) (is_lot_is l p.lot t) ∙ known in cc
      not_known false t = refl

      nothing : (a b : Bool) → b ≡ false → 0 ≡ 0 + (if a && b then p.qty else 0)
      nothing a true h = let k : true ≡ false = h in cc
      nothing true false h = omega arith
      nothing false false h = omega arith
  by_names o l (Some w) (Some k) e f =
      let own_order : o ≡ w.order = found_order o (orders before) w e in
      let own_lot : l ≡ k.lot = found_lot l (lots before) k f in
      let order_same : (po.act == w.act) ≡ same_text o p.order = turned po.act w.act ∙ order_number w (ap (order_named before) (sym own_order) ∙ e) ∙ ap (λ (u : List ℕ). same_text u p.order) (sym own_order) in
      let lot_same : (kl.came == k.came) ≡ is_lot l p.lot = turned kl.came k.came ∙ lot_number k (ap (lot_known before) (sym own_lot) ∙ f) ∙ ap (λ (u : LotId). is_lot u p.lot) (sym own_lot) in
      taken w.act k.came ∙ (λ i. reserved_in w.act k.came (plan first after g) + (if order_same i && lot_same i then p.qty else 0))

  of_own_item : (o : List ℕ) (l : LotId) → g ≡ l.gtin → reserved first before o l ≡ reserved first after o l + (if same_text o p.order && is_lot l p.lot then p.qty else 0)
  of_own_item o l e =
      subst (λ (x : List ℕ). reserved_of (order_named before o) (lot_known before l) (plan first before x) ≡ reserved_of (order_named before o) (lot_known before l) (plan first after x) + (if same_text o p.order && is_lot l p.lot then p.qty else 0)) e
      (by_names o l (order_named before o) (lot_known before l) refl refl)

  of_other_item : (o : List ℕ) (l : LotId) → same_text g l.gtin ≡ false → reserved first before o l ≡ reserved first after o l + (if same_text o p.order && is_lot l p.lot then p.qty else 0)
  of_other_item o l e =
      let same = (other_items_are_left_alone first act before l.gtin next (same_text_turned l.gtin g ∙ e)).reserved o l (same_text_refl l.gtin) in
      nothing (same_text o p.order) (is_lot l p.lot) (other (is_lot l p.lot) refl) _ _ same
    where
      other : (t : Bool) → is_lot l p.lot ≡ t → t ≡ false
      other true t = let k : true ≡ false = sym (is_lot_item l p.lot t) ∙ same_text_turned l.gtin g ∙ e in cc
      other false t = refl

      nothing : (a b : Bool) → b ≡ false → (m n : ℕ) → m ≡ n → n ≡ m + (if a && b then p.qty else 0)
      nothing a true h m n f = let k : true ≡ false = h in cc
      nothing true false h m n f = omega (arith, f)
      nothing false false h m n f = omega (arith, f)

  pub pick_takes_its_own : (o : List ℕ) (l : LotId) → reserved first before o l ≡ reserved first after o l + (if same_text o p.order && is_lot l p.lot then p.qty else 0)
  pick_takes_its_own o l = elim (same_text g l.gtin) as (λ b. same_text g l.gtin ≡ b → reserved first before o l ≡ reserved first after o l + (if same_text o p.order && is_lot l p.lot then p.qty else 0)) [
    | true ↦ λ t. of_own_item o l (same_text_is g l.gtin t)
    | false ↦ λ t. of_other_item o l t
  ] refl

pub pick_disturbs_none : PickDisturbsNone
pick_disturbs_none first before key p o l next = by_known (order_named before p.order) (lot_known before p.lot) refl refl
  where
    by_known : (x : Option Placed) (y : Option KnownLot) → order_named before p.order ≡ x → lot_known before p.lot ≡ y
        → reserved first before o l ≡ reserved first (record { key = key; command = Pick p } ∷ before) o l + (if same_text o p.order && is_lot l p.lot then p.qty else 0)
    by_known None y e f = let unknown : false ≡ true = ap is_some (sym e) ∙ (pick_accepted first before p next.1.passes).order in cc
    by_known (Some po) None e f = let unknown : false ≡ true = ap is_some (sym f) ∙ (pick_accepted first before p next.1.passes).lot in cc
    by_known (Some po) (Some kl) e f = pick_takes_its_own first before key p next po e kl f o l
