-- The reservations on a lot add up to at most its units in STORE bins.
use Rattle.machine.proofs.Words.{◌≡◌, ℕ, ◌+◌, ◌≤◌, ◌<◌, Bool, true, false, ◌&&◌, List, [], ◌∷◌, refl, ap, sym, ◌∙◌, arith, ◌==◌, if◌then◌else◌, find, filter, map, Option, Some, None, ℤ, eqb-true, LotId, total, placed, in_order, reserved_in, reserved_on, Row, Act, balance, is_lot, of_item, KnownLot, Placed, lots, lots_of, lot_known, orders, is_shippable, postings, item_postings, in_store, store_units, supply_of, supplies, shippable_lots, goes_before, demands, plan, reserved, reserved_of, IsHistory, Covered}
use Rattle.machine.proofs.Numbers.{equal_turned, unequal_below, add_totals}
use Rattle.machine.proofs.Tests.{is_lot_item}
use Rattle.machine.proofs.histories.Falling.{AllBelow, AreFalling, found_below}
use Rattle.machine.proofs.Apart.{AllFound}
use Rattle.machine.proofs.histories.Lots.{lots_numbered, found_lot}
use Rattle.machine.proofs.histories.Orders.{same_order, orders_found, orders_numbered}
use Rattle.machine.proofs.histories.ItemBalances.{balance-of_item}
use Rattle.machine.proofs.histories.Reservations.{there_under, reserved_within_supply}

-- Along falling numbers at most one is a given number

module _ {X : Type 0} (number : X → ℕ) (qty : X → ℕ) where
  none_of : (n : ℕ) (xs : List X) → AllBelow number n xs → total (λ x. if number x == n then qty x else 0) xs ≡ 0
  none_of n [] h = refl
  none_of n (x ∷ xs) h = omega (arith, ap (λ b. if b then qty x else 0) (unequal_below (number x) n h.0), none_of n xs h.1)

  one_of : (test : X → Bool) (k : X) (xs : List X) → AreFalling number xs → find test xs ≡ Some k → total (λ x. if number x == number k then qty x else 0) xs ≤ qty k
  one_of test k [] h e = cc
  one_of test k (x ∷ xs) h e =
      elim (test x) as (λ b. (if b then Some x else find test xs) ≡ Some k → (if number x == number k then qty x else 0) + total (λ y. if number y == number k then qty y else 0) xs ≤ qty k) [
        | true ↦ λ f.
            let own : x ≡ k = cc in
            let none : total (λ y. if number y == number k then qty y else 0) xs ≡ 0 = ap (λ z. total (λ y. if number y == number z then qty y else 0) xs) (sym own) ∙ none_of (number x) xs h.0 in
            omega (arith, none, at_most_own (number x == number k) (qty x), ap qty own)
        | false ↦ λ f.
            let low : number k < number x = found_below number test (number x) xs k h.0 f in
            omega (arith, ap (λ b. if b then qty x else 0) (equal_turned (number x) (number k) ∙ unequal_below (number k) (number x) low), one_of test k xs h.1 f)
      ] e
    where
      at_most_own : (b : Bool) (q : ℕ) → (if b then q else 0) ≤ q
      at_most_own true q = omega arith
      at_most_own false q = omega arith

-- at most one order has a number
none_numbered : (n q : ℕ) (os : List Placed) → AllBelow (λ (p : Placed). p.act) n os → total (λ (p : Placed). if n == p.act then q else 0) os ≡ 0
none_numbered n q [] h = refl
none_numbered n q (p ∷ os) h = omega (arith, ap (λ b. if b then q else 0) (equal_turned n p.act ∙ unequal_below p.act n h.0), none_numbered n q os h.1)

one_numbered : (n q : ℕ) (os : List Placed) → AreFalling (λ (p : Placed). p.act) os → total (λ (p : Placed). if n == p.act then q else 0) os ≤ q
one_numbered n q [] h = omega arith
one_numbered n q (p ∷ os) h =
    elim (n == p.act) as (λ b. (n == p.act) ≡ b → (if b then q else 0) + total (λ (x : Placed). if n == x.act then q else 0) os ≤ q) [
      | true ↦ λ e.
          let same : n ≡ p.act = eqb-true n p.act e in
          omega (arith, ap (λ m. total (λ (x : Placed). if m == x.act then q else 0) os) same, none_numbered p.act q os h.0)
      | false ↦ λ e. omega (arith, one_numbered n q os h.1)
    ] refl

none_reserved : (os : List Placed) → total (λ (p : Placed). 0) os ≡ 0
none_reserved [] = refl
none_reserved (p ∷ os) = omega (arith, none_reserved os)

nested : (a b : Bool) (q : ℕ) → (if a && b then q else 0) ≡ (if a then (if b then q else 0) else 0)
nested true b q = refl
nested false b q = refl

-- the rows of a lot, order by order
rows_by_order : (n : ℕ) (os : List Placed) → AreFalling (λ (p : Placed). p.act) os → (rows : List Row) → total (λ (p : Placed). reserved_in p.act n rows) os ≤ reserved_on n rows
rows_by_order n os h [] = omega (arith, none_reserved os)
rows_by_order n os h (r ∷ rs) =
    let same : total (λ (p : Placed). if (r.booking == p.act) && (r.lot == n) then r.qty else 0) os ≡ total (λ (p : Placed). if r.booking == p.act then (if r.lot == n then r.qty else 0) else 0) os =
    λ i. total (λ (p : Placed). nested (r.booking == p.act) (r.lot == n) r.qty i) os in
    omega (
      arith,
      add_totals (λ (p : Placed). if (r.booking == p.act) && (r.lot == n) then r.qty else 0) (λ (p : Placed). reserved_in p.act n rs) os,
      one_numbered r.booking (if r.lot == n then r.qty else 0) os h,
      rows_by_order n os h rs,
    )

-- Supplies of one number

total_placed : {X : Type 0} (f : X → ℕ) (before : X → X → Bool) (x : X) (xs : List X) → total f (placed before x xs) ≡ f x + total f xs
total_placed f before x [] = refl
total_placed f before x (y ∷ ys) = elim (before y x) as (λ b. total f (if b then y ∷ placed before x ys else x ∷ y ∷ ys) ≡ f x + (f y + total f ys)) [
  | true ↦ omega (arith, total_placed f before x ys)
  | false ↦ refl
]

total_in_order : {X : Type 0} (f : X → ℕ) (before : X → X → Bool) (xs : List X) → total f (in_order before xs) ≡ total f xs
total_in_order f before [] = refl
total_in_order f before (x ∷ xs) = omega (arith, total_placed f before x (in_order before xs), total_in_order f before xs)

total_kept : {X : Type 0} (f : X → ℕ) (keep : X → Bool) (xs : List X) → total f (filter keep xs) ≤ total f xs
total_kept f keep [] = omega arith
total_kept f keep (x ∷ xs) = elim (keep x) as (λ b. total f (if b then x ∷ filter keep xs else filter keep xs) ≤ f x + total f xs) [
  | true ↦ omega (arith, total_kept f keep xs)
  | false ↦ omega (arith, total_kept f keep xs)
]

module _ (first : ℤ) (acts : List Act) (g : List ℕ) (n : ℕ) where
  abbrev there : KnownLot → ℕ
  there k = if k.came == n then store_units acts (item_postings first acts g) k.lot else 0

  supplied : (ks : List KnownLot) → there_under n (map (supply_of acts (item_postings first acts g)) ks) ≡ total there ks
  supplied [] = refl
  supplied (k ∷ ks) = ap (λ m. there k + m) (supplied ks)

  supplies_under : there_under n (supplies first acts g) ≤ total there (lots acts)
  supplies_under =
      omega (
        arith,
        supplied (shippable_lots first acts g),
        total_in_order there goes_before (filter (is_shippable first acts) (lots_of acts g)),
        total_kept there (is_shippable first acts) (lots_of acts g),
        total_kept there (λ k. of_item g k.lot) (lots acts),
      )

module _ (first : ℤ) (acts : List Act) (history : IsHistory first acts) (l : LotId) where
  reservations : (k : Option KnownLot) → lot_known acts l ≡ k → (os : List Placed) → AllFound same_order (orders acts) os
      → total (λ p. reserved first acts p.order l) os ≡ total (λ (p : Placed). reserved_of (Some p) k (plan first acts l.gtin)) os
  reservations k known [] h = refl
  reservations k known (p ∷ os) h = λ i. reserved_of (h.0 i) (known i) (plan first acts l.gtin) + reservations k known os h.1 i

  covered_by : (k : Option KnownLot) → lot_known acts l ≡ k → total (λ (p : Placed). reserved_of (Some p) k (plan first acts l.gtin)) (orders acts) ≤ balance (in_store acts) (is_lot l) (postings first acts)
  covered_by None known = omega (arith, none_reserved (orders acts))
  covered_by (Some k) known =
      let lot : l ≡ k.lot = found_lot l (lots acts) k known in
      let own : store_units acts (item_postings first acts l.gtin) k.lot ≡ balance (in_store acts) (is_lot l) (postings first acts) =
      ap (store_units acts (item_postings first acts l.gtin)) (sym lot) ∙ balance-of_item (in_store acts) l.gtin (is_lot l) other (postings first acts) in
      omega (
        arith,
        rows_by_order k.came (orders acts) (orders_numbered acts).falling (plan first acts l.gtin),
        reserved_within_supply k.came (demands first acts l.gtin) (supplies first acts l.gtin),
        supplies_under first acts l.gtin k.came,
        one_of (λ (j : KnownLot). j.came) (λ j. store_units acts (item_postings first acts l.gtin) j.lot) (λ j. is_lot l j.lot) k (lots acts) (lots_numbered acts).falling known,
        own,
      )
    where
      other : (m : LotId) → of_item l.gtin m ≡ false → is_lot l m ≡ false
      other m e = elim (is_lot l m) as (λ b. is_lot l m ≡ b → b ≡ false) [ true ↦ λ t. let f = is_lot_item l m t in cc | false ↦ λ t. refl ] refl

pub covered : Covered
covered first acts l history =
    omega (arith, reservations first acts history l (lot_known acts l) refl (orders acts) (orders_found first acts history), covered_by first acts history l (lot_known acts l) refl)
