-- The reserved rows of an order and an item add up to what the item's plan reserves for the order.
use Rattle.rules.proofs.Words.{◌≡◌, ℕ, ◌+◌, Bool, true, false, ◌&&◌, not, List, [], ◌∷◌, ◌++◌, refl, ap, sym, ◌∙◌, arith, eq-eqb, ◌==◌, ◌||◌, if◌then◌else◌, ℤ, Option, Some, None, find, filter, map, option_map, is_some, list_any, AllByRecursion, eqb-true, map-id, same_text, LotId, total, ReservedRow, Row, Supply, Stretch, row_of, rows_of_demand, rows_of_stretches, demands_laid, supplies_laid, reserved_in, reserved_for, Act, is_lot, of_item, KnownLot, Placed, lots, lots_of, lot_known, order_named, is_shippable, plan, demands, supplies, supply_of, item_postings, goes_before, shippable_lots, reserved, reserved_of, if_any, reserved_row, AreRows, AreOwn, OrderLot, same_share, no_two, equal_turned, unequal_above, total_zero, and_both, and_false, is_zero, not_true, or_first, or_later, same_text_is, is_lot_is, is_lot_refl, is_lot_turned, AreApart, AllFound, all_found, any_found, apart-filter, AllBelow, AreFalling, same_known, lots_apart, lots_found, lots_numbered, found_lot, any_some}
use Rattle.rules.proofs.rows.DemandsTold.{same_total}
use Rattle.rules.proofs.rows.FoundRows.{found_passes, find_kept, same_finds, kept_once}
use Rattle.rules.proofs.rows.Ordering.{all_in_order}
use Rattle.rules.proofs.rows.Telling.{once_apart, picked, totals_swapped, rows_tell}

-- What all have

all_append : {X : Type 0} (P : X → Type 0) (xs ys : List X) → AllByRecursion P xs → AllByRecursion P ys → AllByRecursion P (xs ++ ys)
all_append P [] ys h k = k
all_append P (x ∷ xs) ys h k = (h.0, all_append P xs ys h.1 k)

all_kept : {X : Type 0} (P : X → Type 0) (keep : X → Bool) (xs : List X) → AllByRecursion P xs → AllByRecursion P (filter keep xs)
all_kept P keep [] h = tt
all_kept P keep (x ∷ xs) h = elim (keep x) as (λ b. AllByRecursion P (if b then x ∷ filter keep xs else filter keep xs)) [ true ↦ (h.0, all_kept P keep xs h.1) | false ↦ all_kept P keep xs h.1 ]

-- Each row of a plan is of one of its supplies

module _ (Is : ℕ → Type 0) where
  laid_are : (y : ℕ) (ss : List Supply) → AllByRecursion (λ (s : Supply). Is s.lot) ss → AllByRecursion (λ (t : Stretch). Is t.name) (supplies_laid y ss)
  laid_are y [] h = tt
  laid_are y (s ∷ ss) h = (h.0, laid_are (y + s.avail) ss h.1)

  laid_rows_are : (d : Stretch) (ss : List Stretch) → AllByRecursion (λ (t : Stretch). Is t.name) ss → AllByRecursion (λ (r : Row). Is r.lot) (map (row_of d) ss)
  laid_rows_are d [] h = tt
  laid_rows_are d (s ∷ ss) h = (h.0, laid_rows_are d ss h.1)

  rows_are : (ds ss : List Stretch) → AllByRecursion (λ (t : Stretch). Is t.name) ss → AllByRecursion (λ (r : Row). Is r.lot) (rows_of_stretches ds ss)
  rows_are [] ss h = tt
  rows_are (d ∷ ds) ss h = all_append (λ (r : Row). Is r.lot) (rows_of_demand ss d) (rows_of_stretches ds ss) (all_kept (λ (r : Row). Is r.lot) _ (map (row_of d) ss) (laid_rows_are d ss h)) (rows_are ds ss h)

-- Lots with numbers of their own

none_numbered : (n : ℕ) (ks : List KnownLot) → AllBelow (λ (k : KnownLot). k.came) n ks → list_any (λ (k : KnownLot). n == k.came) ks ≡ false
none_numbered n [] h = refl
none_numbered n (k ∷ ks) h = λ i. unequal_above k.came n h.0 i || none_numbered n ks h.1 i

numbers_apart : (ks : List KnownLot) → AreFalling (λ (k : KnownLot). k.came) ks → AreApart (λ (j k : KnownLot). j.came == k.came) ks
numbers_apart [] h = tt
numbers_apart (k ∷ ks) h = (none_numbered k.came ks h.0, numbers_apart ks h.1)

some_of : {X : Type 0} (x : Option X) → is_some x ≡ true → (y : X) × (x ≡ Some y)
some_of None e = let f : false ≡ true = e in cc
some_of (Some y) e = (y, refl)

-- What the plan reserves for a booking, lot by lot

module _ (first : ℤ) (acts : List Act) (g : List ℕ) (b : ℕ) where
  -- the number is that of a lot of the item
  abbrev IsThere : ℕ → Type 0
  IsThere n = list_any (λ (k : KnownLot). n == k.came) (lots_of acts g) ≡ true

  all_there : (ks : List KnownLot) → ((n : ℕ) → list_any (λ (k : KnownLot). n == k.came) ks ≡ true → IsThere n) → AllByRecursion (λ (k : KnownLot). IsThere k.came) ks
  all_there [] more = tt
  all_there (k ∷ ks) more = (more k.came (or_first (k.came == k.came) _ (eq-eqb k.came k.came refl)), all_there ks (λ n e. more n (or_later (n == k.came) _ e)))

  supplied_there : (ks : List KnownLot) → AllByRecursion (λ (k : KnownLot). IsThere k.came) ks → AllByRecursion (λ (s : Supply). IsThere s.lot) (map (supply_of acts (item_postings first acts g)) ks)
  supplied_there [] h = tt
  supplied_there (k ∷ ks) h = (h.0, supplied_there ks h.1)

  plan_there : AllByRecursion (λ (r : Row). IsThere r.lot) (plan first acts g)
  plan_there =
      rows_are IsThere (demands_laid 0 (demands first acts g)) (supplies_laid 0 (supplies first acts g)) (laid_are IsThere 0 (supplies first acts g) (supplied_there (shippable_lots first acts g)
      (all_in_order goes_before (λ (k : KnownLot). IsThere k.came) (filter (is_shippable first acts) (lots_of acts g)) (all_kept (λ (k : KnownLot). IsThere k.came) (is_shippable first acts) (lots_of acts g) (all_there (lots_of acts g) (λ n e. e))))))

  one_lot : (r : Row) → IsThere r.lot → (t : Bool) → total (λ (k : KnownLot). if t && (r.lot == k.came) then r.qty else 0) (lots_of acts g) ≡ (if t then r.qty else 0)
  one_lot r h true =
      let x = some_of (find (λ (k : KnownLot). r.lot == k.came) (lots_of acts g)) (any_found (λ (k : KnownLot). r.lot == k.came) (lots_of acts g) ∙ h) in
      picked (λ m n. m == n) eqb-true equal_turned (λ (k : KnownLot). k.came) r.lot (λ k. r.qty) (lots_of acts g) x.0
      (once_apart (λ m n. m == n) eqb-true equal_turned (λ (k : KnownLot). k.came) (lots_of acts g) (apart-filter (λ (j k : KnownLot). j.came == k.came) (λ (k : KnownLot). of_item g k.lot) (lots acts) (numbers_apart (lots acts) (lots_numbered acts).falling))) x.1
  one_lot r h false = total_zero (lots_of acts g)

  each_row : (rows : List Row) → AllByRecursion (λ (r : Row). IsThere r.lot) rows
      → total (λ (r : Row). total (λ (k : KnownLot). if (r.booking == b) && (r.lot == k.came) then r.qty else 0) (lots_of acts g)) rows ≡ total (λ (r : Row). if r.booking == b then r.qty else 0) rows
  each_row [] h = refl
  each_row (r ∷ rs) h = λ i. one_lot r h.0 (r.booking == b) i + each_row rs h.1 i

  by_lots : (ks : List KnownLot) → total (λ (k : KnownLot). reserved_in b k.came (plan first acts g)) ks ≡ total (λ (k : KnownLot). total (λ (r : Row). if (r.booking == b) && (r.lot == k.came) then r.qty else 0) (plan first acts g)) ks
  by_lots [] = refl
  by_lots (k ∷ ks) = λ i. same_total (λ (r : Row). if (r.booking == b) && (r.lot == k.came) then r.qty else 0) (plan first acts g) i + by_lots ks i

  reserved_by_lots : total (λ (k : KnownLot). reserved_in b k.came (plan first acts g)) (lots_of acts g) ≡ reserved_for b (plan first acts g)
  reserved_by_lots =
      by_lots (lots_of acts g)
      ∙ totals_swapped (λ (k : KnownLot) (r : Row). if (r.booking == b) && (r.lot == k.came) then r.qty else 0) (lots_of acts g) (plan first acts g)
      ∙ each_row (plan first acts g) plan_there
      ∙ sym (same_total (λ (r : Row). if r.booking == b then r.qty else 0) (plan first acts g))

-- The rows

module _ (first : ℤ) (acts : List Act) (p : Placed) (named : order_named acts p.order ≡ Some p) (g : List ℕ) (needed : OrderLot → Bool) (wanted : (l : LotId) → of_item g l ≡ true → needed (p.order, l) ≡ true)
    (rows : List ReservedRow) (are : AreRows same_share (λ (r : ReservedRow). (r.order, r.lot)) needed (λ k. true) (λ k. reserved_row first acts k.0 k.1) rows) where
  abbrev o : List ℕ
  o = p.order

  abbrev units : LotId → ℕ
  units l = reserved first acts o l

  abbrev show : KnownLot → ReservedRow
  show k = record { order = o; lot = k.lot; qty = units k.lot }

  abbrev has_any : LotId → Bool
  has_any l = of_item g l && not (units l == 0)

  abbrev is_own : ReservedRow → Bool
  is_own r = same_text o r.order && of_item g r.lot

  abbrev own_rows : List ReservedRow
  own_rows = filter is_own rows

  by_plan : (l : LotId) → of_item g l ≡ true → units l ≡ reserved_of (Some p) (lot_known acts l) (plan first acts g)
  by_plan l e = (λ i. reserved_of (named i) (lot_known acts l) (plan first acts (sym (same_text_is g l.gtin e) i)))

  -- a test of a lot of the item is one of its rows, or lots, alone
  tests_same : (l : LotId) → of_item g l ≡ true → (b : Bool) (m : LotId) → (b && of_item g m) && is_lot l m ≡ b && is_lot l m
  tests_same l e b m = elim (is_lot l m) as (λ t. is_lot l m ≡ t → (b && of_item g m) && t ≡ b && t) [
    | true ↦ λ t. ap (λ c. (b && c) && true) (ap (of_item g) (sym (is_lot_is l m t)) ∙ e) ∙ twice b
    | false ↦ λ t. and_false (b && of_item g m) ∙ sym (and_false b)
  ] refl
    where
      twice : (b : Bool) → (b && true) && true ≡ b && true
      twice true = refl
      twice false = refl

  row_found : (l : LotId) → of_item g l ≡ true → find (λ (r : ReservedRow). is_lot l r.lot) own_rows ≡ reserved_row first acts o l
  row_found l e =
      find_kept (λ (r : ReservedRow). is_lot l r.lot) is_own rows
      ∙ same_finds (λ (r : ReservedRow). is_own r && is_lot l r.lot) (λ (r : ReservedRow). same_text o r.order && is_lot l r.lot) (λ r. tests_same l e (same_text o r.order) r.lot) rows
      ∙ are.found (o, l) (wanted l e)

  lot_found : (l : LotId) → of_item g l ≡ true → find (λ (k : KnownLot). is_lot l k.lot) (lots_of acts g) ≡ lot_known acts l
  lot_found l e =
      find_kept (λ (k : KnownLot). is_lot l k.lot) (λ (k : KnownLot). of_item g k.lot) (lots acts)
      ∙ same_finds (λ (k : KnownLot). of_item g k.lot && is_lot l k.lot) (λ (k : KnownLot). is_lot l k.lot) (λ k. tests_same l e true k.lot) (lots acts)

  shown_by : (l : LotId) (x : Option KnownLot) → lot_known acts l ≡ x → units l ≡ reserved_of (Some p) x (plan first acts g) → (units l == 0) ≡ false → option_map show x ≡ reserved_row first acts o l
  shown_by l None f u z = let n : true ≡ false = sym (eq-eqb (units l) 0 u) ∙ z in cc
  shown_by l (Some k) f u z =
      (λ i. Some (record { order = o; lot = sym (found_lot l (lots acts) k f) i; qty = units (sym (found_lot l (lots acts) k f) i) }))
      ∙ sym (ap (λ b. if b then None else Some (record { order = o; lot = l; qty = units l })) z)

  shown : (l : LotId) → has_any l ≡ true → option_map show (find (λ (k : KnownLot). is_lot l k.lot) (lots_of acts g)) ≡ reserved_row first acts o l
  shown l e =
      let two = and_both (of_item g l) (not (units l == 0)) e in
      ap (option_map show) (lot_found l two.0)
      ∙ shown_by l (lot_known acts l) refl (by_plan l two.0) (not_true (units l == 0) two.1)

  some_units : (q : ℕ) (x r : ReservedRow) → if_any q x ≡ Some r → not (q == 0) ≡ true
  some_units q x r e = elim (q == 0) as (λ b. (if b then None else Some x) ≡ Some r → not b ≡ true) [ true ↦ λ f. cc | false ↦ λ f. refl ] e

  -- each own row is that of its lot, and has its units
  own_row : (r : ReservedRow) → is_own r ≡ true → reserved_row first acts r.order r.lot ≡ Some r → (option_map show (find (λ (k : KnownLot). is_lot r.lot k.lot) (lots_of acts g)) ≡ Some r) × (units r.lot ≡ r.qty)
  own_row r e own =
      let two = and_both (same_text o r.order) (of_item g r.lot) e in
      let here : reserved_row first acts o r.lot ≡ Some r = ap (λ (x : List ℕ). reserved_row first acts x r.lot) (same_text_is o r.order two.0) ∙ own in
      let row : ReservedRow = record { order = o; lot = r.lot; qty = units r.lot } in
      (shown r.lot (λ i. two.1 i && some_units (units r.lot) row r here i) ∙ here, ap (λ (x : ReservedRow). x.qty) (any_some (units r.lot) row r here))

  all_own : (rs : List ReservedRow) → AreOwn {K = OrderLot} (λ (r : ReservedRow). (r.order, r.lot)) (λ k. true) (λ k. reserved_row first acts k.0 k.1) rs
      → AreOwn {K = LotId} (λ (r : ReservedRow). r.lot) (λ l. true) (λ l. option_map show (find (λ (k : KnownLot). is_lot l k.lot) (lots_of acts g))) (filter is_own rs)
  all_own [] h = tt
  all_own (r ∷ rs) h = elim (is_own r) as (λ b. is_own r ≡ b → AreOwn {K = LotId} (λ (r : ReservedRow). r.lot) (λ l. true) (λ l. option_map show (find (λ (k : KnownLot). is_lot l k.lot) (lots_of acts g))) (if b then r ∷ filter is_own rs else filter is_own rs)) [
    | true ↦ λ e. (refl, (own_row r e h.1).0, all_own rs h.2)
    | false ↦ λ e. all_own rs h.2
  ] refl

  own_units : (rs : List ReservedRow) → AreOwn {K = OrderLot} (λ (r : ReservedRow). (r.order, r.lot)) (λ k. true) (λ k. reserved_row first acts k.0 k.1) rs
      → total (λ (r : ReservedRow). if is_own r then r.qty else 0) rs ≡ total (λ (r : ReservedRow). units r.lot) (filter is_own rs)
  own_units [] h = refl
  own_units (r ∷ rs) h = elim (is_own r) as (λ b. is_own r ≡ b → (if b then r.qty else 0) + total (λ (r : ReservedRow). if is_own r then r.qty else 0) rs ≡ total (λ (r : ReservedRow). units r.lot) (if b then r ∷ filter is_own rs else filter is_own rs)) [
    | true ↦ λ e. (λ i. sym (own_row r e h.1).1 i + own_units rs h.2 i)
    | false ↦ λ e. omega (arith, own_units rs h.2)
  ] refl

  own_once : no_two (λ (r s : ReservedRow). is_lot r.lot s.lot) own_rows ≡ true
  own_once =
      ap (no_two (λ (r s : ReservedRow). is_lot r.lot s.lot)) (sym (map-id own_rows))
      ∙ kept_once is_own (λ (r s : ReservedRow). same_share (r.order, r.lot) (s.order, s.lot)) (λ (r : ReservedRow). r) (λ (r s : ReservedRow). is_lot r.lot s.lot) at_most rows are.once
    where
      at_most : (r s : ReservedRow) → is_own r ≡ true → is_own s ≡ true → is_lot r.lot s.lot ≡ true → same_share (r.order, r.lot) (s.order, s.lot) ≡ true
      at_most r s e f t =
          let a = and_both (same_text o r.order) (of_item g r.lot) e in
          let b = and_both (same_text o s.order) (of_item g s.lot) f in
          (λ i. (ap (λ (x : List ℕ). same_text x s.order) (sym (same_text_is o r.order a.0)) ∙ b.0) i && t i)

  -- where nothing is reserved nothing counts
  none_counts : (k : KnownLot) → find (λ (j : KnownLot). is_lot k.lot j.lot) (lots_of acts g) ≡ Some k → has_any k.lot ≡ false → units k.lot ≡ 0
  none_counts k e f =
      let kept : of_item g k.lot && is_lot k.lot k.lot ≡ true = found_passes (λ (j : KnownLot). of_item g j.lot && is_lot k.lot j.lot) (lots acts) k (sym (find_kept (λ (j : KnownLot). is_lot k.lot j.lot) (λ (j : KnownLot). of_item g j.lot) (lots acts)) ∙ e) in
      let none : not (units k.lot == 0) ≡ false = ap (λ b. b && not (units k.lot == 0)) (sym (and_both (of_item g k.lot) (is_lot k.lot k.lot) kept).0) ∙ f in
      elim (units k.lot == 0) as (λ b. (units k.lot == 0) ≡ b → not b ≡ false → units k.lot ≡ 0) [
        | true ↦ λ t h. is_zero (units k.lot) t
        | false ↦ λ t h. let n : true ≡ false = h in cc
      ] refl none

  in_plan : (ks : List KnownLot) → AllFound same_known (lots acts) ks → total (λ (k : KnownLot). units k.lot) (filter (λ (k : KnownLot). of_item g k.lot) ks) ≡ total (λ (k : KnownLot). reserved_in p.act k.came (plan first acts g)) (filter (λ (k : KnownLot). of_item g k.lot) ks)
  in_plan [] h = refl
  in_plan (k ∷ ks) h = elim (of_item g k.lot) as (λ b. of_item g k.lot ≡ b → total (λ (k : KnownLot). units k.lot) (if b then k ∷ filter (λ (k : KnownLot). of_item g k.lot) ks else filter (λ (k : KnownLot). of_item g k.lot) ks)
      ≡ total (λ (k : KnownLot). reserved_in p.act k.came (plan first acts g)) (if b then k ∷ filter (λ (k : KnownLot). of_item g k.lot) ks else filter (λ (k : KnownLot). of_item g k.lot) ks)) [
        | true ↦ λ e. (λ i. (by_plan k.lot e ∙ ap (λ x. reserved_of (Some p) x (plan first acts g)) h.0) i + in_plan ks h.1 i)
        | false ↦ λ e. in_plan ks h.1
      ] refl

  pub reserved_units_told : total (λ (r : ReservedRow). if same_text o r.order && of_item g r.lot then r.qty else 0) rows ≡ reserved_for p.act (plan first acts g)
  reserved_units_told =
      own_units rows are.own
      ∙ rows_tell is_lot is_lot_is is_lot_turned (λ (k : KnownLot). k.lot) (λ (r : ReservedRow). r.lot) show (lots_of acts g)
      (apart-filter same_known (λ (k : KnownLot). of_item g k.lot) (lots acts) (lots_apart acts))
      (all_found same_known (λ k. is_lot_refl k.lot) (λ j k. is_lot_turned j.lot k.lot) (lots_of acts g) (apart-filter same_known (λ (k : KnownLot). of_item g k.lot) (lots acts) (lots_apart acts)))
      units has_any (λ l. true) own_rows (λ l e. row_found l (and_both (of_item g l) (not (units l == 0)) e).0 ∙ sym (shown l e)) (all_own rows are.own) own_once none_counts
      ∙ in_plan (lots acts) (lots_found acts)
      ∙ reserved_by_lots first acts g p.act
