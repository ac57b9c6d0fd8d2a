-- Numbers of lots and orders under which the plan of an item reserves nothing.
use Rattle.rules.proofs.Words.{◌≡◌, ℕ, ◌+◌, ◌≤◌, Bool, true, false, ◌&&◌, List, [], ◌∷◌, refl, ap, sym, ◌∙◌, arith, ◌==◌, if◌then◌else◌, ℤ, Some, filter, map, eqb-true, same_text, LotId, total, OrderLine, Demand, Supply, Row, reserved_in, reserved_on, Act, next_number, of_item, Placed, KnownLot, lot_known, lots, lots_of, orders, is_shippable, booking_of, lines_of_item, need, demands, supplies, supply_of, shippable_lots, goes_before, item_postings, store_units, plan, AllFound, equal_turned, unequal_above, wanted_by, AllBelow, found_below, same_known, lots_found, lots_numbered, receipt_names_lot, orders_numbered, demands_told, there_under, wanted_under, reserved_within_need, reserved_within_supply, total_kept}
use Rattle.rules.proofs.rows.DemandsTold.{same_total}
use Rattle.rules.proofs.rows.Ordering.{total_ordered, total_map}

-- Where the lot of a number has no units in STORE bins, the item's supplies have nothing under it

module _ (first : ℤ) (acts : List Act) (g : List ℕ) (n : ℕ) (empty : (j : KnownLot) → lot_known acts j.lot ≡ Some j → j.came ≡ n → of_item g j.lot ≡ true → store_units acts (item_postings first acts g) j.lot ≡ 0) where
  abbrev avail_of : KnownLot → ℕ
  avail_of j = if j.came == n then store_units acts (item_postings first acts g) j.lot else 0

  abbrev counted : KnownLot → ℕ
  counted j = if of_item g j.lot then (if is_shippable first acts j then avail_of j else 0) else 0

  nothing_if : (b : Bool) (q : ℕ) → q ≡ 0 → (if b then q else 0) ≡ 0
  nothing_if true q e = e
  nothing_if false q e = refl

  not_counted : (j : KnownLot) → lot_known acts j.lot ≡ Some j → counted j ≡ 0
  not_counted j e = elim (of_item g j.lot) as (λ b. of_item g j.lot ≡ b → (if b then (if is_shippable first acts j then avail_of j else 0) else 0) ≡ 0) [
    | true ↦ λ t. nothing_if (is_shippable first acts j) (avail_of j) (elim (j.came == n) as (λ b. (j.came == n) ≡ b → (if b then store_units acts (item_postings first acts g) j.lot else 0) ≡ 0) [
      | true ↦ λ f. empty j e (eqb-true j.came n f) t
      | false ↦ λ f. refl
    ] refl)
    | false ↦ λ t. refl
  ] refl

  none_counted : (ks : List KnownLot) → AllFound same_known (lots acts) ks → total counted ks ≡ 0
  none_counted [] h = refl
  none_counted (j ∷ js) h = omega (arith, not_counted j h.0, none_counted js h.1)

  none_there : there_under n (supplies first acts g) ≡ 0
  none_there =
      same_total (λ (x : Supply). if x.lot == n then x.avail else 0) (supplies first acts g)
      ∙ total_map (λ (x : Supply). if x.lot == n then x.avail else 0) (supply_of acts (item_postings first acts g)) (shippable_lots first acts g)
      ∙ total_ordered goes_before avail_of (filter (is_shippable first acts) (lots_of acts g))
      ∙ total_kept avail_of (is_shippable first acts) (lots_of acts g)
      ∙ total_kept (λ j. if is_shippable first acts j then avail_of j else 0) (λ j. of_item g j.lot) (lots acts)
      ∙ none_counted (lots acts) (lots_found acts)

  in_lot : (b : ℕ) (rows : List Row) → reserved_in b n rows ≤ reserved_on n rows
  in_lot b [] = omega arith
  in_lot b (r ∷ rs) = omega (arith, fewer (r.booking == b) (r.lot == n) r.qty, in_lot b rs)
    where
      fewer : (x y : Bool) (q : ℕ) → (if x && y then q else 0) ≤ (if y then q else 0)
      fewer true y q = omega arith
      fewer false true q = omega arith
      fewer false false q = omega arith

  -- so nothing is reserved under it
  none_under : (b : ℕ) → reserved_in b n (plan first acts g) ≡ 0
  none_under b = omega (arith, in_lot b (plan first acts g), reserved_within_supply n (demands first acts g) (supplies first acts g), none_there)

-- a known lot that is not of the item, or has no units in STORE bins
pub none_reserved : (first : ℤ) (acts : List Act) (g : List ℕ) (l : LotId) → (of_item g l ≡ true → store_units acts (item_postings first acts g) l ≡ 0) → (k : KnownLot) → lot_known acts l ≡ Some k
    → (b : ℕ) → reserved_in b k.came (plan first acts g) ≡ 0
none_reserved first acts g l empty k known b =
    none_under first acts g k.came
    (λ j e came own.
    let same : j.lot ≡ l = receipt_names_lot acts j.lot l j k e known came in
    ap (λ (m : LotId). store_units acts (item_postings first acts g) m) same ∙ empty (ap (λ (m : LotId). of_item g m) (sym same) ∙ own)) b

-- The number of the next act is that of no lot and of no order

pub next_lot_unreserved : (first : ℤ) (acts : List Act) (g : List ℕ) (b : ℕ) → reserved_in b (next_number acts) (plan first acts g) ≡ 0
next_lot_unreserved first acts g b =
    none_under first acts g (next_number acts)
    (λ j e came own. absurd (omega (arith, came, found_below (λ (k : KnownLot). k.came) _ (next_number acts) (lots acts) j (lots_numbered acts).below e))) b

module _ (first : ℤ) (acts : List Act) (g : List ℕ) (n : ℕ) where
  abbrev under : Placed → ℕ
  under p = total (λ b. if n == b.act then need acts (item_postings first acts g) b else 0) (lines_of_item g p)

  none_of_lines : (p : Placed) → (n == p.act) ≡ false → (ls : List OrderLine) → total (λ b. if n == b.act then need acts (item_postings first acts g) b else 0) (map (booking_of p) ls) ≡ 0
  none_of_lines p e [] = refl
  none_of_lines p e (l ∷ ls) = omega (arith, ap (λ b. if b then need acts (item_postings first acts g) (booking_of p l) else 0) e, none_of_lines p e ls)

  pub none_of_orders : (ps : List Placed) → AllBelow (λ (p : Placed). p.act) n ps → total under ps ≡ 0
  none_of_orders [] h = refl
  none_of_orders (p ∷ ps) h = omega (arith, none_of_lines p (unequal_above p.act n h.0) (filter (λ l. same_text g l.gtin) p.lines), none_of_orders ps h.1)

  pub wanted_either_way : (ds : List Demand) → wanted_under n ds ≡ wanted_by n ds
  wanted_either_way [] = refl
  wanted_either_way (d ∷ ds) = λ i. (if equal_turned d.booking n i then d.need else 0) + wanted_either_way ds i

pub next_order_unreserved : (first : ℤ) (acts : List Act) (g : List ℕ) (k : ℕ) → reserved_in (next_number acts) k (plan first acts g) ≡ 0
next_order_unreserved first acts g k =
    omega (
      arith,
      reserved_within_need (next_number acts) k (demands first acts g) (supplies first acts g),
      wanted_either_way first acts g (next_number acts) (demands first acts g),
      demands_told first acts g (next_number acts),
      none_of_orders first acts g (next_number acts) (orders acts) (orders_numbered acts).below,
    )
