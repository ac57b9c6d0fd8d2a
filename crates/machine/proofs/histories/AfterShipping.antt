-- After an order is shipped: its stages are empty, what was staged is in the shipment, and no plan has changed.
use Rattle.machine.proofs.Words.{◌≡◌, ℕ, ◌+◌, ◌-◌, Bool, true, false, ◌&&◌, List, [], ◌∷◌, ◌++◌, refl, ap, sym, ◌∙◌, arith, ◌==◌, if◌then◌else◌, filter, map, flat_map, reverse, ℤ, list_any, same_text, LotId, Key, OrderLine, Ship, Demand, plan_rows, Act, next_number, Place, Supplier, Stage, Shipped, WriteOff, Posting, balance, in_house, is_bin, is_stage, is_shipment, is_lot, of_item, KnownLot, Placed, lots, orders, lot_known, order_named, is_cancelled, shipments_so_far, cleared, shipped_off, postings, is_urgent, is_normal, Booking, booking_of, lines_of_item, in_bin, in_store, staged_of_lot, item_postings, shipped_of, staged, shipped, need, demand_of, demands, supplies, shippable_lots, plan, reserved, reserved_of, lot_units_in_house, IsHistory}
use Rattle.machine.proofs.Mapping.{map_reversed, map_appended}
use Rattle.machine.proofs.Tests.{and_both, or_false, same_text_is, same_text_refl}
use Rattle.machine.proofs.Apart.{any_found}
use Rattle.machine.proofs.histories.Cells.{Cells, Legal, holds}
use Rattle.machine.proofs.histories.LegalHistories.{legal_history, Unseen, unseen-append, unseen_posting, holds_unseen}
use Rattle.machine.proofs.histories.Lots.{lots_apart}
use Rattle.machine.proofs.histories.KnownPlaces.{unknown_lot_is_nowhere}
use Rattle.machine.proofs.histories.ItemBalances.{balance-of_item}
use Rattle.machine.proofs.histories.ClosedOrders.{served, served_is}
use Rattle.machine.proofs.histories.Shipping.{lot_shipped, holds_alike}
use Rattle.machine.proofs.histories.RowSums.{cell_at, holds_nothing}

pub filter_appended : {X : Type 0} (f : X → Bool) (xs ys : List X) → filter f (xs ++ ys) ≡ filter f xs ++ filter f ys
filter_appended f [] ys = refl
filter_appended f (x ∷ xs) ys = elim (f x) as (λ b. (if b then x ∷ filter f (xs ++ ys) else filter f (xs ++ ys)) ≡ (if b then x ∷ filter f xs else filter f xs) ++ filter f ys) [
  | true ↦ ap (λ zs. x ∷ zs) (filter_appended f xs ys)
  | false ↦ filter_appended f xs ys
]

pub unseen_kept : (w : Cells) (f : Posting → Bool) (qs : List Posting) → Unseen w qs → Unseen w (filter f qs)
unseen_kept w f [] h = tt
unseen_kept w f (q ∷ qs) h = elim (f q) as (λ b. Unseen w (if b then q ∷ filter f qs else filter f qs)) [ true ↦ (h.0, h.1, unseen_kept w f qs h.2) | false ↦ unseen_kept w f qs h.2 ]

module _ (first : ℤ) (acts : List Act) (key : Key) (o : List ℕ) (next : IsHistory first (record { key = key; command = Ship o } ∷ acts)) where
  abbrev pub act : Act
  act = record { key = key; command = Ship o }

  abbrev pub after : List Act
  after = act ∷ acts

  -- the number of the shipment
  abbrev pub number : ℕ
  number = shipments_so_far first acts + 1

  abbrev ps : List Posting
  ps = postings first acts

  abbrev qs : List Posting
  qs = shipped_off (next_number acts) number o (lots acts) ps

  legal : Legal ps
  legal = legal_history first acts next.0

  legal_after : Legal (qs ++ ps)
  legal_after = legal_history first after next

  pub unknown_unstaged : (l : LotId) → list_any (λ k. is_lot l k.lot) (lots acts) ≡ false → staged_of_lot first acts o l ≡ 0
  unknown_unstaged l e = unknown_lot_is_nowhere first acts next.0 l (is_stage o) (any_found (λ (k : KnownLot). is_lot l k.lot) (lots acts) ∙ e)

  -- Balances of a lot

  lot_after : (l : LotId) (places : Place → Bool) → places Supplier ≡ false → places WriteOff ≡ false
      → balance places (is_lot l) (postings first after) + (if places (Stage o) then staged_of_lot first acts o l else 0) ≡ balance places (is_lot l) ps + (if places (Shipped number o) then staged_of_lot first acts o l else 0)
  lot_after l places e f = lot_shipped (next_number acts) number o (lots acts) ps (lots_apart acts) legal legal_after l (unknown_unstaged l) places e f

  pub stage_after : (u : List ℕ) (l : LotId) → staged_of_lot first after u l ≡ (if same_text u o then 0 else staged_of_lot first acts u l)
  stage_after u l =
      elim (same_text u o) as (λ b. same_text u o ≡ b → staged_of_lot first after u l ≡ (if b then 0 else staged_of_lot first acts u l)) [
        | true ↦ λ e. omega (arith, lot_after l (is_stage u) refl refl, ap (λ b. if b then staged_of_lot first acts o l else 0) e, ap (λ (x : List ℕ). staged_of_lot first acts x l) (same_text_is u o e))
        | false ↦ λ e. omega (arith, lot_after l (is_stage u) refl refl, ap (λ b. if b then staged_of_lot first acts o l else 0) e)
      ] refl

  pub bin_after : (b : List ℕ) (l : LotId) → in_bin first after b l ≡ in_bin first acts b l
  bin_after b l = omega (arith, lot_after l (is_bin b) refl refl)

  pub shipment_after : (n : ℕ) (l : LotId) → balance (is_shipment n) (is_lot l) (postings first after) ≡ balance (is_shipment n) (is_lot l) ps + (if n == number then staged_of_lot first acts o l else 0)
  shipment_after n l = omega (arith, lot_after l (is_shipment n) refl refl)

  pub house_after : (l : LotId) → lot_units_in_house first after l + staged_of_lot first acts o l ≡ lot_units_in_house first acts l
  house_after l = omega (arith, lot_after l in_house refl refl)

  -- Balances of an item

  abbrev item_stages : List ℕ → List ℕ → Cells
  item_stages u g p l = is_stage u p && of_item g l

  empty_cells : (g : List ℕ) (p : Place) (l : LotId) → item_stages o g p l ≡ true → holds (cell_at p l) (qs ++ ps) ≡ 0
  empty_cells g (Stage u) l e =
      let two = and_both (same_text o u) (of_item g l) e in
      let own : same_text u o ≡ true = ap (λ (x : List ℕ). same_text x o) (sym (same_text_is o u two.0)) ∙ same_text_refl o in
      stage_after u l ∙ ap (λ b. if b then 0 else staged_of_lot first acts u l) own
  empty_cells g _ l e = let f : false ≡ true = e in cc

  -- nothing of the item is staged for the order any more
  pub item_unstaged : (g : List ℕ) → balance (is_stage o) (of_item g) (postings first after) ≡ 0
  item_unstaged g = holds_nothing (qs ++ ps) legal_after (item_stages o g) (record { supplier = λ m. refl; write_off = λ m. refl }) (λ n u l. refl) (empty_cells g)

  other_stages : (u g : List ℕ) → same_text u o ≡ false → balance (is_stage u) (of_item g) (postings first after) ≡ balance (is_stage u) (of_item g) ps
  other_stages u g e = holds_alike (next_number acts) number o (lots acts) ps (item_stages u g) (λ l. ap (λ b. b && of_item g l) (sym e))

  -- what is served of a line stays: it is shipped in the place of staged
  served_after : (u g : List ℕ) → holds (served u g) (postings first after) ≡ holds (served u g) ps
  served_after u g = holds_alike (next_number acts) number o (lots acts) ps (served u g) (λ l. ap (λ b. b && of_item g l) (sym (or_false (same_text u o))))

  line_after : (u g : List ℕ) → balance (is_stage u) (of_item g) (postings first after) + shipped_of first after u g ≡ balance (is_stage u) (of_item g) ps + shipped_of first acts u g
  line_after u g = sym (served_is first after legal_after u g) ∙ served_after u g ∙ served_is first acts legal u g

  pub shipped_after : (u g : List ℕ) → shipped_of first after u g ≡ shipped_of first acts u g + (if same_text u o then balance (is_stage u) (of_item g) ps else 0)
  shipped_after u g =
      elim (same_text u o) as (λ b. same_text u o ≡ b → shipped_of first after u g ≡ shipped_of first acts u g + (if b then balance (is_stage u) (of_item g) ps else 0)) [
        | true ↦ λ e. omega (arith, line_after u g, ap (λ (x : List ℕ). balance (is_stage x) (of_item g) (postings first after)) (same_text_is u o e), item_unstaged g)
        | false ↦ λ e. omega (arith, line_after u g, other_stages u g e)
      ] refl

  -- Plans

  pub of_postings : (u g : List ℕ) (acts : List Act) → staged (item_postings first acts g) u g ≡ balance (is_stage u) (of_item g) (postings first acts)
  of_postings u g acts = balance-of_item (is_stage u) g (of_item g) (λ l e. e) (postings first acts)

  less : (c : Bool) (q s t x y : ℕ) → s + t ≡ x + y → (if c then 0 else q - s - t) ≡ (if c then 0 else q - x - y)
  less true q s t x y e = refl
  less false q s t x y e = omega arith

  -- a booking needs what it needed
  need_after : (g : List ℕ) (b : Booking) → b.item ≡ g → need after (item_postings first after g) b ≡ need acts (item_postings first acts g) b
  need_after g b item =
      ap (λ (x : List ℕ). if is_cancelled acts b.order then 0 else b.ordered - staged (item_postings first after g) b.order x - shipped (item_postings first after g) b.order x) item
      ∙ less (is_cancelled acts b.order) b.ordered (staged (item_postings first after g) b.order g) (shipped_of first after b.order g) (staged (item_postings first acts g) b.order g) (shipped_of first acts b.order g)
      (omega (arith, of_postings b.order g after, of_postings b.order g acts, line_after b.order g))
      ∙ sym (ap (λ (x : List ℕ). if is_cancelled acts b.order then 0 else b.ordered - staged (item_postings first acts g) b.order x - shipped (item_postings first acts g) b.order x) item)

  abbrev demand_before : List ℕ → Booking → Demand
  demand_before g = demand_of acts (item_postings first acts g)

  abbrev demand_after : List ℕ → Booking → Demand
  demand_after g = demand_of after (item_postings first after g)

  line_demands : (g : List ℕ) (p : Placed) (ls : List OrderLine) → map (demand_after g) (map (booking_of p) (filter (λ l. same_text g l.gtin) ls)) ≡ map (demand_before g) (map (booking_of p) (filter (λ l. same_text g l.gtin) ls))
  line_demands g p [] = refl
  line_demands g p (l ∷ ls) =
      elim (same_text g l.gtin) as (λ b. same_text g l.gtin ≡ b
      → map (demand_after g) (map (booking_of p) (if b then l ∷ filter (λ l. same_text g l.gtin) ls else filter (λ l. same_text g l.gtin) ls)) ≡ map (demand_before g) (map (booking_of p) (if b then l ∷ filter (λ l. same_text g l.gtin) ls else filter (λ l. same_text g l.gtin) ls))) [
        | true ↦ λ e. (λ i. record { booking = p.act; need = need_after g (booking_of p l) (sym (same_text_is g l.gtin e)) i } ∷ line_demands g p ls i)
        | false ↦ λ e. line_demands g p ls
      ] refl

  order_demands : (g : List ℕ) (os : List Placed) → map (demand_after g) (flat_map (lines_of_item g) os) ≡ map (demand_before g) (flat_map (lines_of_item g) os)
  order_demands g [] = refl
  order_demands g (p ∷ os) =
      map_appended (demand_after g) (lines_of_item g p) (flat_map (lines_of_item g) os) ∙ (λ i. line_demands g p p.lines i ++ order_demands g os i)
      ∙ sym (map_appended (demand_before g) (lines_of_item g p) (flat_map (lines_of_item g) os))

  demands_after : (g : List ℕ) → demands first after g ≡ demands first acts g
  demands_after g =
      let ones = flat_map (lines_of_item g) (filter is_urgent (orders acts)) in
      let others = flat_map (lines_of_item g) (filter is_normal (orders acts)) in
      let same_ones = map_reversed (demand_after g) (demand_before g) ones (order_demands g (filter is_urgent (orders acts))) in
      let same_others = map_reversed (demand_after g) (demand_before g) others (order_demands g (filter is_normal (orders acts))) in
      map_appended (demand_after g) (reverse ones) (reverse others) ∙ (λ i. same_ones i ++ same_others i) ∙ sym (map_appended (demand_before g) (reverse ones) (reverse others))

  unseen_by : (w : Cells) → ((l : LotId) → w (Shipped number o) l ≡ false) → ((l : LotId) → w (Stage o) l ≡ false) → (ks : List KnownLot) → Unseen w (shipped_off (next_number acts) number o ks ps)
  unseen_by w e f [] = tt
  unseen_by w e f (k ∷ ks) =
      unseen-append w (cleared (next_number acts) ps (Shipped number o) o k.lot) (shipped_off (next_number acts) number o ks ps)
      (unseen_posting w (next_number acts) k.lot (Stage o) (Shipped number o) (staged_of_lot first acts o k.lot) (e k.lot) (f k.lot)) (unseen_by w e f ks)

  store_after : (g : List ℕ) (l : LotId) → balance (in_store acts) (is_lot l) (item_postings first after g) ≡ balance (in_store acts) (is_lot l) (item_postings first acts g)
  store_after g l =
      let w : Cells = λ p m. in_store acts p && is_lot l m in
      ap (holds w) (filter_appended (λ (p : Posting). of_item g p.lot) qs ps)
      ∙ holds_unseen w (filter (λ (p : Posting). of_item g p.lot) qs) (filter (λ (p : Posting). of_item g p.lot) ps) (unseen_kept w (λ (p : Posting). of_item g p.lot) qs (unseen_by w (λ m. refl) (λ m. refl) (lots acts)))

  supplies_after : (g : List ℕ) → supplies first after g ≡ supplies first acts g
  supplies_after g = λ i. map (λ (k : KnownLot). record { lot = k.came; avail = store_after g k.lot i }) (shippable_lots first acts g)

  pub plan_after : (g : List ℕ) → plan first after g ≡ plan first acts g
  plan_after g = λ i. plan_rows (demands_after g i) (supplies_after g i)

  -- no reservation has changed
  pub reserved_after : (u : List ℕ) (l : LotId) → reserved first after u l ≡ reserved first acts u l
  reserved_after u l = ap (reserved_of (order_named acts u) (lot_known acts l)) (plan_after l.gtin)
