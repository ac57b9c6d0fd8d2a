-- A recall disturbs no booking before the first one that has units of the lot.
use Rattle.machine.proofs.Words.{◌≡◌, ℕ, ◌+◌, ◌-◌, Bool, true, false, ◌&&◌, not, List, [], ◌∷◌, ◌++◌, refl, ap, sym, subst, ◌∙◌, eq-eqb, ◌==◌, ◌||◌, if◌then◌else◌, ℤ, Option, Some, None, is_some, filter, map, flat_map, reverse, list_any, eqb-true, same_text, LotId, in_order, Key, OrderLine, Recall, Demand, AreBookingsDistinct, plan_rows, reserved_in, removing_disturbs_none, Act, next_number, Posting, is_stage, is_lot, of_item, KnownLot, Placed, lots, lots_of, lot_known, is_shippable, is_held, is_recalled, recalling, is_expired, least_expiry, is_store_row, orders, order_named, is_cancelled, postings, is_urgent, is_normal, Booking, booking_of, lines_of_item, bookings, demand_of, demands, supply_of, supplies, shippable_lots, goes_before, item_postings, staged, shipped, staged_of_lot, in_store, store_units, plan, reserved, reserved_of, IsHistory, has_of_lot, RecallDisturbsNone, RecallDisturbsLaterAlone}
use Rattle.machine.proofs.Tests.{same_text_is, same_text_refl, same_text_turned, is_lot_is, is_lot_refl, is_lot_turned, same_tests, some_one, or_none, and_false, is_zero}
use Rattle.machine.proofs.Apart.{AllFound, AreApart, found_kept}
use Rattle.machine.proofs.histories.Served.{demands_apart as apart_demands}
use Rattle.machine.proofs.histories.Cells.{Cells, IsPart, Inner, without, holds, holds_split, stage_cell, stage_part, inner_stage}
use Rattle.machine.proofs.histories.ItemBalances.{balance-of_item}
use Rattle.machine.proofs.histories.LegalHistories.{legal_history}
use Rattle.machine.proofs.histories.Lots.{same_known, lots_found, receipt_names_lot}
use Rattle.machine.proofs.histories.LotsInOrder.{lots_kept_in_order}
use Rattle.machine.proofs.histories.Orders.{same_order, orders_found, act_names_order}
use Rattle.machine.proofs.histories.OtherItems.{other_items_are_left_alone}
use Rattle.machine.proofs.histories.Picks.{Each, each_append, each_reversed, each_kept, each_ordered, bookings_distinct, lots_are_distinct}
use Rattle.machine.proofs.histories.ReturnsBin.{returns_named}
use Rattle.machine.proofs.histories.StagedLots.{staged_lots_are_shippable}
use Rattle.machine.proofs.histories.UnshippableLots.{MakesUnshippable, kept, unstaged, shipped_still}

-- Lists

each_of_first : {X : Type 0} (P : X → Type 0) (xs ys : List X) → Each P (xs ++ ys) → Each P xs
each_of_first P [] ys h = tt
each_of_first P (x ∷ xs) ys h = (h.0, each_of_first P xs ys h.1)

each_of_second : {X : Type 0} (P : X → Type 0) (xs ys : List X) → Each P (xs ++ ys) → Each P ys
each_of_second P [] ys h = h
each_of_second P (x ∷ xs) ys h = each_of_second P xs ys h.1

map_both : {X Y : Type 0} (f : X → Y) (xs ys : List X) → map f (xs ++ ys) ≡ map f xs ++ map f ys
map_both f [] ys = refl
map_both f (x ∷ xs) ys = ap (λ zs. f x ∷ zs) (map_both f xs ys)

map_alike : {X Y : Type 0} (f g : X → Y) (xs : List X) → Each (λ x. f x ≡ g x) xs → map f xs ≡ map g xs
map_alike f g [] h = refl
map_alike f g (x ∷ xs) h = λ i. h.0 i ∷ map_alike f g xs h.1 i

kept_twice : {X : Type 0} (f g keep : X → Bool) → ((x : X) → f x ≡ g x && keep x) → (xs : List X) → filter f xs ≡ filter keep (filter g xs)
kept_twice f g keep same [] = refl
kept_twice {X = X} f g keep same (x ∷ xs) = (λ i. if same x i then x ∷ kept_twice f g keep same xs i else kept_twice f g keep same xs i) ∙ by_tests (g x) (filter g xs)
  where
    by_tests : (b : Bool) (rest : List X) → (if b && keep x then x ∷ filter keep rest else filter keep rest) ≡ filter keep (if b then x ∷ rest else rest)
    by_tests true rest = refl
    by_tests false rest = refl

mapped_kept : {X Y : Type 0} (f : X → Y) (keep : X → Bool) (test : Y → Bool) (xs : List X) → Each (λ x. test (f x) ≡ keep x) xs → map f (filter keep xs) ≡ filter test (map f xs)
mapped_kept f keep test [] h = refl
mapped_kept f keep test (x ∷ xs) h = by_test (keep x) ∙ (λ i. if sym h.0 i then f x ∷ mapped_kept f keep test xs h.1 i else mapped_kept f keep test xs h.1 i)
  where
    by_test : (b : Bool) → map f (if b then x ∷ filter keep xs else filter keep xs) ≡ (if b then f x ∷ map f (filter keep xs) else map f (filter keep xs))
    by_test true = refl
    by_test false = refl

-- Of demands that are apart, one with the number of an earlier one is not among the later ones

apart_of_later : (d : Demand) (ds es : List Demand) → list_any (λ (e : Demand). d.booking == e.booking) (ds ++ es) ≡ false → list_any (λ (e : Demand). d.booking == e.booking) es ≡ false
apart_of_later d [] es f = f
apart_of_later d (x ∷ xs) es f = apart_of_later d xs es (or_none (d.booking == x.booking) _ f).1

turned_apart : (d x : Demand) (n : ℕ) → d.booking ≡ n → (d.booking == x.booking) ≡ false → (x.booking == n) ≡ false
turned_apart d x n own f = elim (x.booking == n) as (λ b. (x.booking == n) ≡ b → b ≡ false) [
  | true ↦ λ t. let g : true ≡ false = sym (eq-eqb d.booking x.booking (own ∙ sym (eqb-true x.booking n t))) ∙ f in cc
  | false ↦ λ t. refl
] refl

all_turned : (d : Demand) (n : ℕ) → d.booking ≡ n → (es : List Demand) → list_any (λ (e : Demand). d.booking == e.booking) es ≡ false → list_any (λ (e : Demand). e.booking == n) es ≡ false
all_turned d n own [] f = refl
all_turned d n own (x ∷ xs) f = let two = or_none (d.booking == x.booking) _ f in (λ i. turned_apart d x n own two.0 i || all_turned d n own xs two.1 i)

not_among_later : (n : ℕ) (ds es : List Demand) → AreApart (λ (d e : Demand). d.booking == e.booking) (ds ++ es) → list_any (λ (d : Demand). d.booking == n) ds ≡ true → list_any (λ (d : Demand). d.booking == n) es ≡ false
not_among_later n [] es h e = let f : false ≡ true = e in cc
not_among_later n (d ∷ ds) es h e =
    elim (d.booking == n) as (λ b. (d.booking == n) ≡ b → b || list_any (λ (d : Demand). d.booking == n) ds ≡ true → list_any (λ (d : Demand). d.booking == n) es ≡ false) [
      | true ↦ λ t f. all_turned d n (eqb-true d.booking n t) es (apart_of_later d ds es h.0)
      | false ↦ λ t f. not_among_later n ds es h.1 f
    ] refl e

no_units : (a b : ℕ) → not (a == 0) || not (b == 0) ≡ false → (a ≡ 0) × (b ≡ 0)
no_units a b h = let two = or_none (not (a == 0)) (not (b == 0)) h in (nothing a two.0, nothing b two.1)
  where
    nothing : (n : ℕ) → not (n == 0) ≡ false → n ≡ 0
    nothing n = elim (n == 0) as (λ t. (n == 0) ≡ t → not t ≡ false → n ≡ 0) [ true ↦ λ e f. eqb-true n 0 e | false ↦ λ e f. let g : true ≡ false = f in cc ] refl

module _ (first : ℤ) (before : List Act) (key : Key) (l : LotId) (next : IsHistory first (record { key = key; command = Recall l } ∷ before)) where
  abbrev act : Act
  act = record { key = key; command = Recall l }

  abbrev after : List Act
  after = act ∷ before

  abbrev g : List ℕ
  g = l.gtin

  abbrev old : List Posting
  old = item_postings first before g

  abbrev new : List Posting
  new = item_postings first after g

  recalled_is : (m : LotId) → is_recalled after m ≡ (if is_lot m l then true else is_recalled before m)
  recalled_is m = elim (is_lot m l) as (λ b. is_some (if b then Some (record { lot = l; act = next_number before }) else recalling before m) ≡ (if b then true else is_recalled before m)) [ true ↦ refl | false ↦ refl ]

  makes : MakesUnshippable first before act l
  makes = record {
    posts = refl;
    itself = λ k e.
        ap (λ b. not (is_held before k.lot) && not b && not (is_expired (least_expiry first before k.lot.gtin) k.expiry)) (recalled_is k.lot ∙ ap (λ t. if t then true else is_recalled before k.lot) (is_lot_turned k.lot l ∙ e))
        ∙ ap (λ b. b && not (is_expired (least_expiry first before k.lot.gtin) k.expiry)) (and_false (not (is_held before k.lot)));
    others = λ k e. ap (λ b. not (is_held before k.lot) && not b && not (is_expired (least_expiry first before k.lot.gtin) k.expiry)) (recalled_is k.lot ∙ ap (λ t. if t then true else is_recalled before k.lot) (is_lot_turned k.lot l ∙ e));
    same_orders = refl;
    same_cancels = refl;
    same_bins = refl;
  }

  -- Demands

  staged_after : (o : List ℕ) → staged_of_lot first before o l ≡ 0 → staged new o g ≡ staged old o g
  staged_after o none =
      let w : Cells = λ p m. is_stage o p && of_item g m in
      let inner : Inner w = record { supplier = λ m. refl; write_off = λ m. refl } in
      let part : IsPart (stage_cell o l) w = stage_part w o l (λ i. same_text_refl o i && same_text_refl g i) in
      let others = kept first before act l makes next (without w (stage_cell o l)) (λ u. sym ((λ i. (same_text o u && same_text_refl g i) && not (same_text o u && is_lot_refl l i)) ∙ gone (same_text o u))) in
      let new_split = holds_split (postings first after) (legal_history first after next) (stage_cell o l) w (inner_stage o l) inner part in
      let old_split = holds_split (postings first before) (legal_history first before next.0) (stage_cell o l) w (inner_stage o l) inner part in
      let empty : holds (stage_cell o l) (postings first after) ≡ 0 = unstaged first before act l makes next o in
      let was_empty : holds (stage_cell o l) (postings first before) ≡ 0 = none in
      balance-of_item (is_stage o) g (of_item g) (λ m e. e) (postings first after)
      ∙ new_split ∙ (λ i. empty i + others i) ∙ (λ i. sym was_empty i + holds (without w (stage_cell o l)) (postings first before)) ∙ sym old_split
      ∙ sym (balance-of_item (is_stage o) g (of_item g) (λ m e. e) (postings first before))
    where
      gone : (a : Bool) → (a && true) && not (a && true) ≡ false
      gone true = refl
      gone false = refl

  need_after : (b : Booking) → b.item ≡ g → staged_of_lot first before b.order l ≡ 0 → demand_of after new b ≡ demand_of before old b
  need_after b item none =
      let shipped_same : shipped new b.order b.item ≡ shipped old b.order b.item = ap (λ (x : List ℕ). shipped new b.order x) item ∙ sym (shipped_still first before act l makes next b.order g) ∙ ap (λ (x : List ℕ). shipped old b.order x) (sym item) in
      let staged_same : staged new b.order b.item ≡ staged old b.order b.item = ap (λ (x : List ℕ). staged new b.order x) item ∙ staged_after b.order none ∙ ap (λ (x : List ℕ). staged old b.order x) (sym item) in
      λ i. record { booking = b.act; need = if is_cancelled before b.order then 0 else b.ordered - staged_same i - shipped_same i }

  -- a booking of the item, with its order
  record IsOwn (b : Booking) : Type 0 where
    item : b.item ≡ g
    order : Placed
    named : order_named before b.order ≡ Some order
    number : order.act ≡ b.act

  own_lines : (w : Placed) → order_named before w.order ≡ Some w → (ls : List OrderLine) → Each IsOwn (map (booking_of w) (filter (λ l. same_text g l.gtin) ls))
  own_lines w e [] = tt
  own_lines w e (x ∷ xs) = elim (same_text g x.gtin) as (λ b. same_text g x.gtin ≡ b → Each IsOwn (map (booking_of w) (if b then x ∷ filter (λ l. same_text g l.gtin) xs else filter (λ l. same_text g l.gtin) xs))) [
    | true ↦ λ t. (record { item = sym (same_text_is g x.gtin t); order = w; named = e; number = refl }, own_lines w e xs)
    | false ↦ λ t. own_lines w e xs
  ] refl

  own_orders : (os : List Placed) → AllFound same_order (orders before) os → Each IsOwn (flat_map (lines_of_item g) os)
  own_orders [] h = tt
  own_orders (w ∷ os) h = each_append IsOwn (lines_of_item g w) (flat_map (lines_of_item g) os) (own_lines w h.0 w.lines) (own_orders os h.1)

  bookings_own : Each IsOwn (bookings before g)
  bookings_own =
      each_append IsOwn (reverse (flat_map (lines_of_item g) (filter is_urgent (orders before)))) (reverse (flat_map (lines_of_item g) (filter is_normal (orders before))))
      (each_reversed IsOwn (flat_map (lines_of_item g) (filter is_urgent (orders before))) (own_orders (filter is_urgent (orders before)) (found_kept same_order is_urgent (orders before) (orders before) (orders_found first before next.0))))
      (each_reversed IsOwn (flat_map (lines_of_item g) (filter is_normal (orders before))) (own_orders (filter is_normal (orders before)) (found_kept same_order is_normal (orders before) (orders before) (orders_found first before next.0))))

  -- Supplies

  same_store : (m : LotId) → of_item g m ≡ true → store_units after new m ≡ store_units before old m
  same_store m own =
      balance-of_item (in_store before) g (is_lot m) only (postings first after)
      ∙ kept first before act l makes next (λ p k. in_store before p && is_lot m k) (λ u. ap (λ r. is_store_row r && is_lot m l) (returns_named first before next.0))
      ∙ sym (balance-of_item (in_store before) g (is_lot m) only (postings first before))
    where
      only : (k : LotId) → of_item g k ≡ false → is_lot m k ≡ false
      only k e = elim (is_lot m k) as (λ b. is_lot m k ≡ b → b ≡ false) [
        | true ↦ λ t. let f : true ≡ false = sym own ∙ ap (λ (x : LotId). of_item g x) (is_lot_is m k t) ∙ e in cc
        | false ↦ λ t. refl
      ] refl

  abbrev IsKnownOwn : KnownLot → Type 0
  IsKnownOwn k = (lot_known before k.lot ≡ Some k) × (of_item g k.lot ≡ true)

  own_lots : (ks : List KnownLot) → AllFound same_known (lots before) ks → Each IsKnownOwn (filter (λ k. of_item g k.lot) ks)
  own_lots [] h = tt
  own_lots (k ∷ ks) h = elim (of_item g k.lot) as (λ b. of_item g k.lot ≡ b → Each IsKnownOwn (if b then k ∷ filter (λ k. of_item g k.lot) ks else filter (λ k. of_item g k.lot) ks)) [
    | true ↦ λ t. ((h.0, t), own_lots ks h.1)
    | false ↦ λ t. own_lots ks h.1
  ] refl

  shippable_own : Each IsKnownOwn (shippable_lots first before g)
  shippable_own = each_ordered IsKnownOwn goes_before (filter (is_shippable first before) (lots_of before g)) (each_kept IsKnownOwn (is_shippable first before) (lots_of before g) (own_lots (lots before) (lots_found before)))

  abbrev is_other : KnownLot → Bool
  is_other k = not (is_lot l k.lot)

  and_true : (a : Bool) → a ≡ a && true
  and_true true = refl
  and_true false = refl

  shippable_after : (k : KnownLot) → is_shippable first after k ≡ is_shippable first before k && is_other k
  shippable_after k = elim (is_lot l k.lot) as (λ b. is_lot l k.lot ≡ b → is_shippable first after k ≡ is_shippable first before k && not b) [
    | true ↦ λ e. makes.itself k e ∙ sym (and_false (is_shippable first before k))
    | false ↦ λ e. makes.others k e ∙ and_true (is_shippable first before k)
  ] refl

  supplied_alike : (ks : List KnownLot) → Each IsKnownOwn ks → Each (λ k. supply_of after new k ≡ supply_of before old k) ks
  supplied_alike [] h = tt
  supplied_alike (k ∷ ks) h = ((λ i. record { lot = k.came; avail = same_store k.lot h.0.1 i }), supplied_alike ks h.1)

  supplies_left : supplies first after g ≡ map (supply_of before old) (filter is_other (shippable_lots first before g))
  supplies_left =
      (λ i. map (supply_of after new) (in_order goes_before (kept_twice (is_shippable first after) (is_shippable first before) is_other shippable_after (lots_of before g) i)))
      ∙ (λ i. map (supply_of after new) (lots_kept_in_order is_other (filter (is_shippable first before) (lots_of before g)) i))
      ∙ map_alike (supply_of after new) (supply_of before old) (filter is_other (shippable_lots first before g))
      (supplied_alike (filter is_other (shippable_lots first before g)) (each_kept IsKnownOwn is_other (shippable_lots first before g) shippable_own))

  module _ (earlier later : List Booking) (parted : bookings before g ≡ earlier ++ later) (none : list_any (has_of_lot first before l) earlier ≡ false) where
    earlier_own : Each IsOwn earlier
    earlier_own = each_of_first IsOwn earlier later (subst (Each IsOwn) parted bookings_own)

    later_own : Each IsOwn later
    later_own = each_of_second IsOwn earlier later (subst (Each IsOwn) parted bookings_own)

    abbrev was : List Booking → List Demand
    was bs = map (demand_of before old) bs

    abbrev is_now : List Booking → List Demand
    is_now bs = map (demand_of after new) bs

    demands_before : demands first before g ≡ was earlier ++ was later
    demands_before = ap was parted ∙ map_both (demand_of before old) earlier later

    needs_alike : (bs : List Booking) → Each IsOwn bs → list_any (has_of_lot first before l) bs ≡ false → Each (λ b. demand_of after new b ≡ demand_of before old b) bs
    needs_alike [] h e = tt
    needs_alike (b ∷ bs) h e =
        let two = or_none (has_of_lot first before l b) (list_any (has_of_lot first before l) bs) e in
        (need_after b h.0.item (no_units (reserved first before b.order l) (staged_of_lot first before b.order l) two.0).1, needs_alike bs h.1 two.1)

    demands_after : demands first after g ≡ was earlier ++ is_now later
    demands_after = ap is_now parted ∙ map_both (demand_of after new) earlier later ∙ ap (λ ds. ds ++ is_now later) (map_alike (demand_of after new) (demand_of before old) earlier (needs_alike earlier earlier_own none))

    -- Where the lot is known, it goes from the supplies

    module _ (kl : KnownLot) (known : lot_known before l ≡ Some kl) where
      lot_number : (k : KnownLot) → lot_known before k.lot ≡ Some k → (k.came == kl.came) ≡ is_lot l k.lot
      lot_number k e = same_tests (k.came == kl.came) (is_lot l k.lot) there back
        where
          there : (k.came == kl.came) ≡ true → is_lot l k.lot ≡ true
          there t = ap (is_lot l) (receipt_names_lot before k.lot l k kl e known (eqb-true k.came kl.came t)) ∙ is_lot_refl l

          back : is_lot l k.lot ≡ true → (k.came == kl.came) ≡ true
          back t = eq-eqb k.came kl.came (ap (λ (x : KnownLot). x.came) (some_one k kl (sym e ∙ ap (lot_known before) (sym (is_lot_is l k.lot t)) ∙ known)))

      numbers_tell : (ks : List KnownLot) → Each IsKnownOwn ks → Each (λ k. not ((supply_of before old k).lot == kl.came) ≡ is_other k) ks
      numbers_tell [] h = tt
      numbers_tell (k ∷ ks) h = (ap not (lot_number k h.0.0), numbers_tell ks h.1)

      supplies_after : supplies first after g ≡ filter (λ s. not (s.lot == kl.came)) (supplies first before g)
      supplies_after = supplies_left ∙ mapped_kept (supply_of before old) is_other (λ s. not (s.lot == kl.came)) (shippable_lots first before g) (numbers_tell (shippable_lots first before g) shippable_own)

      nothing_of_it : (bs : List Booking) → Each IsOwn bs → list_any (has_of_lot first before l) bs ≡ false
          → list_any (λ (d : Demand). not (reserved_in d.booking kl.came (plan_rows (was earlier ++ was later) (supplies first before g)) == 0)) (was bs) ≡ false
      nothing_of_it [] h e = refl
      nothing_of_it (b ∷ bs) h e =
          let two = or_none (has_of_lot first before l b) (list_any (has_of_lot first before l) bs) e in
          let none_reserved = (no_units (reserved first before b.order l) (staged_of_lot first before b.order l) two.0).0 in
          let own : reserved_in b.act kl.came (plan_rows (was earlier ++ was later) (supplies first before g)) ≡ 0 =
          (λ i. reserved_in (sym h.0.number i) kl.came (plan_rows (sym demands_before i) (supplies first before g))) ∙ (λ i. reserved_of (sym h.0.named i) (sym known i) (plan first before g)) ∙ none_reserved in
          (λ i. not (own i == 0) || nothing_of_it bs h.1 two.1 i)

      left_alone : (n k : ℕ) → list_any (λ (d : Demand). d.booking == n) (was later) ≡ false → list_any (λ (d : Demand). d.booking == n) (is_now later) ≡ false → reserved_in n k (plan first after g) ≡ reserved_in n k (plan first before g)
      left_alone n k e f =
          (λ i. reserved_in n k (plan_rows (demands_after i) (supplies_after i)))
          ∙ sym (removing_disturbs_none (was earlier) (was later) (is_now later) (supplies first before g) kl.came (subst AreBookingsDistinct demands_before (bookings_distinct first before g next.0)) (lots_are_distinct first before g) (nothing_of_it earlier earlier_own none) n k e f)
          ∙ (λ i. reserved_in n k (plan_rows (sym demands_before i) (supplies first before g)))

    -- Where it is not known, nothing of it is staged, and the plan stays

    module _ (unknown : lot_known before l ≡ None) where
      unstaged_before : (o : List ℕ) → staged_of_lot first before o l ≡ 0
      unstaged_before o = elim (staged_of_lot first before o l == 0) as (λ b. (staged_of_lot first before o l == 0) ≡ b → staged_of_lot first before o l ≡ 0) [
        | true ↦ λ e. is_zero _ e
        | false ↦ λ e.
            let h = staged_lots_are_shippable first before o l next.0 (λ z. let f : true ≡ false = sym (eq-eqb _ 0 z) ∙ e in cc) in
            let f : ◌≡◌ {A = Option KnownLot} None (Some h.0) = sym unknown ∙ h.1 in
            cc
      ] refl

      all_alike : (bs : List Booking) → Each IsOwn bs → Each (λ b. demand_of after new b ≡ demand_of before old b) bs
      all_alike [] h = tt
      all_alike (b ∷ bs) h = (need_after b h.0.item (unstaged_before b.order), all_alike bs h.1)

      is_not_it : (k : KnownLot) → lot_known before k.lot ≡ Some k → (b : Bool) → is_lot l k.lot ≡ b → b ≡ false
      is_not_it k e true t = let f : ◌≡◌ {A = Option KnownLot} None (Some k) = sym unknown ∙ ap (lot_known before) (is_lot_is l k.lot t) ∙ e in cc
      is_not_it k e false t = refl

      all_other : (ks : List KnownLot) → Each IsKnownOwn ks → filter is_other ks ≡ ks
      all_other [] h = refl
      all_other (k ∷ ks) h = (λ i. if not (is_not_it k h.0.0 (is_lot l k.lot) refl i) then k ∷ filter is_other ks else filter is_other ks) ∙ ap (λ xs. k ∷ xs) (all_other ks h.1)

      plan_stays : plan first after g ≡ plan first before g
      plan_stays =
          λ i. plan_rows (map_alike (demand_of after new) (demand_of before old) (bookings before g) (all_alike (bookings before g) bookings_own) i)
          ((supplies_left ∙ ap (map (supply_of before old)) (all_other (shippable_lots first before g) shippable_own)) i)

    -- Reservations

    by_numbers : (x : Option KnownLot) → lot_known before l ≡ x → (n k : ℕ) → list_any (λ (d : Demand). d.booking == n) (was later) ≡ false → list_any (λ (d : Demand). d.booking == n) (is_now later) ≡ false
        → reserved_in n k (plan first after g) ≡ reserved_in n k (plan first before g)
    by_numbers None e n k h f = ap (reserved_in n k) (plan_stays e)
    by_numbers (Some kl) e n k h f = left_alone kl e n k h f

    -- the order has no booking among the later ones
    abbrev HasNoLater : List ℕ → Type 0
    HasNoLater o = (w : Placed) → order_named before o ≡ Some w → list_any (λ (b : Booking). b.act == w.act) later ≡ false

    was_numbered : (n : ℕ) (bs : List Booking) → list_any (λ (d : Demand). d.booking == n) (was bs) ≡ list_any (λ (b : Booking). b.act == n) bs
    was_numbered n [] = refl
    was_numbered n (b ∷ bs) = ap (λ t. (b.act == n) || t) (was_numbered n bs)

    now_numbered : (n : ℕ) (bs : List Booking) → list_any (λ (d : Demand). d.booking == n) (is_now bs) ≡ list_any (λ (b : Booking). b.act == n) bs
    now_numbered n [] = refl
    now_numbered n (b ∷ bs) = ap (λ t. (b.act == n) || t) (now_numbered n bs)

    by_names : (o : List ℕ) → HasNoLater o → (x : Option Placed) (y : Option KnownLot) → order_named before o ≡ x → reserved_of x y (plan first after g) ≡ reserved_of x y (plan first before g)
    by_names o h None y e = refl
    by_names o h (Some w) None e = refl
    by_names o h (Some w) (Some k) e = by_numbers (lot_known before l) refl w.act k.came (was_numbered w.act later ∙ h w e) (now_numbered w.act later ∙ h w e)

    of_own_item : (o : List ℕ) (m : LotId) → HasNoLater o → g ≡ m.gtin → reserved first after o m ≡ reserved first before o m
    of_own_item o m h e =
        subst (λ (x : List ℕ). reserved_of (order_named before o) (lot_known before m) (plan first after x) ≡ reserved_of (order_named before o) (lot_known before m) (plan first before x)) e
        (by_names o h (order_named before o) (lot_known before m) refl)

    of_other_item : (o : List ℕ) (m : LotId) → of_item g m ≡ false → reserved first after o m ≡ reserved first before o m
    of_other_item o m e = (other_items_are_left_alone first act before m.gtin next (same_text_turned m.gtin g ∙ e)).reserved o m (same_text_refl m.gtin)

    of_any_item : (o : List ℕ) (m : LotId) → (of_item g m ≡ true → HasNoLater o) → reserved first after o m ≡ reserved first before o m
    of_any_item o m h = elim (of_item g m) as (λ b. of_item g m ≡ b → reserved first after o m ≡ reserved first before o m) [
      | true ↦ λ t. of_own_item o m (h t) (same_text_is g m.gtin t)
      | false ↦ λ t. of_other_item o m t
    ] refl

    -- An order is named by its number

    order_number : (o : List ℕ) (w : Placed) → order_named before o ≡ Some w → (b : Booking) → IsOwn b → (b.act == w.act) ≡ same_text o b.order
    order_number o w e b own = same_tests (b.act == w.act) (same_text o b.order) there back
      where
        there : (b.act == w.act) ≡ true → same_text o b.order ≡ true
        there t = ap (same_text o) (act_names_order before b.order o own.order w own.named e (own.number ∙ eqb-true b.act w.act t)) ∙ same_text_refl o

        back : same_text o b.order ≡ true → (b.act == w.act) ≡ true
        back t = eq-eqb b.act w.act (sym own.number ∙ ap (λ (x : Placed). x.act) (some_one own.order w (sym own.named ∙ ap (order_named before) (sym (same_text_is o b.order t)) ∙ e)))

    numbered_as_named : (o : List ℕ) (w : Placed) → order_named before o ≡ Some w → (bs : List Booking) → Each IsOwn bs → list_any (λ (b : Booking). b.act == w.act) bs ≡ list_any (λ (b : Booking). same_text o b.order) bs
    numbered_as_named o w e [] h = refl
    numbered_as_named o w e (b ∷ bs) h = λ i. order_number o w e b h.0 i || numbered_as_named o w e bs h.1 i

    demands_apart : AreApart (λ (d e : Demand). d.booking == e.booking) (was earlier ++ was later)
    demands_apart = subst (AreApart (λ (d e : Demand). d.booking == e.booking)) demands_before (apart_demands first before g next.0)

    pub earlier_keeps : (o : List ℕ) (m : LotId) → list_any (λ (b : Booking). same_text o b.order) earlier ≡ true → reserved first after o m ≡ reserved first before o m
    earlier_keeps o m h =
        of_any_item o m (λ t w e. sym (was_numbered w.act later) ∙ not_among_later w.act (was earlier) (was later) demands_apart (was_numbered w.act earlier ∙ numbered_as_named o w e earlier earlier_own ∙ h))

    pub others_keep : (o : List ℕ) (m : LotId) → of_item g m && list_any (λ (b : Booking). same_text o b.order) later ≡ false → reserved first after o m ≡ reserved first before o m
    others_keep o m h =
        of_any_item o m (λ t w e. numbered_as_named o w e later later_own ∙ ap (λ b. b && list_any (λ (b : Booking). same_text o b.order) later) (sym t) ∙ h)

pub recall_disturbs_none : RecallDisturbsNone
recall_disturbs_none first before key l earlier later o m next parted none h = earlier_keeps first before key l next earlier later parted none o m h

pub recall_disturbs_later_alone : RecallDisturbsLaterAlone
recall_disturbs_later_alone first before key l earlier later o m next parted none h = others_keep first before key l next earlier later parted none o m h
