-- An act leaves the items alone that it does not touch.
use Rattle.machine.proofs.Words.{◌≡◌, ℕ, ◌+◌, ◌-◌, Bool, true, false, ◌&&◌, not, List, [], ◌∷◌, ◌++◌, refl, ap, sym, subst, ◌∙◌, arith, ◌==◌, ◌||◌, if◌then◌else◌, find, filter, map, reverse, flat_map, Option, Some, None, is_some, ℤ, pos, int_lt, int_le, ◌+ℤ◌, list_any, ints, same_text, LotId, total, in_order, Key, NewBin, NewOrder, Receipt, NewLeast, OrderLine, Command, Bin, Receive, Order, Cancel, Hold, Release, Recall, OpenDay, Least, Urgent, plan_rows, Act, gathered, next_number, Place, InBin, Posting, units_in, units_out, is_lot, of_item, KnownLot, Placed, lots, lots_of, lot_among, lot_known, has_bin, bin_named, is_store_bin, is_store_row, orders, order_named, lines_placed, has_line, is_cancelled, is_shippable, is_held, is_recalled, is_expired, says_held, hold_in, recall_in, least_in, days_asked, least_days, least_expiry, today, lot_returned, returned, posted, postings, is_urgent, is_normal, booking_of, lines_of_item, bookings, need, demands, demand_of, supplies, supply_of, goes_before, item_postings, staged, shipped, in_store, plan, reserved, reserved_of, touches, verdict, IsHistory, OtherItemsAreLeftAlone, has_order}
use Rattle.machine.proofs.Mapping.{map_reversed, map_appended}
use Rattle.machine.proofs.Tests.{same_text_is, same_text_refl, is_lot_is, or_none}
use Rattle.machine.proofs.histories.Accepted.{bin_accepted, day_accepted}
use Rattle.machine.proofs.histories.ActFacts.{Entry, Nothing, One, Corrected, ShippedOff, Returned, entry_of, entry_posted, Facts, facts_of, order_is_new, Each, each-append, each_lot_returned, each_of_entry, Shown}
use Rattle.machine.proofs.histories.Orders.{orders_found, same_order}
use Rattle.machine.proofs.Apart.{AllFound, found_kept}
use Rattle.machine.proofs.histories.KnownPlaces.{AllKnown, KnownPlace, known_postings, unknown_line_is_unstaged}
use Rattle.machine.proofs.histories.Needs.{needs, reserved_within_needs, unknown_is_unreserved}

-- Postings of other items

abbrev IsOther : List ℕ → Posting → Type 0
IsOther g p = of_item g p.lot ≡ false

abbrev AllOther : List ℕ → List Posting → Type 0
AllOther g = Each (IsOther g)

others_filtered : (g : List ℕ) (qs ps : List Posting) → AllOther g qs → filter (λ p. of_item g p.lot) (qs ++ ps) ≡ filter (λ p. of_item g p.lot) ps
others_filtered g [] ps h = refl
others_filtered g (q ∷ qs) ps h = ap (λ b. if b then q ∷ filter (λ p. of_item g p.lot) (qs ++ ps) else filter (λ p. of_item g p.lot) (qs ++ ps)) h.0 ∙ others_filtered g qs ps h.1

-- no lot of the item passes the test
abbrev NonePasses : List ℕ → (KnownLot → Bool) → List KnownLot → Type 0
NonePasses g test [] = Unit {0}
NonePasses g test (k ∷ ks) = (of_item g k.lot ≡ true → test k ≡ false) × NonePasses g test ks

other_returned : (g : List ℕ) (n : ℕ) (ps : List Posting) (os : List Placed) (test : KnownLot → Bool) (ks : List KnownLot) → NonePasses g test ks → AllOther g (returned n (filter test ks) os ps)
other_returned g n ps os test [] h = tt
other_returned g n ps os test (k ∷ ks) h =
    elim (test k) as (λ b. test k ≡ b → AllOther g (returned n (if b then k ∷ filter test ks else filter test ks) os ps)) [
      | true ↦ λ e.
          let other : of_item g k.lot ≡ false = elim (of_item g k.lot) as (λ b. of_item g k.lot ≡ b → b ≡ false) [ true ↦ λ t. let f = h.0 t in cc | false ↦ λ t. refl ] refl in
          each-append (IsOther g) (lot_returned n os ps k) (returned n (filter test ks) os ps) (each_lot_returned (IsOther g) n ps k (λ o f. other) os) (other_returned g n ps os test ks h.1)
      | false ↦ λ e. other_returned g n ps os test ks h.1
    ] refl

none_pass_of : (g : List ℕ) (test : KnownLot → Bool) (ks : List KnownLot) → list_any test (filter (λ k. of_item g k.lot) ks) ≡ false → NonePasses g test ks
none_pass_of g test [] e = tt
none_pass_of g test (k ∷ ks) e =
    elim (of_item g k.lot) as (λ b. of_item g k.lot ≡ b → list_any test (if b then k ∷ filter (λ k. of_item g k.lot) ks else filter (λ k. of_item g k.lot) ks) ≡ false → NonePasses g test (k ∷ ks)) [
      | true ↦ λ t f. let two = or_none (test k) (list_any test (filter (λ k. of_item g k.lot) ks)) f in (λ u. two.0, none_pass_of g test ks two.1)
      | false ↦ λ t f. (λ u. let v : true ≡ false = sym u ∙ t in cc, none_pass_of g test ks f)
    ] refl e

-- Tests that agree on the lots of an item keep the same of them

abbrev NoneDiffers : List ℕ → (KnownLot → Bool) → (KnownLot → Bool) → List KnownLot → Type 0
NoneDiffers g f h [] = Unit {0}
NoneDiffers g f h (k ∷ ks) = (of_item g k.lot ≡ true → f k ≡ h k) × NoneDiffers g f h ks

none_differs_by : (g : List ℕ) (f h : KnownLot → Bool) → ((k : KnownLot) → of_item g k.lot ≡ true → f k ≡ h k) → (ks : List KnownLot) → NoneDiffers g f h ks
none_differs_by g f h e [] = tt
none_differs_by g f h e (k ∷ ks) = (e k, none_differs_by g f h e ks)

never_made : (a b : Bool) → a ≡ b → b && not a ≡ false
never_made true true e = refl
never_made true false e = refl
never_made false true e = cc
never_made false false e = refl

-- then no lot of it is lost
none_lost : (g : List ℕ) (f h : KnownLot → Bool) (ks : List KnownLot) → NoneDiffers g f h ks → NonePasses g (λ k. h k && not (f k)) ks
none_lost g f h [] e = tt
none_lost g f h (k ∷ ks) e = (λ t. never_made (f k) (h k) (e.0 t), none_lost g f h ks e.1)

same_kept : (g : List ℕ) (f h : KnownLot → Bool) (ks : List KnownLot) → NoneDiffers g f h ks → filter f (filter (λ k. of_item g k.lot) ks) ≡ filter h (filter (λ k. of_item g k.lot) ks)
same_kept g f h [] e = refl
same_kept g f h (k ∷ ks) e =
    elim (of_item g k.lot) as (λ b. of_item g k.lot ≡ b → filter f (if b then k ∷ filter (λ k. of_item g k.lot) ks else filter (λ k. of_item g k.lot) ks) ≡ filter h (if b then k ∷ filter (λ k. of_item g k.lot) ks else filter (λ k. of_item g k.lot) ks)) [
      | true ↦ λ t. (λ i. if e.0 t i then k ∷ same_kept g f h ks e.1 i else same_kept g f h ks e.1 i)
      | false ↦ λ t. same_kept g f h ks e.1
    ] refl

-- Days

expired_later : (expiry old new : ℤ) (n : ℕ) → int_le new old ≡ false → int_lt expiry (old +ℤ pos n) ≡ true → int_lt expiry (new +ℤ pos n) ≡ true
expired_later expiry old new n e f = grind (arith, ints)

-- A bin that is new holds nothing

module _ (first : ℤ) (key : Key) (before : List Act) (g : List ℕ) where
  abbrev done : Command → Act
  done c = record { key = key; command = c }

  abbrev old : List Posting
  old = postings first before

  -- what of an item a plan is made of
  record IsSame (c : Command) : Type 0 where
    postings : item_postings first (done c ∷ before) g ≡ item_postings first before g
    demands : demands first (done c ∷ before) g ≡ demands first before g
    supplies : supplies first (done c ∷ before) g ≡ supplies first before g

  same_by : (c : Command) → AllOther g (posted first (done c) before old c) → demands first (done c ∷ before) g ≡ map (demand_of before (item_postings first (done c ∷ before) g)) (bookings before g)
      → supplies first (done c ∷ before) g ≡ map (supply_of before (item_postings first (done c ∷ before) g)) (in_order goes_before (filter (is_shippable first before) (lots_of before g))) → IsSame c
  same_by c others d s =
      let own : item_postings first (done c ∷ before) g ≡ item_postings first before g = others_filtered g (posted first (done c) before old c) old others in
      record {
        postings = own;
        demands = d ∙ (λ i. map (demand_of before (own i)) (bookings before g));
        supplies = s ∙ (λ i. map (supply_of before (own i)) (in_order goes_before (filter (is_shippable first before) (lots_of before g))));
      }

  -- Holds, releases, recalls and days

  other_of : (l m : LotId) → of_item g l ≡ false → of_item g m ≡ true → is_lot m l ≡ false
  other_of l m e f =
      elim (is_lot m l) as (λ b. is_lot m l ≡ b → b ≡ false) [
        | true ↦ λ t. let h : true ≡ false = sym f ∙ ap (λ (x : LotId). of_item g x) (is_lot_is m l t) ∙ e in cc
        | false ↦ λ t. refl
      ] refl

  held_same : (l : LotId) → of_item g l ≡ false → (k : KnownLot) → of_item g k.lot ≡ true → is_shippable first (done (Hold l) ∷ before) k ≡ is_shippable first before k
  held_same l e k f =
      ap (λ b. not (says_held (if b then Some (record { lot = l; held = true }) else find (λ w. is_lot k.lot w.lot) (gathered hold_in before))) && not (is_recalled before k.lot) && not (is_expired (least_expiry first before k.lot.gtin) k.expiry))
      (other_of l k.lot e f)

  released_same : (l : LotId) → of_item g l ≡ false → (k : KnownLot) → of_item g k.lot ≡ true → is_shippable first (done (Release l) ∷ before) k ≡ is_shippable first before k
  released_same l e k f =
      ap (λ b. not (says_held (if b then Some (record { lot = l; held = false }) else find (λ w. is_lot k.lot w.lot) (gathered hold_in before))) && not (is_recalled before k.lot) && not (is_expired (least_expiry first before k.lot.gtin) k.expiry))
      (other_of l k.lot e f)

  recalled_same : (l : LotId) → of_item g l ≡ false → (k : KnownLot) → of_item g k.lot ≡ true → is_shippable first (done (Recall l) ∷ before) k ≡ is_shippable first before k
  recalled_same l e k f =
      ap (λ b. not (is_held before k.lot) && not (is_some (if b then Some (record { lot = l; act = next_number before }) else find (λ r. is_lot k.lot r.lot) (gathered recall_in before))) && not (is_expired (least_expiry first before k.lot.gtin) k.expiry))
      (other_of l k.lot e f)

  asked_same : (l : NewLeast) → same_text g l.gtin ≡ false → (k : KnownLot) → of_item g k.lot ≡ true → is_shippable first (done (Least l) ∷ before) k ≡ is_shippable first before k
  asked_same l e k f =
      let other : same_text k.lot.gtin l.gtin ≡ false = ap (λ (x : List ℕ). same_text x l.gtin) (sym (same_text_is g k.lot.gtin f)) ∙ e in
      ap (λ b. not (is_held before k.lot) && not (is_recalled before k.lot) && not (is_expired (today first before +ℤ pos (days_asked (if b then Some l else find (λ x. same_text k.lot.gtin x.gtin) (gathered least_in before)))) k.expiry))
      other

  agree : (x a b : Bool) → (a ≡ true → b ≡ true) → x && not a && not (x && not b) ≡ false → x && not b ≡ x && not a
  agree false a b h e = refl
  agree true true b h e = ap not (h refl)
  agree true false true h e = let f : true ≡ false = e in cc
  agree true false false h e = refl

  day_same : (day : ℤ) → int_le day (today first before) ≡ false → (ks : List KnownLot) → NonePasses g (λ k. is_shippable first before k && not (is_shippable first (done (OpenDay day) ∷ before) k)) ks
      → NoneDiffers g (is_shippable first (done (OpenDay day) ∷ before)) (is_shippable first before) ks
  day_same day later [] h = tt
  day_same day later (k ∷ ks) h = (
    λ e. agree (not (is_held before k.lot) && not (is_recalled before k.lot)) (is_expired (least_expiry first before k.lot.gtin) k.expiry) (is_expired (day +ℤ pos (least_days before k.lot.gtin)) k.expiry)
        (expired_later k.expiry (today first before) day (least_days before k.lot.gtin) later) (h.0 e),
    day_same day later ks h.1,
  )

  -- Receipts

  lots_received : (r : Receipt) → of_item g r.lot ≡ false → lots_of (done (Receive r) ∷ before) g ≡ lots_of before g
  lots_received r e =
      elim (is_some (lot_among r.lot (lots before))) as (λ b. filter (λ k. of_item g k.lot) (if b then lots before else record { lot = r.lot; expiry = r.expiry; came = next_number before } ∷ lots before) ≡ lots_of before g) [
        | true ↦ refl
        | false ↦ ap (λ b. if b then record { lot = r.lot; expiry = r.expiry; came = next_number before } ∷ lots_of before g else lots_of before g) e
      ]

  -- Orders and cancels

  no_line : (ls : List OrderLine) → list_any (λ l. same_text g l.gtin) ls ≡ false → filter (λ l. same_text g l.gtin) ls ≡ []
  no_line [] e = refl
  no_line (l ∷ ls) e =
      let two = or_none (same_text g l.gtin) (list_any (λ l. same_text g l.gtin) ls) e in
      ap (λ b. if b then l ∷ filter (λ l. same_text g l.gtin) ls else filter (λ l. same_text g l.gtin) ls) two.0 ∙ no_line ls two.1

  cancelled_same : (o : List ℕ) → has_line before o g ≡ false → (ps : List Posting) (os : List Placed) → AllFound same_order (orders before) os
      → map (demand_of (done (Cancel o) ∷ before) ps) (flat_map (lines_of_item g) os) ≡ map (demand_of before ps) (flat_map (lines_of_item g) os)
  cancelled_same o none ps [] h = refl
  cancelled_same o none ps (p ∷ os) h =
      map_appended (demand_of (done (Cancel o) ∷ before) ps) (lines_of_item g p) (flat_map (lines_of_item g) os)
      ∙ (λ i. own i ++ cancelled_same o none ps os h.1 i)
      ∙ sym (map_appended (demand_of before ps) (lines_of_item g p) (flat_map (lines_of_item g) os))
    where
      others : same_text p.order o ≡ false → (ls : List OrderLine) → map (demand_of (done (Cancel o) ∷ before) ps) (map (booking_of p) ls) ≡ map (demand_of before ps) (map (booking_of p) ls)
      others e [] = refl
      others e (l ∷ ls) =
          let own : demand_of (done (Cancel o) ∷ before) ps (booking_of p l) ≡ demand_of before ps (booking_of p l) =
          λ i. record { booking = p.act; need = if e i || is_cancelled before p.order then 0 else l.qty - staged ps p.order l.gtin - shipped ps p.order l.gtin } in
          (λ i. own i ∷ others e ls i)

      own : map (demand_of (done (Cancel o) ∷ before) ps) (lines_of_item g p) ≡ map (demand_of before ps) (lines_of_item g p)
      own =
          elim (same_text p.order o) as (λ b. same_text p.order o ≡ b → map (demand_of (done (Cancel o) ∷ before) ps) (lines_of_item g p) ≡ map (demand_of before ps) (lines_of_item g p)) [
            | true ↦ λ t.
                let order : p.order ≡ o = same_text_is p.order o t in
                let lines : list_any (λ l. same_text g l.gtin) p.lines ≡ false =
                ap (λ q. list_any (λ l. same_text g l.gtin) (lines_placed q)) (sym h.0) ∙ ap (λ (x : List ℕ). has_line before x g) order ∙ none in
                (λ i. map (demand_of (done (Cancel o) ∷ before) ps) (map (booking_of p) (no_line p.lines lines i))) ∙ sym (λ i. map (demand_of before ps) (map (booking_of p) (no_line p.lines lines i)))
            | false ↦ λ t. others t (filter (λ l. same_text g l.gtin) p.lines)
          ] refl

  -- Bins

  in_store_same : (b : NewBin) → has_bin before b.bin ≡ false → (p : Place) (l : LotId) → KnownPlace first before p l → in_store (done (Bin b) ∷ before) p ≡ in_store before p
  in_store_same b new (InBin c) l k =
      elim (same_text c b.bin) as (λ t. same_text c b.bin ≡ t → is_store_row (if t then Some b else bin_named before c) ≡ is_store_bin before c) [
        | true ↦ λ t. let f : true ≡ false = sym k ∙ ap (λ (x : List ℕ). has_bin before x) (same_text_is c b.bin t) ∙ new in cc
        | false ↦ λ t. refl
      ] refl
  in_store_same b new _ l k = refl

  store_in_same : (b : NewBin) → has_bin before b.bin ≡ false → (l : LotId) (ps : List Posting) → AllKnown first before ps
      → units_in (in_store (done (Bin b) ∷ before)) (is_lot l) ps ≡ units_in (in_store before) (is_lot l) ps
  store_in_same b new l [] h = refl
  store_in_same b new l (p ∷ ps) h = λ i. (if in_store_same b new p.to p.lot (h.0).to i && is_lot l p.lot then p.qty else 0) + store_in_same b new l ps h.1 i

  store_out_same : (b : NewBin) → has_bin before b.bin ≡ false → (l : LotId) (ps : List Posting) → AllKnown first before ps
      → units_out (in_store (done (Bin b) ∷ before)) (is_lot l) ps ≡ units_out (in_store before) (is_lot l) ps
  store_out_same b new l [] h = refl
  store_out_same b new l (p ∷ ps) h = λ i. (if in_store_same b new p.from p.lot (h.0).from i && is_lot l p.lot then p.qty else 0) + store_out_same b new l ps h.1 i

  known_of_item : (ps : List Posting) → AllKnown first before ps → AllKnown first before (filter (λ p. of_item g p.lot) ps)
  known_of_item [] h = tt
  known_of_item (p ∷ ps) h = elim (of_item g p.lot) as (λ b. AllKnown first before (if b then p ∷ filter (λ p. of_item g p.lot) ps else filter (λ p. of_item g p.lot) ps)) [
    | true ↦ (h.0, known_of_item ps h.1)
    | false ↦ known_of_item ps h.1
  ]

  -- Each command

  -- the lots of the item are as shippable as they were
  ships_same : (c : Command) → verdict first before c ≡ None → touches first (done c) before c g ≡ false → NoneDiffers g (is_shippable first (done c ∷ before)) (is_shippable first before) (lots before)
  ships_same (Hold l) ok e = none_differs_by g _ _ (held_same l e) (lots before)
  ships_same (Release l) ok e = none_differs_by g _ _ (released_same l e) (lots before)
  ships_same (Recall l) ok e = none_differs_by g _ _ (recalled_same l e) (lots before)
  ships_same (Least l) ok e = none_differs_by g _ _ (asked_same l e) (lots before)
  ships_same (OpenDay day) ok e =
      let none = none_pass_of g (λ k. is_shippable first before k && not (is_shippable first (done (OpenDay day) ∷ before) k)) (lots before) (or_none _ _ e).0 in
      day_same day (day_accepted first before day ok) (lots before) none
  ships_same c ok e = none_differs_by g _ _ (λ k f. refl) (lots before)

  -- its postings are of other items
  others_shown : (c : Command) → IsHistory first before → touches first (done c) before c g ≡ false → NoneDiffers g (is_shippable first (done c ∷ before)) (is_shippable first before) (lots before)
      → (n : Entry) → Facts first (done c) before n → Shown (IsOther g) first (done c) before old n
  others_shown c h e same Nothing f = tt
  others_shown c h e same (One l from to q) f = λ some. sym (f.own g) ∙ e
  others_shown c h e same (Corrected l b found) f = (λ some. sym (f.own g) ∙ e, λ some. sym (f.own g) ∙ e)
  others_shown c h e same (ShippedOff o) f = λ l some. elim (of_item g l) as (λ b. of_item g l ≡ b → b ≡ false) [
    | true ↦ λ t.
        let line : has_line before o l.gtin ≡ false = ap (λ (x : List ℕ). has_line before o x) (sym (same_text_is g l.gtin t)) ∙ sym (f.own g) ∙ e in
        sym (ap (λ n. n == 0) (unknown_line_is_unstaged first before h o l line)) ∙ some
    | false ↦ λ t. refl
  ] refl
  others_shown c h e same Returned f = other_returned g (next_number before) old (orders before) _ (lots before) (none_lost g _ _ (lots before) same)

  others_posted : (c : Command) → IsHistory first before → verdict first before c ≡ None → touches first (done c) before c g ≡ false → AllOther g (posted first (done c) before old c)
  others_posted c h ok e =
      subst (AllOther g) (entry_posted first (done c) before old c)
      (each_of_entry (IsOther g) first (done c) before old (entry_of c) (others_shown c h e (ships_same c ok e) (entry_of c) (facts_of first key before c ok)))

  abbrev placed_by : NewOrder → Bool → Placed
  placed_by o urgent = record { order = o.order; act = next_number before; customer = o.customer; lines = o.lines; urgent = urgent }

  -- its demands and supplies are those of the same bookings and lots
  demands_after : (c : Command) → IsHistory first before → touches first (done c) before c g ≡ false → demands first (done c ∷ before) g ≡ map (demand_of before (item_postings first (done c ∷ before) g)) (bookings before g)
  demands_after (Order o) h e =
      λ i. map (demand_of before (item_postings first before g)) (reverse (flat_map (lines_of_item g) (filter is_urgent (orders before))) ++ reverse (map (booking_of (placed_by o false)) (no_line o.lines e i) ++ flat_map (lines_of_item g) (filter is_normal (orders before))))
  demands_after (Urgent o) h e =
      λ i. map (demand_of before (item_postings first before g)) (reverse (map (booking_of (placed_by o true)) (no_line o.lines e i) ++ flat_map (lines_of_item g) (filter is_urgent (orders before))) ++ reverse (flat_map (lines_of_item g) (filter is_normal (orders before))))
  demands_after (Cancel o) h e =
      let ps = item_postings first before g in
      let f = demand_of (done (Cancel o) ∷ before) ps in
      let k = demand_of before ps in
      let ones = flat_map (lines_of_item g) (filter is_urgent (orders before)) in
      let others = flat_map (lines_of_item g) (filter is_normal (orders before)) in
      let all = orders_found first before h in
      let same_ones = map_reversed f k ones (cancelled_same o e ps (filter is_urgent (orders before)) (found_kept same_order is_urgent (orders before) (orders before) all)) in
      let same_others = map_reversed f k others (cancelled_same o e ps (filter is_normal (orders before)) (found_kept same_order is_normal (orders before) (orders before) all)) in
      map_appended f (reverse ones) (reverse others) ∙ (λ i. same_ones i ++ same_others i) ∙ sym (map_appended k (reverse ones) (reverse others))
  demands_after c h e = refl

  supplies_after : (c : Command) → IsHistory first before → verdict first before c ≡ None → touches first (done c) before c g ≡ false
      → supplies first (done c ∷ before) g ≡ map (supply_of before (item_postings first (done c ∷ before) g)) (in_order goes_before (filter (is_shippable first before) (lots_of before g)))
  supplies_after (Bin b) h ok e =
      let known = known_of_item old (known_postings first before h) in
      let new = (bin_accepted first before b ok).new in
      let ps = item_postings first before g in
      λ i. map (λ k. record { lot = k.came; avail = store_in_same b new k.lot ps known i - store_out_same b new k.lot ps known i }) (in_order goes_before (filter (is_shippable first before) (lots_of before g)))
  supplies_after (Receive r) h ok e =
      λ i. map (supply_of before (item_postings first (done (Receive r) ∷ before) g)) (in_order goes_before (filter (is_shippable first before) (lots_received r e i)))
  supplies_after c h ok e =
      λ i. map (supply_of before (item_postings first (done c ∷ before) g)) (in_order goes_before (same_kept g _ _ (lots before) (ships_same c ok e) i))

  same_after : (c : Command) → IsHistory first before → verdict first before c ≡ None → touches first (done c) before c g ≡ false → IsSame c
  same_after c h ok e = same_by c (others_posted c h ok e) (demands_after c h e) (supplies_after c h ok e)

  plan_same : (c : Command) → IsSame c → plan first (done c ∷ before) g ≡ plan first before g
  plan_same c s = λ i. plan_rows (s.demands i) (s.supplies i)

  -- Reservations

  module _ (o : List ℕ) (l : LotId) (item : g ≡ l.gtin) where
    by_plan : (c : Command) → IsSame c → reserved first (done c ∷ before) o l ≡ reserved_of (order_named (done c ∷ before) o) (lot_known (done c ∷ before) l) (plan first before l.gtin)
    by_plan c s =
        let there : plan first (done c ∷ before) l.gtin ≡ plan first before l.gtin =
        ap (λ (x : List ℕ). plan first (done c ∷ before) x) (sym item) ∙ plan_same c s ∙ ap (λ (x : List ℕ). plan first before x) item in
        ap (reserved_of (order_named (done c ∷ before) o) (lot_known (done c ∷ before) l)) there

    known_same : (r : Receipt) → is_lot l r.lot ≡ false → lot_known (done (Receive r) ∷ before) l ≡ lot_known before l
    known_same r e =
        elim (is_some (lot_among r.lot (lots before))) as (λ b. lot_among l (if b then lots before else record { lot = r.lot; expiry = r.expiry; came = next_number before } ∷ lots before) ≡ lot_known before l) [
          | true ↦ refl
          | false ↦ ap (λ b. if b then Some (record { lot = r.lot; expiry = r.expiry; came = next_number before }) else lot_known before l) e
        ]

    -- a new order without the item has nothing of it
    new_order : (c : Command) (new : Placed) → order_named (done c ∷ before) o ≡ (if same_text o new.order then Some new else order_named before o) → lot_known (done c ∷ before) l ≡ lot_known before l
        → has_order before new.order ≡ false → list_any (λ x. same_text g x.gtin) new.lines ≡ false → IsSame c → reserved first (done c ∷ before) o l ≡ reserved first before o l
    new_order c new orders lot fresh e s =
        elim (same_text o new.order) as (λ b. same_text o new.order ≡ b → reserved first (done c ∷ before) o l ≡ reserved first before o l) [
          | true ↦ λ t.
              let named : order_named (done c ∷ before) o ≡ Some new = orders ∙ ap (λ b. if b then Some new else order_named before o) t in
              let none : filter (λ (x : OrderLine). same_text l.gtin x.gtin) new.lines ≡ [] = ap (λ (x : List ℕ). filter (λ (y : OrderLine). same_text x y.gtin) new.lines) (sym item) ∙ no_line new.lines e in
              let nothing : needs (done c ∷ before) (item_postings first (done c ∷ before) l.gtin) l.gtin new ≡ 0 =
              ap (λ (xs : List OrderLine). total (λ b. need (done c ∷ before) (item_postings first (done c ∷ before) l.gtin) b) (map (booking_of new) xs)) none in
              let unknown : is_some (order_named before o) ≡ false = ap (λ (x : List ℕ). is_some (order_named before x)) (same_text_is o new.order t) ∙ fresh in
              omega (arith, reserved_within_needs first (done c ∷ before) o l new named, nothing, unknown_is_unreserved first before o l (not_some (order_named before o) unknown))
          | false ↦ λ t. by_plan c s ∙ (λ i. reserved_of ((orders ∙ ap (λ b. if b then Some new else order_named before o) t) i) (lot i) (plan first before l.gtin))
        ] refl
      where
        not_some : (p : Option Placed) → is_some p ≡ false → p ≡ None
        not_some None f = refl
        not_some (Some p) f = let h : true ≡ false = f in cc

    reserved_after : (c : Command) → IsHistory first before → verdict first before c ≡ None → touches first (done c) before c g ≡ false → IsSame c → reserved first (done c ∷ before) o l ≡ reserved first before o l
    reserved_after (Receive r) h ok e s =
        by_plan (Receive r) s ∙ ap (λ k. reserved_of (order_named before o) k (plan first before l.gtin)) (known_same r (other_of r.lot l e (ap (same_text g) (sym item) ∙ same_text_refl g)))
    reserved_after (Order n) h ok e s = new_order (Order n) (placed_by n false) refl refl (order_is_new first before (Order n) ok) e s
    reserved_after (Urgent n) h ok e s = new_order (Urgent n) (placed_by n true) refl refl (order_is_new first before (Urgent n) ok) e s
    reserved_after c h ok e s = by_plan c s

pub other_items_are_left_alone : OtherItemsAreLeftAlone
other_items_are_left_alone first act before g h e =
    let s = same_after first act.key before g act.command h.0 h.1.passes e in
    record {
      postings = s.postings;
      plan = plan_same first act.key before g act.command s;
      reserved = λ o l of. reserved_after first act.key before g o l (same_text_is g l.gtin of) act.command h.0 h.1.passes e s;
    }
