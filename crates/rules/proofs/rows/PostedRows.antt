-- Rows that an act leaves as they were whose postings reach no shipment, and which makes nothing known.
use Rattle.rules.proofs.Words.{◌≡◌, ℕ, ◌+◌, ◌-◌, Bool, true, false, ◌&&◌, List, [], ◌∷◌, ◌++◌, refl, ap, sym, ◌∙◌, arith, ◌==◌, if◌then◌else◌, ℤ, pos, Some, find, filter, option_map, flat_map, ◌+ℤ◌, list_all, list_any, same_text, LotId, NewItem, NewBin, OrderLine, ShipmentRow, Open, Done, Cancelled, CardRow, LotRow, Act, gathered, Place, Supplier, InBin, Stage, Shipped, WriteOff, Posting, balance, units_in, is_lot, is_shipped_to, is_shipment, of_item, items, lots, hold_in, recall_in, orders, cancel_in, least_in, days_asked, least_days, least_expiry, says_held, KnownLot, Recalling, Placed, lines_placed, today, shipments, lines_of, has_line, posting, postings, postings_of, shipped_of, is_open, is_open_state, order_state, cards, card_lines, if_any, item_row, least_row, bin_row, lot_row, recall_row, order_row, urgent_row, line_row, shipment_row, shipline_row, card_row, no_two, changed, unless_put}
use Rattle.machine.specs.Postings.{units_out}
use Rattle.machine.specs.Standing.{bins}
use Rattle.rules.proofs.rows.ClassesTold.{same_urgents}

abbrev pub Each : (Posting → Type 0) → List Posting → Type 0
Each f [] = Unit {0}
Each f (p ∷ ps) = f p × Each f ps

pub each_once : (f : Posting → Type 0) (n : ℕ) (l : LotId) (from to : Place) (q : ℕ) → f (record { act = n; lot = l; from = from; to = to; qty = q }) → Each f (posting n l from to q)
each_once f n l from to q h = elim (q == 0) as (λ t. Each f (if t then [] else record { act = n; lot = l; from = from; to = to; qty = q } ∷ [])) [ true ↦ tt | false ↦ (h, tt) ]

-- no shipment
abbrev pub is_home : Place → Bool
is_home (Shipped n o) = false
is_home _ = true

abbrev pub StaysHome : Posting → Type 0
StaysHome p = (is_home p.from ≡ true) × (is_home p.to ≡ true)

no_shipment : (n : ℕ) (p : Place) → is_home p ≡ true → is_shipment n p ≡ false
no_shipment n (Shipped m o) e = let f : false ≡ true = e in cc
no_shipment n Supplier e = refl
no_shipment n (InBin b) e = refl
no_shipment n (Stage o) e = refl
no_shipment n WriteOff e = refl

no_order : (o : List ℕ) (p : Place) → is_home p ≡ true → is_shipped_to o p ≡ false
no_order o (Shipped m q) e = let f : false ≡ true = e in cc
no_order o Supplier e = refl
no_order o (InBin b) e = refl
no_order o (Stage q) e = refl
no_order o WriteOff e = refl

abbrev Apart : (Place → Bool) → Posting → Type 0
Apart places p = (places p.from ≡ false) × (places p.to ≡ false)

not_there : (places : Place → Bool) → ((p : Place) → is_home p ≡ true → places p ≡ false) → (ps : List Posting) → Each StaysHome ps → Each (Apart places) ps
not_there places h [] home = tt
not_there places h (p ∷ ps) home = ((h p.from home.0.0, h p.to home.0.1), not_there places h ps home.1)

none_there : (a b : Bool) (q n : ℕ) → a ≡ false → (if a && b then q else 0) + n ≡ n
none_there true b q n e = let f : true ≡ false = e in cc
none_there false b q n e = omega arith

elsewhere : (places : Place → Bool) (test : LotId → Bool) (ps old : List Posting) → Each (Apart places) ps → balance places test (ps ++ old) ≡ balance places test old
elsewhere places test [] old h = refl
elsewhere places test (p ∷ ps) old h =
    (λ i. none_there (places p.to) (test p.lot) p.qty (units_in places test (ps ++ old)) h.0.1 i - none_there (places p.from) (test p.lot) p.qty (units_out places test (ps ++ old)) h.0.0 i)
    ∙ elsewhere places test ps old h.1

elsewhere_of : (g : List ℕ) (places : Place → Bool) (test : LotId → Bool) (ps old : List Posting) → Each (Apart places) ps
    → balance places test (filter (λ p. of_item g p.lot) (ps ++ old)) ≡ balance places test (filter (λ p. of_item g p.lot) old)
elsewhere_of g places test [] old h = refl
elsewhere_of g places test (p ∷ ps) old h =
    elim (of_item g p.lot) as (λ b. balance places test (if b then p ∷ filter (λ p. of_item g p.lot) (ps ++ old) else filter (λ p. of_item g p.lot) (ps ++ old)) ≡ balance places test (filter (λ p. of_item g p.lot) (ps ++ old))) [
      | true ↦ (λ i. none_there (places p.to) (test p.lot) p.qty (units_in places test (filter (λ p. of_item g p.lot) (ps ++ old))) h.0.1 i - none_there (places p.from) (test p.lot) p.qty (units_out places test (filter (λ p. of_item g p.lot) (ps ++ old))) h.0.0 i)
      | false ↦ refl
    ]
    ∙ elsewhere_of g places test ps old h.1

-- the act makes nothing known but of lots: no item, bin, recall, order, shipment, day or days that an item asks for
pub record MakesNothingKnown (first : ℤ) (act : Act) (acts : List Act) : Type 0 where
  pub items : items (act ∷ acts) ≡ items acts
  pub bins : bins (act ∷ acts) ≡ bins acts
  pub recalls : gathered recall_in (act ∷ acts) ≡ gathered recall_in acts
  pub orders : orders (act ∷ acts) ≡ orders acts
  pub cancels : gathered cancel_in (act ∷ acts) ≡ gathered cancel_in acts
  pub shipments : shipments first (act ∷ acts) ≡ shipments first acts
  pub day : today first (act ∷ acts) ≡ today first acts
  pub asked : gathered least_in (act ∷ acts) ≡ gathered least_in acts

-- the rows of lots that the act puts are those that it changes
pub record PutsLots (acts : List Act) (act : Act) (put : List LotRow) : Type 0 where
  pub lots : (m : LotId) → changed (λ (k : LotRow). is_lot m k.lot) put [] (lot_row acts m) ≡ lot_row (act ∷ acts) m
  pub once : no_two (λ (a b : LotRow). is_lot a.lot b.lot) put ≡ true

pub puts_none : (acts : List Act) (act : Act) → lots (act ∷ acts) ≡ lots acts → gathered hold_in (act ∷ acts) ≡ gathered hold_in acts → PutsLots acts act []
puts_none acts act known holds = record {
  lots = λ m i. option_map (λ (k : KnownLot). record {
    lot = k.lot;
    expiry = k.expiry;
    came = k.came;
    held = says_held (find (λ w. is_lot k.lot w.lot) (sym holds i));
  }) (find (λ k. is_lot m k.lot) (sym known i));
  once = refl;
}

found_either : {X : Type 0} (test : X → Bool) (news olds : List X) → changed test news [] (find test olds) ≡ find test (news ++ olds)
found_either test [] olds = refl
found_either test (x ∷ xs) olds = elim (test x) as (λ t. unless_put (if t then Some x else find test xs) false (find test olds) ≡ (if t then Some x else find test (xs ++ olds))) [ true ↦ refl | false ↦ found_either test xs olds ]

module _ (first : ℤ) (acts : List Act) (act : Act) (known : MakesNothingKnown first act acts) (home : Each StaysHome (postings_of first act acts)) where
  abbrev after : List Act
  after = act ∷ acts

  shipped_same : (o g : List ℕ) → shipped_of first acts o g ≡ shipped_of first after o g
  shipped_same o g = sym (elsewhere_of g (is_shipped_to o) (of_item g) (postings_of first act acts) (postings first acts) (not_there (is_shipped_to o) (λ p e. no_order o p e) (postings_of first act acts) home))

  pub item_at : (g : List ℕ) → item_row acts g ≡ item_row after g
  item_at g = λ i. option_map (λ (x : NewItem). record { gtin = x.gtin; name = x.name }) (find (λ x. same_text g x.gtin) (sym known.items i))

  days_of : (g : List ℕ) → least_days acts g ≡ least_days after g
  days_of g = λ i. days_asked (find (λ x. same_text g x.gtin) (sym known.asked i))

  pub earliest_at : (g : List ℕ) → least_expiry first acts g ≡ least_expiry first after g
  earliest_at g = λ i. sym known.day i +ℤ pos (days_of g i)

  pub least_at : (g : List ℕ) → least_row acts g ≡ least_row after g
  least_at g = λ i. option_map (λ (x : NewItem). record { gtin = x.gtin; days = days_of x.gtin i }) (find (λ x. same_text g x.gtin) (sym known.items i))

  pub bin_at : (c : List ℕ) → bin_row acts c ≡ bin_row after c
  bin_at c = λ i. option_map (λ (x : NewBin). record { name = x.bin; kind = x.kind }) (find (λ x. same_text c x.bin) (sym known.bins i))

  pub recall_at : (m : LotId) → recall_row acts m ≡ recall_row after m
  recall_at m = λ i. option_map (λ (r : Recalling). record { lot = r.lot; act = r.act }) (find (λ r. is_lot m r.lot) (sym known.recalls i))

  lines_same : (o : List ℕ) → lines_of acts o ≡ lines_of after o
  lines_same o = λ i. lines_placed (find (λ p. same_text o p.order) (sym known.orders i))

  pub line_known : (o g : List ℕ) → has_line acts o g ≡ has_line after o g
  line_known o g = ap (λ (ls : List OrderLine). list_any (λ m. same_text g m.gtin) ls) (lines_same o)

  state_same : (o : List ℕ) → order_state first acts o ≡ order_state first after o
  state_same o = λ i. if list_any (same_text o) (sym known.cancels i) then Cancelled else (if list_all (λ m. shipped_same o m.gtin i == m.qty) (lines_same o i) then Done else Open)

  pub open_at : (o : List ℕ) → is_open first acts o ≡ is_open first after o
  open_at o = ap is_open_state (state_same o)

  pub order_at : (o : List ℕ) → order_row first acts o ≡ order_row first after o
  order_at o = λ i. option_map (λ (p : Placed). record { order = p.order; act = p.act; customer = p.customer; state = state_same p.order i }) (find (λ p. same_text o p.order) (sym known.orders i))

  pub urgent_at : (o : List ℕ) → urgent_row acts o ≡ urgent_row after o
  urgent_at = same_urgents acts after (sym known.orders)

  pub line_at : (o g : List ℕ) → line_row first acts o g ≡ line_row first after o g
  line_at o g = λ i. option_map (λ (m : OrderLine). record { order = o; gtin = g; ordered = m.qty; shipped = shipped_same o g i }) (find (λ m. same_text g m.gtin) (lines_same o i))

  pub shipment_at : (k : ℕ) → shipment_row first acts k ≡ shipment_row first after k
  shipment_at k = ap (λ (xs : List ShipmentRow). find (λ x. k == x.number) xs) (sym known.shipments)

  pub shipline_at : (k : ℕ) (m : LotId) → shipline_row first acts k m ≡ shipline_row first after k m
  shipline_at k m = ap (λ q. if_any q (record { number = k; lot = m; qty = q })) (sym (elsewhere (is_shipment k) (is_lot m) (postings_of first act acts) (postings first acts) (not_there (is_shipment k) (λ p e. no_shipment k p e) (postings_of first act acts) home)))

  -- with the card lines of its postings
  pub card_at : (news : List CardRow) → flat_map (λ p. card_lines first act acts p p.from p.to) (postings_of first act acts) ≡ news
      → (m : LotId) (k : ℕ) → changed (λ (c : CardRow). is_lot m c.lot && (k == c.act)) news [] (card_row first acts m k) ≡ card_row first after m k
  card_at news e m k = found_either (λ (c : CardRow). is_lot m c.lot && (k == c.act)) news (cards first acts) ∙ ap (λ (xs : List CardRow). find (λ (c : CardRow). is_lot m c.lot && (k == c.act)) (xs ++ cards first acts)) (sym e)
