-- The histories of the worked examples: two items, three bins, two customers.
-- The first order is act 8 and the second act 9; lot L1 came by act 6, L2 by act 7 and L0 by act 10.
use Rattle.std.specs.Fmt.{digits}
use Rattle.machine.proofs.Words.{◌≡◌, ℕ, List, [], ◌∷◌, codes, refl, ℤ, pos, None, IsTrue, day_text, date_of, date_after, date_in_year, LotId, is_sound, is_sound_key, Plain, Line, Store, HoldBin, Command, Item, Bin, Receive, Move, Order, Pick, Row, Act, plan, IsHistory, bearer, is_key_of, verdict}

-- Days of 2026

abbrev pub may_4 : ℤ
may_4 = pos 20577

abbrev pub may_10 : ℤ
may_10 = pos 20583

abbrev pub may_31 : ℤ
may_31 = pos 20604

abbrev pub june_1 : ℤ
june_1 = pos 20605

abbrev pub june_30 : ℤ
june_30 = pos 20634

abbrev pub july_31 : ℤ
july_31 = pos 20665

abbrev pub december_31 : ℤ
december_31 = pos 20818

may_4_is_written : day_text may_4 ≡ codes "2026-05-04"
unfolding date_of date_after date_in_year
may_4_is_written = refl

may_10_is_written : day_text may_10 ≡ codes "2026-05-10"
unfolding date_of date_after date_in_year
may_10_is_written = refl

may_31_is_written : day_text may_31 ≡ codes "2026-05-31"
unfolding date_of date_after date_in_year
may_31_is_written = refl

june_1_is_written : day_text june_1 ≡ codes "2026-06-01"
unfolding date_of date_after date_in_year
june_1_is_written = refl

june_30_is_written : day_text june_30 ≡ codes "2026-06-30"
unfolding date_of date_after date_in_year
june_30_is_written = refl

july_31_is_written : day_text july_31 ≡ codes "2026-07-31"
unfolding date_of date_after date_in_year
july_31_is_written = refl

december_31_is_written : day_text december_31 ≡ codes "2026-12-31"
unfolding date_of date_after date_in_year
december_31_is_written = refl

-- Names

abbrev pub OATS : List ℕ
OATS = codes "09506000134352"

abbrev pub RYE : List ℕ
RYE = codes "04012345000016"

abbrev pub A1 : List ℕ
A1 = codes "A-01"

abbrev pub A2 : List ℕ
A2 = codes "A-02"

abbrev pub Q1 : List ℕ
Q1 = codes "Q-01"

abbrev pub S1 : List ℕ
S1 = codes "S-1"

abbrev pub S2 : List ℕ
S2 = codes "S-2"

abbrev pub lot_of : List ℕ → List ℕ → LotId
lot_of gtin lot = record { gtin = gtin; lot = lot }

abbrev pub L0 : LotId
L0 = lot_of OATS (codes "L0")

abbrev pub L1 : LotId
L1 = lot_of OATS (codes "L1")

abbrev pub L2 : LotId
L2 = lot_of OATS (codes "L2")

-- Requests

abbrev pub keyed : List ℕ → Command → Act
keyed key command = record { key = Plain key; command = command }

abbrev pub delivered : List ℕ → ℕ → Command → Act
delivered delivery line command = record { key = Line delivery line; command = command }

abbrev pub receive : LotId → ℤ → List ℕ → ℕ → Command
receive lot expiry bin qty = Receive (record { lot = lot; expiry = expiry; bin = bin; qty = qty })

abbrev pub move : LotId → List ℕ → List ℕ → ℕ → Command
move lot from to qty = Move (record { lot = lot; from = from; to = to; qty = qty })

abbrev pub order : List ℕ → List ℕ → ℕ → Command
order name customer qty = Order (record { order = name; customer = customer; lines = record { gtin = OATS; qty = qty } ∷ [] })

abbrev pub pick : List ℕ → LotId → List ℕ → ℕ → Command
pick name lot bin qty = Pick (record { order = name; lot = lot; bin = bin; qty = qty })

-- Histories

-- two items, two STORE bins and a HOLD bin
abbrev pub warehouse : List Act
warehouse =
    keyed (codes "K-5") (Bin (record { bin = Q1; kind = HoldBin }))
    ∷ keyed (codes "K-4") (Bin (record { bin = A2; kind = Store }))
    ∷ keyed (codes "K-3") (Bin (record { bin = A1; kind = Store }))
    ∷ keyed (codes "K-2") (Item (record { gtin = RYE; name = codes "Rye bread" }))
    ∷ keyed (codes "K-1") (Item (record { gtin = OATS; name = codes "Oat drink" })) ∷ []

abbrev pub first_receipt : Act
first_receipt = delivered (codes "D-1") 1 (receive L1 june_30 A1 10)

abbrev pub second_receipt : Act
second_receipt = delivered (codes "D-1") 2 (receive L2 may_31 A1 10)

abbrev pub third_receipt : Act
third_receipt = delivered (codes "D-2") 1 (receive L0 may_10 A1 5)

abbrev pub first_order : Act
first_order = keyed (codes "K-8") (order S1 (codes "Corner Shop") 12)

abbrev pub second_order : Act
second_order = keyed (codes "K-9") (order S2 (codes "Harbour Cafe") 12)

abbrev pub with_one_lot : List Act
with_one_lot = first_receipt ∷ warehouse

abbrev pub with_stock : List Act
with_stock = second_receipt ∷ with_one_lot

abbrev pub with_one_order : List Act
with_one_order = first_order ∷ with_stock

abbrev pub with_two_orders : List Act
with_two_orders = second_order ∷ with_one_order

abbrev pub with_early_lot : List Act
with_early_lot = third_receipt ∷ with_two_orders

abbrev pub first_pick : Act
first_pick = keyed (codes "K-11") (pick S1 L0 A1 5)

abbrev pub second_pick : Act
second_pick = keyed (codes "K-12") (pick S1 L2 A1 7)

abbrev pub with_picks : List Act
with_picks = second_pick ∷ first_pick ∷ with_early_lot

-- They are histories

after : (first : ℤ) (act : Act) (before : List Act) → IsHistory first before → verdict first before act.command ≡ None → bearer act.key before ≡ None
    → IsTrue (is_key_of act.key act.command) → IsTrue (is_sound_key act.key) → IsTrue (is_sound act.command) → IsHistory first (act ∷ before)
after first act before history passes fresh kind key command =
    (history, record { passes = passes; fresh = fresh; sound = record { kind = kind; key = key; command = command } })

pub warehouse_is_a_history : IsHistory may_4 warehouse
warehouse_is_a_history =
    after may_4 _ _ (after may_4 _ _ (after may_4 _ _ (after may_4 _ _ (after may_4 _ _ refl refl refl refl refl refl) refl refl refl refl refl) refl refl refl refl refl) refl refl refl refl refl) refl refl refl refl refl

pub with_stock_is_a_history : IsHistory may_4 with_stock
unfolding digits
with_stock_is_a_history = after may_4 second_receipt with_one_lot (after may_4 first_receipt warehouse warehouse_is_a_history refl refl refl refl refl) refl refl refl refl refl

pub with_two_orders_is_a_history : IsHistory may_4 with_two_orders
unfolding digits
with_two_orders_is_a_history = after may_4 second_order with_one_order (after may_4 first_order with_stock with_stock_is_a_history refl refl refl refl refl) refl refl refl refl refl

pub with_early_lot_is_a_history : IsHistory may_4 with_early_lot
unfolding digits
with_early_lot_is_a_history = after may_4 third_receipt with_two_orders with_two_orders_is_a_history refl refl refl refl refl

pub with_picks_is_a_history : IsHistory may_4 with_picks
unfolding digits
with_picks_is_a_history = after may_4 second_pick (first_pick ∷ with_early_lot) (after may_4 first_pick with_early_lot with_early_lot_is_a_history refl refl refl refl refl) refl refl refl refl refl

-- The plan of the oat drink, as (order's act, lot's first receipt, units)

abbrev as_numbers : List Row → List (ℕ × ℕ × ℕ)
as_numbers [] = []
as_numbers (r ∷ rs) = (r.booking, r.lot, r.qty) ∷ as_numbers rs

abbrev pub oats_planned : List Act → List (ℕ × ℕ × ℕ)
oats_planned acts = as_numbers (plan may_4 acts OATS)
