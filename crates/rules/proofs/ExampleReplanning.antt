-- Items planned anew by the rows of a slice, in which no reserved rows are.
use Rattle.std.specs.Fmt.{digits}
use Rattle.rules.proofs.Words.{◌≡◌, ℕ, ℤ, false, List, [], ◌∷◌, codes, refl, LotId, Store, NewOrder, Line, Open, receive_changes, cancel_changes, order_changes, urgent_changes, hold_changes, least_changes, Slice, Change, may_4, may_10, may_31, june_30, july_31, OATS, A1, S1, S2, L0, L1, L2, lot_of}

-- The first order has 10 units of L2, which expires first, and 2 of L1; the second has 8 of L1, and is short of 4.
abbrev two_orders : Slice
two_orders = record {
  meta = record { day = may_4; acts = 9; shipments = 0 };
  items = 2;
  bins = 4;
  rows = record {
    items = record { gtin = OATS; name = codes "Oat drink" } ∷ [];
    bins = record { name = A1; kind = Store } ∷ [];
    lots = record { lot = L1; expiry = june_30; came = 6; held = false } ∷ record { lot = L2; expiry = may_31; came = 7; held = false } ∷ [];
    recalls = [];
    stock = record { lot = L1; bin = A1; qty = 10 } ∷ record { lot = L2; bin = A1; qty = 10 } ∷ [];
    orders = record { order = S1; act = 8; customer = codes "Corner Shop"; state = Open } ∷ record { order = S2; act = 9; customer = codes "Harbour Cafe"; state = Open } ∷ [];
    lines = record { order = S1; gtin = OATS; ordered = 12; shipped = 0 } ∷ record { order = S2; gtin = OATS; ordered = 12; shipped = 0 } ∷ [];
    staged = [];
    reserved = [];
    least = record { gtin = OATS; days = 0 } ∷ [];
    urgents = [];
  };
}

abbrev received : LotId → ℤ → Change
received lot expiry = receive_changes two_orders (Line (codes "D-2") 1) (record { lot = lot; expiry = expiry; bin = A1; qty = 5 })

-- a lot that expires first is used first, and all that is behind it moves
an_early_lot_moves_both_orders :
    (received L0 may_10).put.reserved
    ≡ record { order = S1; lot = L0; qty = 5 } ∷ record { order = S1; lot = L2; qty = 7 } ∷ record { order = S2; lot = L2; qty = 3 } ∷ record { order = S2; lot = L1; qty = 9 } ∷ []
an_early_lot_moves_both_orders = refl

an_early_lot_frees_the_last_one : (received L0 may_10).dropped.reserved ≡ record { order = S1; lot = L1; qty = 2 } ∷ []
an_early_lot_frees_the_last_one = refl

-- one that expires last serves what is short, and no other row changes
abbrev L3 : LotId
L3 = lot_of OATS (codes "L3")

a_late_lot_serves_what_is_short : (received L3 july_31).put.reserved ≡ record { order = S2; lot = L3; qty = 4 } ∷ []
a_late_lot_serves_what_is_short = refl

a_late_lot_drops_nothing : (received L3 july_31).dropped.reserved ≡ []
a_late_lot_drops_nothing = refl

-- the later order gives way to the earlier one
a_hold_moves_the_first_order : (hold_changes two_orders L2).put.reserved ≡ record { order = S1; lot = L1; qty = 10 } ∷ []
a_hold_moves_the_first_order = refl

a_hold_takes_from_the_second : (hold_changes two_orders L2).dropped.reserved ≡ record { order = S1; lot = L2; qty = 10 } ∷ record { order = S2; lot = L1; qty = 8 } ∷ []
a_hold_takes_from_the_second = refl

-- 27 days are left of L2: where its item asks for more, the orders are served as if it were held
abbrev asked : ℕ → Change
asked days = least_changes two_orders (record { gtin = OATS; days = days })

days_that_are_left_move_nothing : (asked 27).put.reserved ≡ []
days_that_are_left_move_nothing = refl

a_day_more_moves_the_first_order : (asked 28).put.reserved ≡ record { order = S1; lot = L1; qty = 10 } ∷ []
a_day_more_moves_the_first_order = refl

a_day_more_takes_from_the_second : (asked 28).dropped.reserved ≡ record { order = S1; lot = L2; qty = 10 } ∷ record { order = S2; lot = L1; qty = 8 } ∷ []
a_day_more_takes_from_the_second = refl

-- the first order keeps its rows where the second is cancelled, and takes no more than it wants
a_cancel_frees_its_own_row : (cancel_changes two_orders S2).dropped.reserved ≡ record { order = S2; lot = L1; qty = 8 } ∷ []
a_cancel_frees_its_own_row = refl

a_cancel_moves_no_earlier_order : (cancel_changes two_orders S2).put.reserved ≡ []
a_cancel_moves_no_earlier_order = refl

-- where the first is cancelled, the second is served in full
a_cancel_serves_the_later_order : (cancel_changes two_orders S1).put.reserved ≡ record { order = S2; lot = L2; qty = 10 } ∷ record { order = S2; lot = L1; qty = 2 } ∷ []
a_cancel_serves_the_later_order = refl

a_cancel_drops_its_own_rows : (cancel_changes two_orders S1).dropped.reserved ≡ record { order = S1; lot = L2; qty = 10 } ∷ record { order = S1; lot = L1; qty = 2 } ∷ []
a_cancel_drops_its_own_rows = refl

-- Five units of a lot that expires first have come in: the first order has these and 7 of L2, the second 3 of L2 and 9 of L1.
abbrev with_early_lot : Slice
with_early_lot = record two_orders {
  meta = record { day = may_4; acts = 10; shipments = 0 };
  rows = record two_orders.rows {
    lots = record { lot = L0; expiry = may_10; came = 10; held = false } ∷ two_orders.rows.lots;
    stock = record { lot = L0; bin = A1; qty = 5 } ∷ two_orders.rows.stock;
  };
}

abbrev S3 : List ℕ
S3 = codes "S-3"

abbrev S4 : List ℕ
S4 = codes "S-4"

abbrev ordered : List ℕ → ℕ → NewOrder
ordered name qty = record { order = name; customer = codes "Mill Inn"; lines = record { gtin = OATS; qty = qty } ∷ [] }

-- an urgent order takes what it needs from the front, and the others move behind it
an_urgent_order_is_served_first :
    (urgent_changes with_early_lot (ordered S3 10)).put.reserved
    ≡ record { order = S3; lot = L0; qty = 5 } ∷ record { order = S3; lot = L2; qty = 5 } ∷ record { order = S1; lot = L2; qty = 5 } ∷ record { order = S1; lot = L1; qty = 7 } ∷ record { order = S2; lot = L1; qty = 3 } ∷ []
an_urgent_order_is_served_first = refl

an_urgent_order_takes_from_the_others : (urgent_changes with_early_lot (ordered S3 10)).dropped.reserved ≡ record { order = S1; lot = L0; qty = 5 } ∷ record { order = S2; lot = L2; qty = 3 } ∷ []
an_urgent_order_takes_from_the_others = refl

an_urgent_order_is_not_short : (urgent_changes with_early_lot (ordered S3 10)).text ≡ codes "{\"act\":11,\"short\":0}"
unfolding digits
an_urgent_order_is_not_short = refl

abbrev after_an_urgent_order : Slice
after_an_urgent_order = record with_early_lot {
  meta = record { day = may_4; acts = 11; shipments = 0 };
  rows = record with_early_lot.rows {
    orders = record { order = S3; act = 11; customer = codes "Mill Inn"; state = Open } ∷ with_early_lot.rows.orders;
    lines = record { order = S3; gtin = OATS; ordered = 10; shipped = 0 } ∷ with_early_lot.rows.lines;
    urgents = record { order = S3; act = 11 } ∷ [];
  };
}

-- a second one is served behind the first, and leaves nothing to the others
a_second_urgent_order_keeps_to_the_first : (urgent_changes after_an_urgent_order (ordered S4 20)).put.reserved ≡ record { order = S4; lot = L2; qty = 5 } ∷ record { order = S4; lot = L1; qty = 10 } ∷ []
a_second_urgent_order_keeps_to_the_first = refl

a_second_urgent_order_takes_all_that_is_left :
    (urgent_changes after_an_urgent_order (ordered S4 20)).dropped.reserved ≡ record { order = S1; lot = L2; qty = 5 } ∷ record { order = S1; lot = L1; qty = 7 } ∷ record { order = S2; lot = L1; qty = 3 } ∷ []
a_second_urgent_order_takes_all_that_is_left = refl

a_second_urgent_order_is_short : (urgent_changes after_an_urgent_order (ordered S4 20)).text ≡ codes "{\"act\":12,\"short\":5}"
unfolding digits
a_second_urgent_order_is_short = refl

-- an order that is not urgent is served behind all of them
an_order_is_served_last : (order_changes after_an_urgent_order (ordered S4 20)).put.reserved ≡ []
an_order_is_served_last = refl
