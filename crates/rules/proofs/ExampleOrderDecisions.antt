-- Orders decided by the rows of a slice.
use Rattle.std.specs.Fmt.{digits}
use Rattle.rules.proofs.Words.{◌≡◌, ℕ, false, List, [], ◌∷◌, codes, refl, Some, None, Store, NewOrder, UnknownItem, OrderExists, ItemTwice, OverOrdered, Open, first_refusal, order_seen, order_changes, open_units_seen, Slice, may_4, may_31, june_30, OATS, RYE, A1, S1, S2, L1, L2}

abbrev before_orders : Slice
before_orders = record {
  meta = record { day = may_4; acts = 7; shipments = 0 };
  items = 2;
  bins = 4;
  rows = record {
    items = record { gtin = OATS; name = codes "Oat drink" } ∷ [];
    bins = record { name = A1; kind = Store } ∷ [];
    lots = record { lot = L1; expiry = june_30; came = 6; held = false } ∷ record { lot = L2; expiry = may_31; came = 7; held = false } ∷ [];
    recalls = [];
    stock = record { lot = L1; bin = A1; qty = 10 } ∷ record { lot = L2; bin = A1; qty = 10 } ∷ [];
    orders = [];
    lines = [];
    staged = [];
    reserved = [];
    least = record { gtin = OATS; days = 0 } ∷ [];
    urgents = [];
  };
}

abbrev ordered : List ℕ → ℕ → NewOrder
ordered name qty = record { order = name; customer = codes "Corner Shop"; lines = record { gtin = OATS; qty = qty } ∷ [] }

the_first_order_is_accepted : first_refusal (order_seen before_orders (ordered S1 12)) ≡ None
the_first_order_is_accepted = refl

the_first_order_is_served : (order_changes before_orders (ordered S1 12)).text ≡ codes "{\"act\":8,\"short\":0}"
unfolding digits
the_first_order_is_served = refl

the_first_order_takes_the_lot_that_expires_first : (order_changes before_orders (ordered S1 12)).put.reserved ≡ record { order = S1; lot = L2; qty = 10 } ∷ record { order = S1; lot = L1; qty = 2 } ∷ []
the_first_order_takes_the_lot_that_expires_first = refl

abbrev after_an_order : Slice
after_an_order = record before_orders {
  meta = record { day = may_4; acts = 8; shipments = 0 };
  rows = record before_orders.rows {
    orders = record { order = S1; act = 8; customer = codes "Corner Shop"; state = Open } ∷ [];
    lines = record { order = S1; gtin = OATS; ordered = 12; shipped = 0 } ∷ [];
    reserved = record { order = S1; lot = L1; qty = 2 } ∷ record { order = S1; lot = L2; qty = 10 } ∷ [];
  };
}

open_units_are_counted : open_units_seen after_an_order OATS ≡ 12
open_units_are_counted = refl

the_second_order_is_short : (order_changes after_an_order (ordered S2 12)).text ≡ codes "{\"act\":9,\"short\":4}"
unfolding digits
the_second_order_is_short = refl

the_second_order_takes_what_is_left : (order_changes after_an_order (ordered S2 12)).put.reserved ≡ record { order = S2; lot = L1; qty = 8 } ∷ []
the_second_order_takes_what_is_left = refl

nothing_is_dropped : (order_changes after_an_order (ordered S2 12)).dropped.reserved ≡ []
nothing_is_dropped = refl

an_order_stands_once : first_refusal (order_seen after_an_order (ordered S1 12)) ≡ Some OrderExists
an_order_stands_once = refl

an_order_is_of_known_items : first_refusal (order_seen before_orders (record { order = S1; customer = codes "Corner Shop"; lines = record { gtin = OATS; qty = 1 } ∷ record { gtin = RYE; qty = 1 } ∷ [] })) ≡ Some UnknownItem
an_order_is_of_known_items = refl

an_item_is_ordered_once : first_refusal (order_seen before_orders (record { order = S1; customer = codes "Corner Shop"; lines = record { gtin = OATS; qty = 1 } ∷ record { gtin = OATS; qty = 1 } ∷ [] })) ≡ Some ItemTwice
an_item_is_ordered_once = refl

no_more_is_ordered_than_the_limit : first_refusal (order_seen after_an_order (ordered S2 9_999_999_989)) ≡ Some OverOrdered
no_more_is_ordered_than_the_limit = refl

up_to_the_limit_is_ordered : first_refusal (order_seen after_an_order (ordered S2 9_999_999_988)) ≡ None
up_to_the_limit_is_ordered = refl
