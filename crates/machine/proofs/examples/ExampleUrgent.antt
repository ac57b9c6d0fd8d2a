-- Urgent orders.
use Rattle.std.specs.Fmt.{digits}
use Rattle.machine.proofs.Words.{◌≡◌, ℕ, List, [], ◌∷◌, codes, refl, Some, None, Ok, total, Urgent, OrderExists, Open, ShortLine, Act, short_of_order, staged_of_lot, order_shown, short_shown, reply, urgent_row, verdict, short_view}
use Rattle.commands.specs.declared.rows.OrderClass.TheVariants as class
use Rattle.machine.proofs.examples.ExampleHistories.{may_4, may_10, may_31, with_early_lot, with_picks, OATS, A1, S1, S2, L0, L2, keyed, order, oats_planned}

abbrev S3 : List ℕ
S3 = codes "S-3"

abbrev S4 : List ℕ
S4 = codes "S-4"

abbrev urgent : List ℕ → List ℕ → ℕ → Act
urgent key name qty = keyed key (Urgent (record { order = name; customer = codes "Mill Inn"; lines = record { gtin = OATS; qty = qty } ∷ [] }))

abbrev ten : Act
ten = urgent (codes "K-U") S3 10

abbrev twenty : Act
twenty = urgent (codes "K-V") S4 20

-- From the state with the early lot: two orders are there, and one unit is left for a third

abbrev after_one : List Act
after_one = ten ∷ with_early_lot

an_urgent_order_is_served_before_all_normal_ones : oats_planned after_one ≡ (11, 10, 5) ∷ (11, 7, 5) ∷ (8, 7, 5) ∷ (8, 6, 7) ∷ (9, 6, 3) ∷ []
an_urgent_order_is_served_before_all_normal_ones = refl

it_is_answered_as_an_order_is : reply may_4 ten with_early_lot ≡ codes "{\"act\":11,\"short\":0}"
unfolding digits
it_is_answered_as_an_order_is = refl

the_first_normal_order_is_still_served : short_of_order may_4 after_one S1 ≡ 0
the_first_normal_order_is_still_served = refl

and_the_last_is_short_of_nine : short_of_order may_4 after_one S2 ≡ 9
and_the_last_is_short_of_nine = refl

a_normal_order_would_have_gone_last : oats_planned (keyed (codes "K-U") (order S3 (codes "Mill Inn") 10) ∷ with_early_lot) ≡ (8, 10, 5) ∷ (8, 7, 7) ∷ (9, 7, 3) ∷ (9, 6, 9) ∷ (11, 6, 1) ∷ []
a_normal_order_would_have_gone_last = refl

-- A second one comes behind the first, and before the others

abbrev after_two : List Act
after_two = twenty ∷ after_one

urgent_orders_are_served_by_their_numbers : oats_planned after_two ≡ (11, 10, 5) ∷ (11, 7, 5) ∷ (12, 7, 5) ∷ (12, 6, 10) ∷ []
urgent_orders_are_served_by_their_numbers = refl

the_second_is_told_what_it_lacks : reply may_4 twenty after_one ≡ codes "{\"act\":12,\"short\":5}"
unfolding digits
the_second_is_told_what_it_lacks = refl

shortages_stand_in_the_order_of_service : short_shown may_4 after_two OATS
    ≡ Ok (record {
      item = record { gtin = OATS; name = codes "Oat drink" };
      lines =
          record { order = S4; qty = 5; customer = codes "Mill Inn" }
          ∷ record { order = S1; qty = 12; customer = codes "Corner Shop" }
          ∷ record { order = S2; qty = 12; customer = codes "Harbour Cafe" } ∷ [];
    })
shortages_stand_in_the_order_of_service = refl

they_are_twenty_nine : total (λ (s : ShortLine). s.qty) (short_view may_4 after_two (record { gtin = OATS; name = codes "Oat drink" })).lines ≡ 29
they_are_twenty_nine = refl

-- From the state with picks: what is staged stays

abbrev after_picks : List Act
after_picks = ten ∷ with_picks

it_is_not_short : reply may_4 ten with_picks ≡ codes "{\"act\":13,\"short\":0}"
unfolding digits
it_is_not_short = refl

the_early_lot_stays_staged : staged_of_lot may_4 after_picks S1 L0 ≡ 5
the_early_lot_stays_staged = refl

and_so_does_the_other : staged_of_lot may_4 after_picks S1 L2 ≡ 7
and_so_does_the_other = refl

it_is_served_from_free_and_reserved_units : oats_planned after_picks ≡ (13, 7, 3) ∷ (13, 6, 7) ∷ (9, 6, 3) ∷ []
it_is_served_from_free_and_reserved_units = refl

the_normal_order_is_short_of_nine : short_of_order may_4 after_picks S2 ≡ 9
the_normal_order_is_short_of_nine = refl

-- Its row, and how it is shown

an_urgent_order_has_a_row : urgent_row after_one S3 ≡ Some (record { order = S3; act = 11 })
an_urgent_order_has_a_row = refl

a_normal_order_has_none : urgent_row after_one S1 ≡ None
a_normal_order_has_none = refl

its_class_is_shown : order_shown may_4 after_one S3
    ≡ Ok (record {
      class = class.Urgent;
      customer = codes "Mill Inn";
      lines = record {
        gtin = OATS;
        ordered = 10;
        reserved =
            record { lot = codes "L0"; expiry = may_10; qty = 5; bins = record { bin = A1; qty = 5 } ∷ [] }
            ∷ record { lot = codes "L2"; expiry = may_31; qty = 5; bins = record { bin = A1; qty = 10 } ∷ [] } ∷ [];
        shipped = 0;
        short = 0;
        staged = [];
        least = 0;
      } ∷ [];
      order = S3;
      state = Open;
    })
its_class_is_shown = refl

-- Names are those of all orders

the_name_of_an_urgent_order_is_taken : verdict may_4 after_one (order S3 (codes "Corner Shop") 1) ≡ Some OrderExists
the_name_of_an_urgent_order_is_taken = refl

and_so_is_that_of_a_normal_one : verdict may_4 with_early_lot (Urgent (record { order = S1; customer = codes "Mill Inn"; lines = record { gtin = OATS; qty = 1 } ∷ [] })) ≡ Some OrderExists
and_so_is_that_of_a_normal_one = refl
