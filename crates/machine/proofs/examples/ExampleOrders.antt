-- Receipts, orders, counts and their plans.
use Rattle.std.specs.Fmt.{digits}
use Rattle.machine.proofs.Words.{◌≡◌, [], ◌∷◌, codes, refl, pos, negsuc, Some, None, Ok, Count, LotExpired, Normal, Open, Free, WrittenOff as WriteOff, Act, short_of_order, verdict, reply, tables_of, stock_shown, order_shown, short_shown, card_shown}
use Rattle.commands.specs.declared.rows.CardKind.TheVariants.{Receipt}
use Rattle.machine.proofs.examples.ExampleHistories.{may_4, may_10, may_31, june_30, july_31, warehouse, with_one_lot, with_stock, with_one_order, with_two_orders, with_early_lot, first_receipt, second_receipt, third_receipt, first_order, second_order, OATS, A1, S1, S2, L0, L1, L2, lot_of, keyed, delivered, receive, oats_planned}

-- the label's six digits 770101 are read as 1977-01-01
a_lot_that_has_expired_is_not_received : verdict may_4 warehouse (receive (lot_of OATS (codes "NEW")) (pos 2557) A1 8) ≡ Some LotExpired
a_lot_that_has_expired_is_not_received = refl

a_receipt_is_answered_by_its_number : reply may_4 first_receipt warehouse ≡ codes "{\"act\":6}"
unfolding digits
a_receipt_is_answered_by_its_number = refl

the_next_receipt_has_the_next_number : reply may_4 second_receipt with_one_lot ≡ codes "{\"act\":7}"
unfolding digits
the_next_receipt_has_the_next_number = refl

first_order_is_served_from_the_lot_that_expires_first : oats_planned with_one_order ≡ (8, 7, 10) ∷ (8, 6, 2) ∷ []
first_order_is_served_from_the_lot_that_expires_first = refl

first_order_is_served_in_full : reply may_4 first_order with_stock ≡ codes "{\"act\":8,\"short\":0}"
unfolding digits
first_order_is_served_in_full = refl

second_order_gets_what_is_left : oats_planned with_two_orders ≡ (8, 7, 10) ∷ (8, 6, 2) ∷ (9, 6, 8) ∷ []
second_order_gets_what_is_left = refl

second_order_is_told_what_it_lacks : reply may_4 second_order with_one_order ≡ codes "{\"act\":9,\"short\":4}"
unfolding digits
second_order_is_told_what_it_lacks = refl

shortages_name_the_second_order : short_shown may_4 with_two_orders OATS
    ≡ Ok (record { item = record { gtin = OATS; name = codes "Oat drink" }; lines = record { order = S2; qty = 4; customer = codes "Harbour Cafe" } ∷ [] })
shortages_name_the_second_order = refl

-- an early lot goes to the first order, and what that frees to the second

a_late_receipt_is_answered : reply may_4 third_receipt with_two_orders ≡ codes "{\"act\":10}"
unfolding digits
a_late_receipt_is_answered = refl

a_lot_that_expires_earlier_moves_the_plan : oats_planned with_early_lot ≡ (8, 10, 5) ∷ (8, 7, 7) ∷ (9, 7, 3) ∷ (9, 6, 9) ∷ []
a_lot_that_expires_earlier_moves_the_plan = refl

then_no_order_is_short : short_of_order may_4 with_early_lot S2 ≡ 0
then_no_order_is_short = refl

the_first_order_is_shown : order_shown may_4 with_early_lot S1
    ≡ Ok (record {
      class = Normal;
      customer = codes "Corner Shop";
      lines = record {
        gtin = OATS;
        ordered = 12;
        reserved =
            record { lot = codes "L0"; expiry = may_10; qty = 5; bins = record { bin = A1; qty = 5 } ∷ [] }
            ∷ record { lot = codes "L2"; expiry = may_31; qty = 7; bins = record { bin = A1; qty = 10 } ∷ [] } ∷ [];
        shipped = 0;
        short = 0;
        staged = [];
        least = 0;
      } ∷ [];
      order = S1;
      state = Open;
    })
the_first_order_is_shown = refl

the_stock_of_one_lot_is_shown : stock_shown may_4 with_one_lot OATS
    ≡ Ok (record {
      item = record { gtin = OATS; name = codes "Oat drink" };
      lots = record { bins = record { bin = A1; qty = 10 } ∷ []; expiry = june_30; lot = codes "L1"; reserved = 0; staged = 0; status = Free } ∷ [];
    })
the_stock_of_one_lot_is_shown = refl

-- lots of one expiry

abbrev pub of_the_same_expiry : Act
of_the_same_expiry = delivered (codes "D-3") 1 (receive (lot_of OATS (codes "K3")) may_31 A1 7)

lots_of_one_expiry_go_first_come_first : oats_planned (of_the_same_expiry ∷ with_early_lot) ≡ (8, 10, 5) ∷ (8, 7, 7) ∷ (9, 7, 3) ∷ (9, 11, 7) ∷ (9, 6, 2) ∷ []
lots_of_one_expiry_go_first_come_first = refl

abbrev pub of_a_late_expiry : Act
of_a_late_expiry = delivered (codes "D-3") 1 (receive (lot_of OATS (codes "L3")) july_31 A1 7)

a_lot_that_nobody_needs_changes_no_reservation : oats_planned (of_a_late_expiry ∷ with_early_lot) ≡ oats_planned with_early_lot
a_lot_that_nobody_needs_changes_no_reservation = refl

-- a count finds less

abbrev pub count : Act
count = keyed (codes "K-C") (Count (record { lot = L2; bin = A1; qty = 8 }))

a_count_is_answered_by_the_difference : reply may_4 count with_early_lot ≡ codes "{\"act\":11,\"change\":-2}"
unfolding digits
a_count_is_answered_by_the_difference = refl

what_is_missing_falls_on_the_second_order : oats_planned (count ∷ with_early_lot) ≡ (8, 10, 5) ∷ (8, 7, 7) ∷ (9, 7, 1) ∷ (9, 6, 10) ∷ []
what_is_missing_falls_on_the_second_order = refl

second_order_is_short_of_one : short_of_order may_4 (count ∷ with_early_lot) S2 ≡ 1
second_order_is_short_of_one = refl

the_card_ends_with_the_write_off : card_shown may_4 (count ∷ with_early_lot) L2
    ≡ Ok (record {
      item = record { gtin = OATS; name = codes "Oat drink" };
      lot = codes "L2";
      expiry = may_31;
      lines =
          record { lot = L2; act = 7; day = may_4; kind = Receipt; note = codes "D-1/2"; qty = pos 10; rest = 10 }
          ∷ record { lot = L2; act = 11; day = may_4; kind = WriteOff; note = A1; qty = negsuc 1; rest = 8 } ∷ [];
      in_house = 8;
    })
unfolding digits
the_card_ends_with_the_write_off = refl

-- the tables

the_acts_are_counted : (tables_of may_4 with_early_lot).meta ≡ Some (record { day = may_4; acts = 10; shipments = 0 })
unfolding tables_of
the_acts_are_counted = refl

a_reservation_is_a_row : (tables_of may_4 with_early_lot).reserved S1 L0 ≡ Some (record { order = S1; lot = L0; qty = 5 })
unfolding tables_of
a_reservation_is_a_row = refl

no_row_stands_for_nothing : (tables_of may_4 with_early_lot).reserved S1 L1 ≡ None
unfolding tables_of
no_row_stands_for_nothing = refl
