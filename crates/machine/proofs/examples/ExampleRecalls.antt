-- Holds, recalls, notices and days.
use Rattle.std.specs.Fmt.{digits}
use Rattle.machine.proofs.Words.{◌≡◌, true, false, List, [], ◌∷◌, map, codes, refl, pos, negsuc, Some, None, Ok, Err, LotId, Ship, Hold, Release, Recall, OpenDay, LotRecalled, DayNotLater, NoNotice, Open, Shipment, Act, Stage, Shipped, RETURNS, postings_of, bookings, short_of_order, order_state, verdict, reply, tables_of, has_of_lot, short_shown, card_shown, notice_shown}
use Rattle.commands.specs.declared.rows.CardKind.TheVariants.{Receipt}
use Rattle.machine.proofs.examples.ExampleHistories.{may_4, may_31, june_1, december_31, warehouse, with_early_lot, with_picks, first_pick, OATS, RYE, A1, A2, S1, S2, L0, L1, L2, lot_of, keyed, receive, move, pick, oats_planned}
use Rattle.machine.proofs.examples.ExamplePicking.{shipment}

-- A recall of a lot that is only reserved

abbrev recall : Act
recall = keyed (codes "K-R") (Recall L2)

a_recall_with_nothing_staged_returns_nothing : reply may_4 recall with_early_lot ≡ codes "{\"act\":11,\"returned\":0}"
unfolding digits
a_recall_with_nothing_staged_returns_nothing = refl

the_first_order_is_served_before_the_second : oats_planned (recall ∷ with_early_lot) ≡ (8, 10, 5) ∷ (8, 6, 7) ∷ (9, 6, 3) ∷ []
the_first_order_is_served_before_the_second = refl

the_second_order_bears_the_shortage : short_of_order may_4 (recall ∷ with_early_lot) S2 ≡ 9
the_second_order_bears_the_shortage = refl

shortages_after_the_recall : short_shown may_4 (recall ∷ with_early_lot) OATS
    ≡ Ok (record { item = record { gtin = OATS; name = codes "Oat drink" }; lines = record { order = S2; qty = 9; customer = codes "Harbour Cafe" } ∷ [] })
shortages_after_the_recall = refl

-- A recall of a lot that is staged

a_recall_returns_what_is_staged : reply may_4 recall with_picks ≡ codes "{\"act\":13,\"returned\":7}"
unfolding digits
a_recall_returns_what_is_staged = refl

three_units_stay_in_their_bin : (tables_of may_4 (recall ∷ with_picks)).stock L2 A1 ≡ Some (record { lot = L2; bin = A1; qty = 3 })
unfolding tables_of
three_units_stay_in_their_bin = refl

seven_units_lie_in_returns : (tables_of may_4 (recall ∷ with_picks)).stock L2 RETURNS ≡ Some (record { lot = L2; bin = RETURNS; qty = 7 })
unfolding tables_of
seven_units_lie_in_returns = refl

nothing_of_it_is_staged : (tables_of may_4 (recall ∷ with_picks)).staged S1 L2 ≡ None
unfolding tables_of
nothing_of_it_is_staged = refl

the_first_order_is_served_again_at_its_old_place : oats_planned (recall ∷ with_picks) ≡ (8, 6, 7) ∷ (9, 6, 3) ∷ []
the_first_order_is_served_again_at_its_old_place = refl

then_the_second_order_is_short_of_nine : short_of_order may_4 (recall ∷ with_picks) S2 ≡ 9
then_the_second_order_is_short_of_nine = refl

abbrev late_shipment : Act
late_shipment = keyed (codes "K-S") (Ship S1)

the_shipment_is_answered : reply may_4 late_shipment (recall ∷ with_picks) ≡ codes "{\"act\":14,\"shipment\":1}"
unfolding digits
the_shipment_is_answered = refl

the_shipment_holds_the_other_lot_alone : postings_of may_4 late_shipment (recall ∷ with_picks) ≡ record { act = 14; lot = L0; from = Stage S1; to = Shipped 1 S1; qty = 5 } ∷ []
the_shipment_holds_the_other_lot_alone = refl

an_order_shipped_in_part_stays_open : order_state may_4 (late_shipment ∷ recall ∷ with_picks) S1 ≡ Open
an_order_shipped_in_part_stays_open = refl

-- A recall of a lot that only the second order has

abbrev after_one_pick : List Act
after_one_pick = first_pick ∷ with_early_lot

the_first_order_has_nothing_of_it : map (has_of_lot may_4 after_one_pick L1) (bookings after_one_pick OATS) ≡ false ∷ true ∷ []
the_first_order_has_nothing_of_it = refl

both_orders_are_served_before_it : oats_planned after_one_pick ≡ (8, 7, 7) ∷ (9, 7, 3) ∷ (9, 6, 9) ∷ []
both_orders_are_served_before_it = refl

a_recall_leaves_the_first_order_its_reservations : oats_planned (keyed (codes "K-12") (Recall L1) ∷ after_one_pick) ≡ (8, 7, 7) ∷ (9, 7, 3) ∷ []
a_recall_leaves_the_first_order_its_reservations = refl

-- A recall of a lot that is shipped

abbrev shipped_and_recalled : List Act
shipped_and_recalled = keyed (codes "K-14") (Recall L2) ∷ shipment ∷ with_picks

shipped_units_are_not_returned : reply may_4 (keyed (codes "K-14") (Recall L2)) (shipment ∷ with_picks) ≡ codes "{\"act\":14,\"returned\":0}"
unfolding digits
shipped_units_are_not_returned = refl

the_second_order_gets_the_last_lot : oats_planned shipped_and_recalled ≡ (9, 6, 10) ∷ []
the_second_order_gets_the_last_lot = refl

and_is_short_of_two : short_of_order may_4 shipped_and_recalled S2 ≡ 2
and_is_short_of_two = refl

the_notice_names_the_bin_and_the_shipment : notice_shown may_4 shipped_and_recalled L2
    ≡ Ok (record {
      item = record { gtin = OATS; name = codes "Oat drink" };
      lot = codes "L2";
      expiry = Some may_31;
      bins = record { bin = A1; qty = 3 } ∷ [];
      shipments = record { number = 1; day = may_4; qty = 7; order = S1; customer = codes "Corner Shop" } ∷ [];
    })
the_notice_names_the_bin_and_the_shipment = refl

the_card_shows_the_shipment : card_shown may_4 shipped_and_recalled L2
    ≡ Ok (record {
      item = record { gtin = OATS; name = codes "Oat drink" };
      lot = codes "L2";
      expiry = may_31;
      lines =
          record { lot = L2; act = 7; day = may_4; kind = Receipt; note = codes "D-1/2"; qty = pos 10; rest = 10 }
          ∷ record { lot = L2; act = 13; day = may_4; kind = Shipment; note = codes "1"; qty = negsuc 6; rest = 3 } ∷ [];
      in_house = 3;
    })
unfolding digits
the_card_shows_the_shipment = refl

-- A recall of a lot that was never received

abbrev unseen : LotId
unseen = lot_of RYE (codes "Z9")

abbrev early_recall : Act
early_recall = keyed (codes "K-6") (Recall unseen)

a_lot_never_received_is_recalled : reply may_4 early_recall warehouse ≡ codes "{\"act\":6,\"returned\":0}"
unfolding digits
a_lot_never_received_is_recalled = refl

its_notice_names_nothing : notice_shown may_4 (early_recall ∷ warehouse) unseen
    ≡ Ok (record { item = record { gtin = RYE; name = codes "Rye bread" }; lot = codes "Z9"; expiry = None; bins = []; shipments = [] })
its_notice_names_nothing = refl

it_is_not_received_any_more : verdict may_4 (early_recall ∷ warehouse) (receive unseen december_31 A1 1) ≡ Some LotRecalled
it_is_not_received_any_more = refl

there_is_no_notice_without_a_recall : notice_shown may_4 (early_recall ∷ warehouse) (lot_of RYE (codes "Z8")) ≡ Err NoNotice
there_is_no_notice_without_a_recall = refl

-- Days

abbrev expiry_day : Act
expiry_day = keyed (codes "K-D") (OpenDay may_31)

a_day_returns_nothing_that_is_not_staged : reply may_4 expiry_day with_early_lot ≡ codes "{\"act\":11,\"returned\":0}"
unfolding digits
a_day_returns_nothing_that_is_not_staged = refl

a_lot_ships_on_its_expiry_day : oats_planned (expiry_day ∷ with_early_lot) ≡ (8, 7, 10) ∷ (8, 6, 2) ∷ (9, 6, 8) ∷ []
a_lot_ships_on_its_expiry_day = refl

the_second_order_is_short_of_four : short_of_order may_4 (expiry_day ∷ with_early_lot) S2 ≡ 4
the_second_order_is_short_of_four = refl

it_is_picked_on_its_expiry_day : verdict may_4 (expiry_day ∷ with_early_lot) (pick S1 L2 A1 4) ≡ None
it_is_picked_on_its_expiry_day = refl

abbrev on_the_last_day : List Act
on_the_last_day = keyed (codes "K-P") (pick S1 L2 A1 4) ∷ expiry_day ∷ with_early_lot

abbrev next_day : Act
next_day = keyed (codes "K-E") (OpenDay june_1)

the_day_after_what_is_staged_of_it_returns : reply may_4 next_day on_the_last_day ≡ codes "{\"act\":13,\"returned\":4}"
unfolding digits
the_day_after_what_is_staged_of_it_returns = refl

an_expired_lot_serves_nobody : oats_planned (next_day ∷ on_the_last_day) ≡ (8, 6, 10) ∷ []
an_expired_lot_serves_nobody = refl

the_first_order_is_short_of_two : short_of_order may_4 (next_day ∷ on_the_last_day) S1 ≡ 2
the_first_order_is_short_of_two = refl

and_the_second_of_all : short_of_order may_4 (next_day ∷ on_the_last_day) S2 ≡ 12
and_the_second_of_all = refl

a_day_is_opened_once : verdict may_4 (next_day ∷ on_the_last_day) (OpenDay june_1) ≡ Some DayNotLater
a_day_is_opened_once = refl

-- A hold, its release, and a move back

abbrev hold : Act
hold = keyed (codes "K-H") (Hold L0)

a_hold_returns_what_is_staged : reply may_4 hold with_picks ≡ codes "{\"act\":13,\"returned\":5}"
unfolding digits
a_hold_returns_what_is_staged = refl

a_held_lot_serves_nobody : oats_planned (hold ∷ with_picks) ≡ (8, 7, 3) ∷ (8, 6, 2) ∷ (9, 6, 8) ∷ []
a_held_lot_serves_nobody = refl

then_the_second_order_is_short_of_four : short_of_order may_4 (hold ∷ with_picks) S2 ≡ 4
then_the_second_order_is_short_of_four = refl

abbrev release : Act
release = keyed (codes "K-L") (Release L0)

a_release_is_answered_by_its_number : reply may_4 release (hold ∷ with_picks) ≡ codes "{\"act\":14}"
unfolding digits
a_release_is_answered_by_its_number = refl

released_units_in_returns_are_not_planned : oats_planned (release ∷ hold ∷ with_picks) ≡ (8, 7, 3) ∷ (8, 6, 2) ∷ (9, 6, 8) ∷ []
released_units_in_returns_are_not_planned = refl

abbrev move_back : Act
move_back = keyed (codes "K-B") (move L0 RETURNS A2 5)

a_move_back_is_answered : reply may_4 move_back (release ∷ hold ∷ with_picks) ≡ codes "{\"act\":15}"
unfolding digits
a_move_back_is_answered = refl

moved_back_they_serve_the_first_order : oats_planned (move_back ∷ release ∷ hold ∷ with_picks) ≡ (8, 10, 5) ∷ (9, 7, 3) ∷ (9, 6, 9) ∷ []
moved_back_they_serve_the_first_order = refl

and_no_order_is_short : short_of_order may_4 (move_back ∷ release ∷ hold ∷ with_picks) S2 ≡ 0
and_no_order_is_short = refl
