-- Picks, moves, adjustments, cancels and shipments.
use Rattle.std.specs.Fmt.{digits}
use Rattle.machine.proofs.Words.{◌≡◌, ℕ, List, [], ◌∷◌, codes, refl, negsuc, Some, None, Command, Adjust, Cancel, Unpick, Ship, OverReserved, NotInBin, SameBin, StillStaged, OverStaged, Done, Act, short_of_order, order_state, staged_of_lot, reserved, verdict, reply}
use Rattle.machine.proofs.examples.ExampleHistories.{may_4, with_early_lot, with_picks, first_pick, second_pick, A1, Q1, S1, S2, L0, L1, L2, keyed, move, pick, oats_planned}

-- Picks

no_more_is_picked_than_is_reserved : verdict may_4 with_early_lot (pick S1 L2 A1 8) ≡ Some OverReserved
no_more_is_picked_than_is_reserved = refl

what_is_reserved_is_picked : reply may_4 first_pick with_early_lot ≡ codes "{\"act\":11}"
unfolding digits
what_is_reserved_is_picked = refl

the_second_pick_is_accepted : verdict may_4 (first_pick ∷ with_early_lot) (pick S1 L2 A1 7) ≡ None
the_second_pick_is_accepted = refl

the_second_pick_is_answered : reply may_4 second_pick (first_pick ∷ with_early_lot) ≡ codes "{\"act\":12}"
unfolding digits
the_second_pick_is_answered = refl

picks_disturb_no_other_order : oats_planned with_picks ≡ (9, 7, 3) ∷ (9, 6, 9) ∷ []
picks_disturb_no_other_order = refl

-- A shipment

abbrev pub shipment : Act
shipment = keyed (codes "K-13") (Ship S1)

a_shipment_is_answered_by_its_number : reply may_4 shipment with_picks ≡ codes "{\"act\":13,\"shipment\":1}"
unfolding digits
a_shipment_is_answered_by_its_number = refl

an_order_shipped_in_full_is_done : order_state may_4 (shipment ∷ with_picks) S1 ≡ Done
an_order_shipped_in_full_is_done = refl

-- Moves and adjustments

a_move_asks_for_the_units_first : verdict may_4 with_early_lot (move L2 A1 A1 11) ≡ Some NotInBin
a_move_asks_for_the_units_first = refl

a_move_goes_to_another_bin : verdict may_4 with_early_lot (move L2 A1 A1 10) ≡ Some SameBin
a_move_goes_to_another_bin = refl

abbrev into_quarantine : Act
into_quarantine = keyed (codes "K-M") (move L1 A1 Q1 10)

a_move_is_answered_by_its_number : reply may_4 into_quarantine with_early_lot ≡ codes "{\"act\":11}"
unfolding digits
a_move_is_answered_by_its_number = refl

units_in_a_hold_bin_are_not_planned : oats_planned (into_quarantine ∷ with_early_lot) ≡ (8, 10, 5) ∷ (8, 7, 7) ∷ (9, 7, 3) ∷ []
units_in_a_hold_bin_are_not_planned = refl

then_the_second_order_is_short_of_nine : short_of_order may_4 (into_quarantine ∷ with_early_lot) S2 ≡ 9
then_the_second_order_is_short_of_nine = refl

no_more_is_taken_off_than_is_there : verdict may_4 with_early_lot (Adjust (record { lot = L1; bin = A1; change = negsuc 10 })) ≡ Some NotInBin
no_more_is_taken_off_than_is_there = refl

abbrev adjustment : Act
adjustment = keyed (codes "K-A") (Adjust (record { lot = L1; bin = A1; change = negsuc 9 }))

an_adjustment_is_answered_by_its_change : reply may_4 adjustment with_early_lot ≡ codes "{\"act\":11,\"change\":-10}"
unfolding digits
an_adjustment_is_answered_by_its_change = refl

units_taken_off_are_not_planned : oats_planned (adjustment ∷ with_early_lot) ≡ (8, 10, 5) ∷ (8, 7, 7) ∷ (9, 7, 3) ∷ []
units_taken_off_are_not_planned = refl

-- Cancels and units put back

an_order_with_staged_units_is_not_cancelled : verdict may_4 with_picks (Cancel S1) ≡ Some StillStaged
an_order_with_staged_units_is_not_cancelled = refl

abbrev put_back : ℕ → List ℕ → Command
put_back qty bin = Unpick (record { order = S1; lot = L2; bin = bin; qty = qty })

abbrev into_hold : Act
into_hold = keyed (codes "K-U") (put_back 3 Q1)

a_pick_is_put_back : reply may_4 into_hold with_picks ≡ codes "{\"act\":13}"
unfolding digits
a_pick_is_put_back = refl

the_other_lot_stays_staged : staged_of_lot may_4 (into_hold ∷ with_picks) S1 L0 ≡ 5
the_other_lot_stays_staged = refl

the_rest_of_the_lot_stays_staged : staged_of_lot may_4 (into_hold ∷ with_picks) S1 L2 ≡ 4
the_rest_of_the_lot_stays_staged = refl

what_is_put_back_is_served_again : oats_planned (into_hold ∷ with_picks) ≡ (8, 7, 3) ∷ (9, 6, 10) ∷ []
what_is_put_back_is_served_again = refl

by_name_it_is_three_units : reserved may_4 (into_hold ∷ with_picks) S1 L2 ≡ 3
by_name_it_is_three_units = refl

then_the_second_order_is_short_of_two : short_of_order may_4 (into_hold ∷ with_picks) S2 ≡ 2
then_the_second_order_is_short_of_two = refl

no_more_is_put_back_than_is_staged : verdict may_4 with_picks (put_back 8 A1) ≡ Some OverStaged
no_more_is_put_back_than_is_staged = refl
