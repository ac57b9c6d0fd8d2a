-- The days that the lots of an item must have left.
use Rattle.std.specs.Fmt.{digits}
use Rattle.machine.proofs.Words.{◌≡◌, ℕ, List, [], ◌∷◌, codes, refl, Some, Least, TooFewDays, UnknownItem, ShortDated, Act, short_of_order, least_row, verdict, lot_status, reply}
use Rattle.machine.proofs.examples.ExampleHistories.{may_4, may_10, with_early_lot, with_picks, OATS, A1, S1, S2, L0, keyed, pick, oats_planned}

abbrev least : ℕ → Act
least days = keyed (codes "K-N") (Least (record { gtin = OATS; days = days }))

-- From the state with the early lot

abbrev after_27 : List Act
after_27 = least 27 ∷ with_early_lot

days_are_asked_for : reply may_4 (least 27) with_early_lot ≡ codes "{\"act\":11,\"returned\":0}"
unfolding digits
days_are_asked_for = refl

the_early_lot_has_too_few : oats_planned after_27 ≡ (8, 7, 10) ∷ (8, 6, 2) ∷ (9, 6, 8) ∷ []
the_early_lot_has_too_few = refl

so_the_second_order_is_short_of_four : short_of_order may_4 after_27 S2 ≡ 4
so_the_second_order_is_short_of_four = refl

a_day_more_leaves_one_lot : oats_planned (least 28 ∷ with_early_lot) ≡ (8, 6, 10) ∷ []
a_day_more_leaves_one_lot = refl

and_the_first_order_short_of_two : short_of_order may_4 (least 28 ∷ with_early_lot) S1 ≡ 2
and_the_first_order_short_of_two = refl

and_the_second_of_all : short_of_order may_4 (least 28 ∷ with_early_lot) S2 ≡ 12
and_the_second_of_all = refl

-- From the state with picks

six_days_are_left : reply may_4 (least 6) with_picks ≡ codes "{\"act\":13,\"returned\":0}"
unfolding digits
six_days_are_left = refl

abbrev after_7 : List Act
after_7 = least 7 ∷ with_picks

staged_units_return : reply may_4 (least 7) with_picks ≡ codes "{\"act\":13,\"returned\":5}"
unfolding digits
staged_units_return = refl

others_serve_the_order : oats_planned after_7 ≡ (8, 7, 3) ∷ (8, 6, 2) ∷ (9, 6, 8) ∷ []
others_serve_the_order = refl

then_the_second_order_is_short_of_four : short_of_order may_4 after_7 S2 ≡ 4
then_the_second_order_is_short_of_four = refl

it_is_not_picked_then : verdict may_4 after_7 (pick S1 L0 A1 1) ≡ Some TooFewDays
it_is_not_picked_then = refl

it_is_shown_as_short_dated : lot_status may_4 after_7 (record { lot = L0; expiry = may_10; came = 10 }) ≡ ShortDated
it_is_shown_as_short_dated = refl

-- Its row, and items that are not known

abbrev oats_days : List Act → ℕ → Type 0
oats_days acts days = least_row acts OATS ≡ Some (record { gtin = OATS; days = days })

an_item_asks_for_none_at_first : oats_days with_picks 0
an_item_asks_for_none_at_first = refl

the_last_says_how_many : oats_days (least 6 ∷ after_7) 6
the_last_says_how_many = refl

an_unknown_item_is_refused : verdict may_4 with_picks (Least (record { gtin = codes "00000000000017"; days = 1 })) ≡ Some UnknownItem
an_unknown_item_is_refused = refl
