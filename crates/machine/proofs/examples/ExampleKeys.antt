-- Requests that come again, goods-in files, and requests that no value's rule admits.
use Rattle.std.specs.Fmt.{digits}
use Rattle.machine.proofs.Words.{◌≡◌, ℕ, false, List, [], ◌∷◌, codes, refl, ℤ, pos, Some, date_of, date_after, date_in_year, is_sound, spelling, Order, Recall, OpenDay, KeyUsed, OverReserved, UnknownBin, Act, outcome, acts_after, Accepted, Repeated, Refused, file_outcome, acts_after_file, Taken, RefusedRow, tables_of}
use Rattle.machine.proofs.examples.ExampleHistories.{may_4, may_10, june_30, december_31, warehouse, with_one_order, with_early_lot, with_picks, first_pick, third_receipt, OATS, RYE, A1, A2, S1, L0, L1, L2, lot_of, keyed, delivered, receive, pick}

-- Keys

abbrev recalled : List Act
recalled = keyed (codes "K-R") (Recall L0) ∷ with_early_lot

a_receipt_sent_again_is_answered_as_before : outcome may_4 recalled third_receipt ≡ Repeated (codes "{\"act\":10}")
unfolding spelling digits date_of date_after date_in_year
a_receipt_sent_again_is_answered_as_before = refl

it_is_no_act : acts_after may_4 recalled third_receipt ≡ recalled
unfolding spelling digits date_of date_after date_in_year
it_is_no_act = refl

another_quantity_is_another_command : outcome may_4 recalled (delivered (codes "D-2") 1 (receive L0 may_10 A1 6)) ≡ Refused KeyUsed
unfolding spelling digits date_of date_after date_in_year
another_quantity_is_another_command = refl

a_pick_sent_again_is_answered_as_before : outcome may_4 with_picks first_pick ≡ Repeated (codes "{\"act\":11}")
unfolding spelling digits date_of date_after date_in_year
a_pick_sent_again_is_answered_as_before = refl

a_refused_pick : outcome may_4 with_early_lot (keyed (codes "P-9") (pick S1 L2 A1 8)) ≡ Refused OverReserved
unfolding digits
a_refused_pick = refl

leaves_its_key_free : outcome may_4 (acts_after may_4 with_early_lot (keyed (codes "P-9") (pick S1 L2 A1 8))) (keyed (codes "P-9") (pick S1 L2 A1 7)) ≡ Accepted (codes "{\"act\":11}")
unfolding digits
leaves_its_key_free = refl

abbrev order_of : List ℕ → List ℕ → Act
order_of first second = keyed (codes "K-O") (Order (record { order = S1; customer = codes "Mill Inn"; lines = record { gtin = first; qty = 1 } ∷ record { gtin = second; qty = 2 } ∷ [] }))

lines_exchanged_are_another_order : outcome may_4 (order_of OATS RYE ∷ warehouse) (order_of RYE OATS) ≡ Refused KeyUsed
unfolding spelling digits date_of date_after date_in_year
lines_exchanged_are_another_order = refl

an_act_is_kept_with_its_key_its_spelling_and_its_reply : (tables_of may_4 with_picks).repeat (codes "D/D-2/1")
    ≡ Some (record { k = codes "D/D-2/1"; act = 10; spell = codes "RECEIVE\n09506000134352\nL0\n2026-05-10\nA-01\n5"; reply = codes "{\"act\":10}" })
unfolding tables_of spelling digits date_of date_after date_in_year
an_act_is_kept_with_its_key_its_spelling_and_its_reply = refl

-- Goods-in files

abbrev november_30 : ℤ
november_30 = pos 20787

abbrev file : List ℕ → List Act
file bin =
    delivered (codes "D-9") 1 (receive (lot_of OATS (codes "M1")) november_30 A1 5)
    ∷ delivered (codes "D-9") 2 (receive (lot_of OATS (codes "M2")) december_31 A2 7)
    ∷ delivered (codes "D-9") 3 (receive (lot_of RYE (codes "N1")) december_31 bin 4) ∷ []

the_first_refused_row_is_named : file_outcome may_4 warehouse (file (codes "B-99")) ≡ RefusedRow 3 UnknownBin
unfolding spelling digits date_of date_after date_in_year
the_first_refused_row_is_named = refl

no_row_of_a_refused_file_is_kept : acts_after_file may_4 warehouse (file (codes "B-99")) ≡ warehouse
unfolding spelling digits date_of date_after date_in_year
no_row_of_a_refused_file_is_kept = refl

all_rows_are_accepted : file_outcome may_4 warehouse (file A2) ≡ Taken 3 0
unfolding spelling digits date_of date_after date_in_year
all_rows_are_accepted = refl

a_file_sent_again_is_repeated : file_outcome may_4 (acts_after_file may_4 warehouse (file A2)) (file A2) ≡ Taken 0 3
unfolding spelling digits date_of date_after date_in_year
a_file_sent_again_is_repeated = refl

abbrev row : ℕ → Act
row qty = delivered (codes "D-7") 1 (receive (lot_of OATS (codes "M1")) november_30 A1 qty)

an_empty_file_changes_nothing : file_outcome may_4 warehouse [] ≡ Taken 0 0
an_empty_file_changes_nothing = refl

one_receipt_twice_in_a_file : file_outcome may_4 warehouse (row 5 ∷ row 5 ∷ []) ≡ Taken 1 1
unfolding spelling digits date_of date_after date_in_year
one_receipt_twice_in_a_file = refl

one_line_with_two_quantities : file_outcome may_4 warehouse (row 5 ∷ row 6 ∷ []) ≡ RefusedRow 2 KeyUsed
unfolding spelling digits date_of date_after date_in_year
one_line_with_two_quantities = refl

a_line_scanned_and_imported_is_one : file_outcome may_4 with_one_order (delivered (codes "D-1") 1 (receive L1 june_30 A1 10) ∷ []) ≡ Taken 0 1
unfolding spelling digits date_of date_after date_in_year
a_line_scanned_and_imported_is_one = refl

-- Without the values' rules two orders could have one spelling, and a day no date

abbrev no_lines : Act
no_lines = keyed (codes "K-2") (Order (record { order = S1; customer = codes "Corner Shop\n09506000134352\n5"; lines = [] }))

abbrev one_line : Act
one_line = keyed (codes "K-2") (Order (record { order = S1; customer = codes "Corner Shop"; lines = record { gtin = OATS; qty = 5 } ∷ [] }))

they_are_spelled_alike : spelling no_lines.command ≡ spelling one_line.command
unfolding spelling digits date_of date_after date_in_year
they_are_spelled_alike = refl

an_order_without_lines_is_no_command : is_sound no_lines.command ≡ false
an_order_without_lines_is_no_command = refl

a_day_out_of_range_is_no_command : is_sound (OpenDay (pos 1_000_000)) ≡ false
a_day_out_of_range_is_no_command = refl
