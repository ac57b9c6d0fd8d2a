-- Worked examples: what readings are answered, and the acts after them.
use Rattle.std.specs.Fmt.{digits}
use Rattle.house.proofs.Words.{◌≡◌, ℕ, List, [], ◌++◌, codes, refl, date_of, date_after, date_in_year, dates_on_literals, spelling, Plain, Line, Item, OpenDay, may_4, warehouse, with_one_lot, with_stock, with_one_order, with_early_lot, OATS, A1, S1, order, Length, Do, Scan, Show, Order, Stock, PickList, Read, Need, Request, CRLF, head_text, short_answer, not_served, no_memory, answer_of, acts_of}
use Rattle.serde_json.proofs.OnLiterals.{serde_json_on_literals}

abbrev label_of : List ℕ → List ℕ → List ℕ
label_of yymmdd lot = codes "01" ++ OATS ++ codes "17" ++ yymmdd ++ codes "10" ++ lot

abbrev scanned : List ℕ → List ℕ → ℕ → Read
scanned delivery label qty = Request (Scan delivery 1 label A1 qty)

-- Scanned labels

a_receipt_is_answered : answer_of may_4 warehouse (scanned (codes "D-1") (label_of (codes "260630") (codes "L1")) 10) ≡ short_answer 200 (codes "{\"act\":6}")
unfolding dates_on_literals digits
a_receipt_is_answered = refl

it_is_an_act : acts_of may_4 warehouse (scanned (codes "D-1") (label_of (codes "260630") (codes "L1")) 10) ≡ with_one_lot
unfolding dates_on_literals digits
it_is_an_act = refl

a_lot_that_has_expired_is_refused : answer_of may_4 warehouse (scanned (codes "D-0") (label_of (codes "770101") (codes "AB12")) 10) ≡ short_answer 409 (codes "{\"code\":\"S02\"}")
unfolding dates_on_literals digits
a_lot_that_has_expired_is_refused = refl

that_is_no_act : acts_of may_4 warehouse (scanned (codes "D-0") (label_of (codes "770101") (codes "AB12")) 10) ≡ warehouse
unfolding dates_on_literals digits
that_is_no_act = refl

a_refused_label_names_its_cause : answer_of may_4 warehouse (scanned (codes "D-1") (codes "0109506000134353" ++ codes "17260630" ++ codes "10L1") 10)
    ≡ short_answer 400 (codes "{\"cause\":\"L05\",\"code\":\"W05\"}")
unfolding dates_on_literals digits
a_refused_label_names_its_cause = refl

a_receipt_sent_again_gets_the_first_answer : answer_of may_4 with_early_lot (scanned (codes "D-2") (label_of (codes "260510") (codes "L0")) 5) ≡ short_answer 200 (codes "{\"act\":10}")
unfolding dates_on_literals spelling digits date_of date_after date_in_year
a_receipt_sent_again_gets_the_first_answer = refl

another_quantity_is_another_command : answer_of may_4 with_early_lot (scanned (codes "D-2") (label_of (codes "260510") (codes "L0")) 6) ≡ short_answer 409 (codes "{\"code\":\"K01\"}")
unfolding dates_on_literals spelling digits date_of date_after date_in_year
another_quantity_is_another_command = refl

-- Commands

an_order_is_answered : answer_of may_4 with_stock (Request (Do (Plain (codes "K-8")) (order S1 (codes "Corner Shop") 12))) ≡ short_answer 200 (codes "{\"act\":8,\"short\":0}")
unfolding digits
an_order_is_answered = refl

an_order_is_an_act : acts_of may_4 with_stock (Request (Do (Plain (codes "K-8")) (order S1 (codes "Corner Shop") 12))) ≡ with_one_order
unfolding digits
an_order_is_an_act = refl

a_day_that_is_not_later : answer_of may_4 with_one_order (Request (Do (Plain (codes "K-9")) (OpenDay may_4))) ≡ short_answer 409 (codes "{\"code\":\"S10\"}")
a_day_that_is_not_later = refl

an_item_has_a_plain_key : answer_of may_4 [] (Request (Do (Line (codes "D-1") 1) (Item (record { gtin = OATS; name = codes "Oat drink" })))) ≡ not_served
an_item_has_a_plain_key = refl

-- Queries

an_order_that_nobody_placed : answer_of may_4 with_stock (Request (Show (Order S1))) ≡ short_answer 404 (codes "{\"code\":\"U04\"}")
an_order_that_nobody_placed = refl

the_stock_of_an_unknown_item : answer_of may_4 [] (Request (Show (Stock OATS))) ≡ short_answer 404 (codes "{\"code\":\"U01\"}")
the_stock_of_an_unknown_item = refl

the_stock_of_one_lot : answer_of may_4 with_one_lot (Request (Show (Stock OATS)))
    ≡ short_answer 200 (codes "{\"gtin\":\"09506000134352\",\"lots\":[{\"bins\":[{\"bin\":\"A-01\",\"qty\":10}],\"expiry\":\"2026-06-30\",\"lot\":\"L1\",\"reserved\":0,\"staged\":0,\"status\":\"FREE\"}],\"name\":\"Oat drink\"}")
unfolding serde_json_on_literals dates_on_literals digits
the_stock_of_one_lot = refl

a_pick_list_of_an_order_that_nobody_placed : answer_of may_4 with_one_lot (Request (Show (PickList S1))) ≡ short_answer 404 (codes "{\"code\":\"U04\"}")
a_pick_list_of_an_order_that_nobody_placed = refl

-- Faults, whole

a_body_cut_short : answer_of may_4 warehouse (Need Length)
    ≡ codes "HTTP/1.1 400 Bad Request" ++ CRLF ++ codes "content-type: application/json" ++ CRLF ++ codes "content-length: 14" ++ CRLF
    ++ codes "connection: close" ++ CRLF ++ CRLF ++ codes "{\"code\":\"W02\"}"
unfolding head_text digits
a_body_cut_short = refl

no_memory_is_told : no_memory
    ≡ codes "HTTP/1.1 503 Service Unavailable" ++ CRLF ++ codes "content-type: application/json" ++ CRLF ++ codes "content-length: 14" ++ CRLF
    ++ codes "connection: close" ++ CRLF ++ CRLF ++ codes "{\"code\":\"W90\"}"
unfolding head_text digits
no_memory_is_told = refl
