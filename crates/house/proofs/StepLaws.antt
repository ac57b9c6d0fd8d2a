-- What is true of every step over a text.
use Rattle.std.specs.Fmt.{digits}
use Rattle.house.proofs.Words.{◌≡◌, ◌≢◌, ℕ, true, false, ◌<◌, List, get_or, lit<, arith, refl, sym, ap, ◌∙◌, inl, inr, Bool, if◌then◌else◌, codes, Option, Some, None, Result, Ok, Err, ℤ, label_read, Label, LabelFault, refusal_code, Refusal, Key, Command, OrderView, StockView, books_shown, open_orders_shown, item_names_shown, expiring_shown, bin_shown, BooksView, BinView, ExpiringView, ItemNamesView, OpenOrdersView, Act, today, Outcome, Accepted, Repeated, outcome, appended, Tally, tally, file_outcome_of, acts_if_taken, order_shown, short_shown, stock_shown, card_shown, notice_shown, file_read, FileFault, rows_of, WireFault, Head, Length, Json, Field, Path, Method, TooLarge, Memory, Ask, Do, Scan, GoodsIn, Show, Query, Books, OpenOrders, ItemNames, Expiring, Bin, Order, Stock, PickList, Shortages, Card, Notice, Read, Need, Bad, Request, head_text, code_text, code_row_text, tally_text, BooksAnswer, OpenOrdersAnswer, ItemNamesAnswer, ExpiringAnswer, BinAnswer, OrderAnswer, StockAnswer, Text, PicksAnswer, FiguresAnswer, PicksView, FiguresView, picks_shown, figures_shown, Picks, Figures, pick_list_text, shortages_text, card_text, notice_text, status_of, short_answer, fault_answer, not_served, foreign_books, outcome_answer, is_served, act_answer, acts_with, Delivered, receipt, label_answer, scan_answer, acts_scanned, file_outcome_answer, file_fault_answer, file_answer, acts_filed, view_answer, query_answer, ask_answer, acts_asked, answer_of, acts_of, RefusedRequestsChangeNothing, BooksAreNeverForeign, Trace, TraceAnswer, TraceView, trace_shown}
use Rattle.machine.specs.Once.{Refused}
use Rattle.goodsin.specs.declared.fault.FileFault.TheVariants as file

-- What is not answered 200 changes nothing

pub ok_status : (text : List ℕ) → status_of (short_answer 200 text) ≡ codes "HTTP/1.1 200"
unfolding head_text digits
ok_status text = refl

kept_outcome : (act : Act) (acts : List Act) (o : Outcome) → status_of (outcome_answer o) ≢ codes "HTTP/1.1 200" → appended act acts o ≡ acts
kept_outcome act acts (Accepted text) ne = absurd (ne (ok_status text))
kept_outcome act acts (Repeated text) ne = refl
kept_outcome act acts (Refused why) ne = refl

kept_if : (act : Act) (acts : List Act) (o : Outcome) (b : Bool) → status_of (if b then outcome_answer o else not_served) ≢ codes "HTTP/1.1 200"
    → (if b then appended act acts o else acts) ≡ acts
kept_if act acts o true ne = kept_outcome act acts o ne
kept_if act acts o false ne = refl

kept_act : (first : ℤ) (acts : List Act) (act : Act) → status_of (act_answer first acts act) ≢ codes "HTTP/1.1 200" → acts_with first acts act ≡ acts
kept_act first acts act ne = kept_if act acts (outcome first acts act) (is_served act) ne

kept_scan : (first : ℤ) (acts : List Act) (d : Delivered) (r : Result Label LabelFault) → status_of (scan_answer first acts d r) ≢ codes "HTTP/1.1 200" → acts_scanned first acts d r ≡ acts
kept_scan first acts d (Ok label) ne = kept_act first acts (receipt d label) ne
kept_scan first acts d (Err fault) ne = refl

kept_taken : (acts : List Act) (t : Tally) (o : Option (ℕ × Refusal)) → status_of (file_outcome_answer (file_outcome_of t o)) ≢ codes "HTTP/1.1 200" → acts_if_taken acts t o ≡ acts
kept_taken acts t None ne = absurd (ne (ok_status (tally_text t.accepted t.repeated)))
kept_taken acts t (Some r) ne = refl

kept_file : (first : ℤ) (acts : List Act) (r : Result (List (Key × Command)) FileFault) → status_of (file_answer first acts r) ≢ codes "HTTP/1.1 200" → acts_filed first acts r ≡ acts
kept_file first acts (Ok rows) ne = let t = tally first acts (rows_of rows) in kept_taken acts t t.refused ne
kept_file first acts (Err fault) ne = refl

kept_ask : (first : ℤ) (acts : List Act) (ask : Ask) → status_of (ask_answer first acts ask) ≢ codes "HTTP/1.1 200" → acts_asked first acts ask ≡ acts
kept_ask first acts (Do key command) ne = kept_act first acts (record { key = key; command = command }) ne
kept_ask first acts (Scan delivery line label bin qty) ne = kept_scan first acts (record { delivery = delivery; line = line; bin = bin; qty = qty }) (label_read (today first acts) label) ne
kept_ask first acts (GoodsIn bytes) ne = kept_file first acts (file_read (today first acts) bytes) ne
kept_ask first acts (Show query) ne = refl

kept_reading : (first : ℤ) (acts : List Act) (r : Read) → status_of (answer_of first acts r) ≢ codes "HTTP/1.1 200" → acts_of first acts r ≡ acts
kept_reading first acts (Need e) ne = refl
kept_reading first acts (Bad e) ne = refl
kept_reading first acts (Request ask) ne = kept_ask first acts ask ne

pub refused_requests_change_nothing : RefusedRequestsChangeNothing
refused_requests_change_nothing first old text bytes new (inl h) ne = h.acts ∙ kept_reading first old h.reading (λ e. ne (ap status_of h.answer ∙ e))
refused_requests_change_nothing first old text bytes new (inr h) ne = h.acts

-- No answer is 503 W91

-- the first digit of the status
abbrev class_of : List ℕ → ℕ
class_of bytes = get_or bytes 9 0

foreign_class : class_of foreign_books ≡ 53
unfolding head_text digits
foreign_class = refl

-- an answer of another class
other : (bytes : List ℕ) (class : ℕ) → class_of bytes ≡ class → class < 53 → bytes ≢ foreign_books
other bytes class is less e = let same : class ≡ 53 = sym is ∙ ap class_of e ∙ foreign_class in omega arith

differ : (a b : ℕ) → a ≡ b → a < b → ⊥
differ a b e less = omega arith

fault_not_foreign : (e : WireFault) → fault_answer e ≢ foreign_books
unfolding head_text digits
fault_not_foreign Head = other (fault_answer Head) 52 refl (lit< tt)
fault_not_foreign Length = other (fault_answer Length) 52 refl (lit< tt)
fault_not_foreign Json = other (fault_answer Json) 52 refl (lit< tt)
fault_not_foreign Field = other (fault_answer Field) 52 refl (lit< tt)
fault_not_foreign Path = other (fault_answer Path) 52 refl (lit< tt)
fault_not_foreign (Method m) = other (fault_answer (Method m)) 52 refl (lit< tt)
fault_not_foreign TooLarge = other (fault_answer TooLarge) 52 refl (lit< tt)
fault_not_foreign Memory = λ e. differ 48 49 (ap (λ bytes. get_or bytes 118 0) e) (lit< tt)

ok_not_foreign : (text : List ℕ) → short_answer 200 text ≢ foreign_books
unfolding head_text digits
ok_not_foreign text = other (short_answer 200 text) 50 refl (lit< tt)

conflict_not_foreign : (text : List ℕ) → short_answer 409 text ≢ foreign_books
unfolding head_text digits
conflict_not_foreign text = other (short_answer 409 text) 52 refl (lit< tt)

outcome_not_foreign : (o : Outcome) → outcome_answer o ≢ foreign_books
outcome_not_foreign (Accepted text) = ok_not_foreign text
outcome_not_foreign (Repeated text) = ok_not_foreign text
outcome_not_foreign (Refused why) = conflict_not_foreign (code_text (refusal_code why))

if_not_foreign : (o : Outcome) (b : Bool) → (if b then outcome_answer o else not_served) ≢ foreign_books
if_not_foreign o true = outcome_not_foreign o
if_not_foreign o false = fault_not_foreign Path

scan_not_foreign : (first : ℤ) (acts : List Act) (d : Delivered) (r : Result Label LabelFault) → scan_answer first acts d r ≢ foreign_books
unfolding head_text digits
scan_not_foreign first acts d (Ok label) = if_not_foreign (outcome first acts (receipt d label)) (is_served (receipt d label))
scan_not_foreign first acts d (Err fault) = other (label_answer fault) 52 refl (lit< tt)

order_not_foreign : (r : Result OrderView Refusal) → view_answer OrderAnswer r ≢ foreign_books
unfolding head_text digits
order_not_foreign (Ok view) = other (view_answer OrderAnswer (Ok view)) 50 refl (lit< tt)
order_not_foreign (Err why) = other (view_answer OrderAnswer (Err why)) 52 refl (lit< tt)

stock_not_foreign : (r : Result StockView Refusal) → view_answer StockAnswer r ≢ foreign_books
unfolding head_text digits
stock_not_foreign (Ok view) = other (view_answer StockAnswer (Ok view)) 50 refl (lit< tt)
stock_not_foreign (Err why) = other (view_answer StockAnswer (Err why)) 52 refl (lit< tt)

books_not_foreign : (r : Result BooksView Refusal) → view_answer BooksAnswer r ≢ foreign_books
unfolding head_text digits
books_not_foreign (Ok view) = other (view_answer BooksAnswer (Ok view)) 50 refl (lit< tt)
books_not_foreign (Err why) = other (view_answer BooksAnswer (Err why)) 52 refl (lit< tt)

open_orders_not_foreign : (r : Result OpenOrdersView Refusal) → view_answer OpenOrdersAnswer r ≢ foreign_books
unfolding head_text digits
open_orders_not_foreign (Ok view) = other (view_answer OpenOrdersAnswer (Ok view)) 50 refl (lit< tt)
open_orders_not_foreign (Err why) = other (view_answer OpenOrdersAnswer (Err why)) 52 refl (lit< tt)

item_names_not_foreign : (r : Result ItemNamesView Refusal) → view_answer ItemNamesAnswer r ≢ foreign_books
unfolding head_text digits
item_names_not_foreign (Ok view) = other (view_answer ItemNamesAnswer (Ok view)) 50 refl (lit< tt)
item_names_not_foreign (Err why) = other (view_answer ItemNamesAnswer (Err why)) 52 refl (lit< tt)

expiring_not_foreign : (r : Result ExpiringView Refusal) → view_answer ExpiringAnswer r ≢ foreign_books
unfolding head_text digits
expiring_not_foreign (Ok view) = other (view_answer ExpiringAnswer (Ok view)) 50 refl (lit< tt)
expiring_not_foreign (Err why) = other (view_answer ExpiringAnswer (Err why)) 52 refl (lit< tt)

bin_not_foreign : (r : Result BinView Refusal) → view_answer BinAnswer r ≢ foreign_books
unfolding head_text digits
bin_not_foreign (Ok view) = other (view_answer BinAnswer (Ok view)) 50 refl (lit< tt)
bin_not_foreign (Err why) = other (view_answer BinAnswer (Err why)) 52 refl (lit< tt)

picks_not_foreign : (r : Result PicksView Refusal) → view_answer PicksAnswer r ≢ foreign_books
unfolding head_text digits
picks_not_foreign (Ok view) = other (view_answer PicksAnswer (Ok view)) 50 refl (lit< tt)
picks_not_foreign (Err why) = other (view_answer PicksAnswer (Err why)) 52 refl (lit< tt)

figures_not_foreign : (r : Result FiguresView Refusal) → view_answer FiguresAnswer r ≢ foreign_books
unfolding head_text digits
figures_not_foreign (Ok view) = other (view_answer FiguresAnswer (Ok view)) 50 refl (lit< tt)
figures_not_foreign (Err why) = other (view_answer FiguresAnswer (Err why)) 52 refl (lit< tt)

text_not_foreign : {V : Type 0} (text : V → List ℕ) (r : Result V Refusal) → view_answer (λ v. Text (text v)) r ≢ foreign_books
unfolding head_text digits
text_not_foreign text (Ok view) = other (view_answer (λ v. Text (text v)) (Ok view)) 50 refl (lit< tt)
text_not_foreign text (Err why) = other (view_answer (λ v. Text (text v)) (Err why)) 52 refl (lit< tt)

trace_not_foreign : (r : Result TraceView Refusal) → view_answer TraceAnswer r ≢ foreign_books
unfolding head_text digits
trace_not_foreign (Ok view) = other (view_answer TraceAnswer (Ok view)) 50 refl (lit< tt)
trace_not_foreign (Err why) = other (view_answer TraceAnswer (Err why)) 52 refl (lit< tt)

query_not_foreign : (first : ℤ) (acts : List Act) (q : Query) → query_answer first acts q ≢ foreign_books
query_not_foreign first acts Books = books_not_foreign (books_shown first acts)
query_not_foreign first acts (OpenOrders behind) = open_orders_not_foreign (open_orders_shown first acts behind)
query_not_foreign first acts (ItemNames behind) = item_names_not_foreign (item_names_shown acts behind)
query_not_foreign first acts (Expiring day behind) = expiring_not_foreign (expiring_shown first acts day behind)
query_not_foreign first acts (Bin bin behind) = bin_not_foreign (bin_shown first acts bin behind)
query_not_foreign first acts (Order order) = order_not_foreign (order_shown first acts order)
query_not_foreign first acts (Stock gtin) = stock_not_foreign (stock_shown first acts gtin)
query_not_foreign first acts (PickList order) = text_not_foreign pick_list_text (order_shown first acts order)
query_not_foreign first acts (Shortages gtin) = text_not_foreign shortages_text (short_shown first acts gtin)
query_not_foreign first acts (Card lot) = text_not_foreign card_text (card_shown first acts lot)
query_not_foreign first acts (Notice lot) = text_not_foreign notice_text (notice_shown first acts lot)
query_not_foreign first acts (Picks order) = picks_not_foreign (picks_shown first acts order)
query_not_foreign first acts Figures = figures_not_foreign (figures_shown first acts)
query_not_foreign first acts (Trace lot) = trace_not_foreign (trace_shown first acts lot)

taken_not_foreign : (t : Tally) (o : Option (ℕ × Refusal)) → file_outcome_answer (file_outcome_of t o) ≢ foreign_books
taken_not_foreign t None = ok_not_foreign (tally_text t.accepted t.repeated)
taken_not_foreign t (Some r) = conflict_not_foreign (code_row_text (refusal_code r.1) r.0)

unread_not_foreign : (fault : FileFault) → file_fault_answer fault ≢ foreign_books
unfolding head_text digits
unread_not_foreign file.Header = other (file_fault_answer file.Header) 52 refl (lit< tt)
unread_not_foreign (file.Row row) = other (file_fault_answer (file.Row row)) 52 refl (lit< tt)
unread_not_foreign file.TooManyRows = other (file_fault_answer file.TooManyRows) 52 refl (lit< tt)
unread_not_foreign file.Length = other (file_fault_answer file.Length) 52 refl (lit< tt)
unread_not_foreign file.Reader = fault_not_foreign Memory
unread_not_foreign file.Memory = fault_not_foreign Memory

file_not_foreign : (first : ℤ) (acts : List Act) (r : Result (List (Key × Command)) FileFault) → file_answer first acts r ≢ foreign_books
file_not_foreign first acts (Ok rows) = let t = tally first acts (rows_of rows) in taken_not_foreign t t.refused
file_not_foreign first acts (Err fault) = unread_not_foreign fault

ask_not_foreign : (first : ℤ) (acts : List Act) (ask : Ask) → ask_answer first acts ask ≢ foreign_books
ask_not_foreign first acts (Do key command) = if_not_foreign (outcome first acts (record { key = key; command = command })) (is_served (record { key = key; command = command }))
ask_not_foreign first acts (Scan delivery line label bin qty) = scan_not_foreign first acts (record { delivery = delivery; line = line; bin = bin; qty = qty }) (label_read (today first acts) label)
ask_not_foreign first acts (GoodsIn bytes) = file_not_foreign first acts (file_read (today first acts) bytes)
ask_not_foreign first acts (Show query) = query_not_foreign first acts query

reading_not_foreign : (first : ℤ) (acts : List Act) (r : Read) → answer_of first acts r ≢ foreign_books
reading_not_foreign first acts (Need e) = fault_not_foreign e
reading_not_foreign first acts (Bad e) = fault_not_foreign e
reading_not_foreign first acts (Request ask) = ask_not_foreign first acts ask

pub books_are_never_foreign : BooksAreNeverForeign
books_are_never_foreign first old text bytes new (inl h) e = reading_not_foreign first old h.reading (sym h.answer ∙ e)
books_are_never_foreign first old text bytes new (inr h) e = fault_not_foreign Memory (sym h.answer ∙ e)
