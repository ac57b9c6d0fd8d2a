-- What each reading of a text is answered, and the acts after it. An answer is its bytes.
use Rattle.std.specs.Prelude.{ℕ, if◌then◌else◌, Bool, List, take, Option, Result, Ok, Err, ℤ}
use Rattle.house.specs.Words.{LotId, label_read, refusal_code, Refusal, Key, Command, Act, today, Outcome, Accepted, Repeated, Refused, outcome, acts_after, is_key_of, FileOutcome, Taken, RefusedRow, file_outcome, acts_after_file, Ask, Do, Scan, GoodsIn, Show, Query, Read, Need, Bad, Request, answer_bytes, code_text, Answer, BooksAnswer, OpenOrdersAnswer, ItemNamesAnswer, ExpiringAnswer, BinAnswer, OrderAnswer, StockAnswer, Text, PicksAnswer, FiguresAnswer}
use Rattle.label.specs.declared.gs1.Label.{Label}
use Rattle.values.specs.declared.fault.LabelFault.{LabelFault}
use Rattle.commands.specs.declared.key.Key.TheVariants.{Line}
use Rattle.commands.specs.declared.command.Command.TheVariants.{Receive}
use Rattle.machine.specs.Queries.{order_shown, short_shown, stock_shown, card_shown, notice_shown}
use Rattle.overviews.specs.Shown.{books_shown, open_orders_shown, item_names_shown, expiring_shown, bin_shown}
use Rattle.overviews.specs.Picks.{picks_shown}
use Rattle.overviews.specs.Figures.{figures_shown}
use Rattle.overviews.specs.Shown.{trace_shown}
use Rattle.goodsin.specs.Faults.{file_fault_code}
use Rattle.goodsin.specs.Files.{file_read}
use Rattle.goodsin.specs.declared.fault.FileFault.{FileFault}
use Rattle.goodsin.specs.declared.fault.FileFault.TheVariants.{Header, Row, TooManyRows, Length, Reader, Memory}
use Rattle.store.specs.Filing.{rows_of}
use Rattle.requests.specs.declared.ask.Query.TheVariants.{Books, OpenOrders, ItemNames, Expiring, Bin, Order, Stock, PickList, Shortages, Card, Notice, Picks, Figures}
pub use Rattle.wire.specs.ShortAnswers.{short_answer, fault_answer, not_served, no_memory, foreign_books, label_answer, tally_answer, row_conflict, cause_answer, cause_row_answer}
use Rattle.texts.specs.PickList.{pick_list_text}
use Rattle.texts.specs.Shortages.{shortages_text}
use Rattle.texts.specs.Card.{card_text}
use Rattle.texts.specs.Notice.{notice_text}
use Rattle.requests.specs.declared.ask.Query.TheVariants.{Trace}
use Rattle.wire.specs.declared.answer.Answer.TheVariants.{Trace as TraceAnswer}

-- the version and the status
abbrev pub status_of : List ℕ → List ℕ
status_of bytes = take 12 bytes

-- Commands

-- 200 with the reply of the act, the first time and when it comes again; 409 with the refusal's code
abbrev pub outcome_answer : Outcome → List ℕ
outcome_answer (Accepted text) = short_answer 200 text
outcome_answer (Repeated text) = short_answer 200 text
outcome_answer (Refused why) = short_answer 409 (code_text (refusal_code why))

-- the key is of the command's kind
abbrev pub is_served : Act → Bool
is_served act = is_key_of act.key act.command

-- what an act that is asked for is answered, and the acts after it
abbrev pub act_answer : ℤ → List Act → Act → List ℕ
act_answer first acts act = if is_served act then outcome_answer (outcome first acts act) else not_served

abbrev pub acts_with : ℤ → List Act → Act → List Act
acts_with first acts act = if is_served act then acts_after first acts act else acts

-- Scanned labels

-- what stands beside the label: the delivery and its line, the bin and the quantity
pub record Delivered : Type 0 where
  pub delivery : List ℕ
  pub line : ℕ
  pub bin : List ℕ
  pub qty : ℕ

-- the receipt of what the label says, under the key of its delivery and line
abbrev pub receipt : Delivered → Label → Act
receipt d label = record {
  key = Line d.delivery d.line;
  command = Receive (record { lot = record { gtin = label.gtin; lot = label.lot }; expiry = label.expiry; bin = d.bin; qty = d.qty });
}

abbrev pub scan_answer : ℤ → List Act → Delivered → Result Label LabelFault → List ℕ
scan_answer first acts d (Ok label) = act_answer first acts (receipt d label)
scan_answer first acts d (Err fault) = label_answer fault

abbrev pub acts_scanned : ℤ → List Act → Delivered → Result Label LabelFault → List Act
acts_scanned first acts d (Ok label) = acts_with first acts (receipt d label)
acts_scanned first acts d (Err fault) = acts

-- Goods-in files. A file is read at the business day; its rows are taken all or none.

-- 200 with how many rows were accepted and how many repeated, or 409 with the code and the first refused row
abbrev pub file_outcome_answer : FileOutcome → List ℕ
file_outcome_answer (Taken accepted repeated) = tally_answer accepted repeated
file_outcome_answer (RefusedRow row why) = row_conflict row why

-- 400 with the code, where a field breaks its rule with the row; 503 W90 where it could not be read
abbrev pub file_fault_answer : FileFault → List ℕ
file_fault_answer Header = cause_answer (file_fault_code Header)
file_fault_answer (Row row) = cause_row_answer (file_fault_code (Row row)) row
file_fault_answer TooManyRows = cause_answer (file_fault_code TooManyRows)
file_fault_answer Length = cause_answer (file_fault_code Length)
file_fault_answer Reader = no_memory
file_fault_answer Memory = no_memory

abbrev pub file_answer : ℤ → List Act → Result (List (Key × Command)) FileFault → List ℕ
file_answer first acts (Ok rows) = file_outcome_answer (file_outcome first acts (rows_of rows))
file_answer first acts (Err fault) = file_fault_answer fault

abbrev pub acts_filed : ℤ → List Act → Result (List (Key × Command)) FileFault → List Act
acts_filed first acts (Ok rows) = acts_after_file first acts (rows_of rows)
acts_filed first acts (Err fault) = acts

-- Queries

-- 200 with the view, or 404 with the refusal's code
abbrev pub view_answer : {V : Type 0} → (V → Answer) → Result V Refusal → List ℕ
view_answer answer (Ok view) = answer_bytes (answer view)
view_answer answer (Err why) = short_answer 404 (code_text (refusal_code why))

abbrev pub books_answer : ℤ → List Act → List ℕ
books_answer first acts = view_answer BooksAnswer (books_shown first acts)

abbrev pub open_orders_answer : ℤ → List Act → Option (List ℕ) → List ℕ
open_orders_answer first acts behind = view_answer OpenOrdersAnswer (open_orders_shown first acts behind)

abbrev pub item_names_answer : List Act → Option (List ℕ) → List ℕ
item_names_answer acts behind = view_answer ItemNamesAnswer (item_names_shown acts behind)

abbrev pub expiring_answer : ℤ → List Act → ℤ → Option LotId → List ℕ
expiring_answer first acts day behind = view_answer ExpiringAnswer (expiring_shown first acts day behind)

abbrev pub bin_answer : ℤ → List Act → List ℕ → Option LotId → List ℕ
bin_answer first acts bin behind = view_answer BinAnswer (bin_shown first acts bin behind)

abbrev pub order_answer : ℤ → List Act → List ℕ → List ℕ
order_answer first acts order = view_answer OrderAnswer (order_shown first acts order)

abbrev pub stock_answer : ℤ → List Act → List ℕ → List ℕ
stock_answer first acts gtin = view_answer StockAnswer (stock_shown first acts gtin)

abbrev pub pick_list_answer : ℤ → List Act → List ℕ → List ℕ
pick_list_answer first acts order = view_answer (λ v. Text (pick_list_text v)) (order_shown first acts order)

abbrev pub shortages_answer : ℤ → List Act → List ℕ → List ℕ
shortages_answer first acts gtin = view_answer (λ v. Text (shortages_text v)) (short_shown first acts gtin)

abbrev pub card_answer : ℤ → List Act → LotId → List ℕ
card_answer first acts l = view_answer (λ v. Text (card_text v)) (card_shown first acts l)

abbrev pub notice_answer : ℤ → List Act → LotId → List ℕ
notice_answer first acts l = view_answer (λ v. Text (notice_text v)) (notice_shown first acts l)

abbrev pub picks_answer : ℤ → List Act → List ℕ → List ℕ
picks_answer first acts order = view_answer PicksAnswer (picks_shown first acts order)

abbrev pub figures_answer : ℤ → List Act → List ℕ
figures_answer first acts = view_answer FiguresAnswer (figures_shown first acts)

abbrev pub trace_answer : ℤ → List Act → LotId → List ℕ
trace_answer first acts l = view_answer TraceAnswer (trace_shown first acts l)

abbrev pub query_answer : ℤ → List Act → Query → List ℕ
query_answer first acts Books = books_answer first acts
query_answer first acts (OpenOrders behind) = open_orders_answer first acts behind
query_answer first acts (ItemNames behind) = item_names_answer acts behind
query_answer first acts (Expiring day behind) = expiring_answer first acts day behind
query_answer first acts (Bin bin behind) = bin_answer first acts bin behind
query_answer first acts (Order order) = order_answer first acts order
query_answer first acts (Stock gtin) = stock_answer first acts gtin
query_answer first acts (PickList order) = pick_list_answer first acts order
query_answer first acts (Shortages gtin) = shortages_answer first acts gtin
query_answer first acts (Card lot) = card_answer first acts lot
query_answer first acts (Notice lot) = notice_answer first acts lot
query_answer first acts (Picks order) = picks_answer first acts order
query_answer first acts Figures = figures_answer first acts
query_answer first acts (Trace lot) = trace_answer first acts lot

-- Requests. A label and a file are read at the business day.

abbrev pub ask_answer : ℤ → List Act → Ask → List ℕ
ask_answer first acts (Do key command) = act_answer first acts (record { key = key; command = command })
ask_answer first acts (Scan delivery line label bin qty) =
    scan_answer first acts (record { delivery = delivery; line = line; bin = bin; qty = qty }) (label_read (today first acts) label)
ask_answer first acts (GoodsIn file) = file_answer first acts (file_read (today first acts) file)
ask_answer first acts (Show query) = query_answer first acts query

abbrev pub acts_asked : ℤ → List Act → Ask → List Act
acts_asked first acts (Do key command) = acts_with first acts (record { key = key; command = command })
acts_asked first acts (Scan delivery line label bin qty) =
    acts_scanned first acts (record { delivery = delivery; line = line; bin = bin; qty = qty }) (label_read (today first acts) label)
acts_asked first acts (GoodsIn file) = acts_filed first acts (file_read (today first acts) file)
acts_asked first acts (Show query) = acts

-- Readings. The text is taken as ended, so one that needs more bytes is told the fault of what is missing.

abbrev pub answer_of : ℤ → List Act → Read → List ℕ
answer_of first acts (Need e) = fault_answer e
answer_of first acts (Bad e) = fault_answer e
answer_of first acts (Request ask) = ask_answer first acts ask

abbrev pub acts_of : ℤ → List Act → Read → List Act
acts_of first acts (Need e) = acts
acts_of first acts (Bad e) = acts
acts_of first acts (Request ask) = acts_asked first acts ask
