-- What queries are answered: a view, or the first refusal.
use Rattle.std.specs.Prelude.{ℕ, if◌then◌else◌, List, Option, Some, None, Result, Ok, Err, ℤ}
use Rattle.machine.specs.Words.{LotId, Refusal, UnknownItem, UnknownLot, UnknownOrder, NoNotice, StockView, OrderView, ShortView, CardView, NoticeView}
use Rattle.machine.specs.Acts.{Act}
use Rattle.machine.specs.Standing.{lot_known, is_recalled, order_named}
use Rattle.machine.specs.Tables.{item_row}
use Rattle.machine.specs.Views.{stock_view, order_view, short_view, card_view, notice_view}

-- the value that f makes of what is known, or the refusal
abbrev pub if_known : {A B : Type 0} → Option A → Refusal → (A → Result B Refusal) → Result B Refusal
if_known None refusal f = Err refusal
if_known (Some a) refusal f = f a

abbrev pub stock_shown : ℤ → List Act → List ℕ → Result StockView Refusal
stock_shown first acts g = if_known (item_row acts g) UnknownItem (λ item. Ok (stock_view first acts item))

abbrev pub order_shown : ℤ → List Act → List ℕ → Result OrderView Refusal
order_shown first acts o = if_known (order_named acts o) UnknownOrder (λ p. Ok (order_view first acts p))

abbrev pub short_shown : ℤ → List Act → List ℕ → Result ShortView Refusal
short_shown first acts g = if_known (item_row acts g) UnknownItem (λ item. Ok (short_view first acts item))

abbrev pub card_shown : ℤ → List Act → LotId → Result CardView Refusal
card_shown first acts l =
    if_known (item_row acts l.gtin) UnknownItem (λ item. if_known (lot_known acts l) UnknownLot (λ k. Ok (card_view first acts item k)))

abbrev pub notice_shown : ℤ → List Act → LotId → Result NoticeView Refusal
notice_shown first acts l =
    if_known (item_row acts l.gtin) UnknownItem
    (λ item. if is_recalled acts l then Ok (notice_view first acts item l) else Err NoNotice)
