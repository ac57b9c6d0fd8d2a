-- The rows by which the recall notice of a lot is shown.
use Rattle.std.specs.Prelude.{◌≡◌}
use Rattle.queries.specs.Words.{ℤ, List, Option, Some, None, option_map, Result, Ok, Err, LotId, Tables, Refusal, UnknownItem, NoNotice, ItemRow, LotRow, RecallRow, NoticeView, Act, notice_shown, AreStockOfLot, NoticeRows}
use Rattle.queries.specs.Shipped.{AreShipped}

-- the item and the day of expiry, which is none where the lot never came, or the refusal
abbrev pub head_of : Option ItemRow → Option RecallRow → Option LotRow → Result (ItemRow × Option ℤ) Refusal
head_of None recall lot = Err UnknownItem
head_of (Some item) None lot = Err NoNotice
head_of (Some item) (Some recall) lot = Ok (item, option_map (λ (row : LotRow). row.expiry) lot)

abbrev pub head_in : Tables → LotId → Result (ItemRow × Option ℤ) Refusal
head_in t l = head_of (t.item l.gtin) (t.recall l) (t.lot l)

-- these with the stock of the lot and its shipments, or the refusal
abbrev pub IsNoticeIn : LotId → Tables → Result NoticeRows Refusal → Type 0
IsNoticeIn l t (Err why) = Err why ≡ head_in t l
IsNoticeIn l t (Ok found) = (Ok (found.item, found.expiry) ≡ head_in t l) × AreStockOfLot l t found.stock.items × AreShipped l t found.shipments

-- a notice is shown whole
abbrev pub whole : {V : Type 0} → Result V Refusal → Result (Option V) Refusal
whole (Ok view) = Ok (Some view)
whole (Err why) = Err why

abbrev pub whole_notice_shown : ℤ → List Act → LotId → Result (Option NoticeView) Refusal
whole_notice_shown first acts l = whole (notice_shown first acts l)
