-- The rows by which the figures of the house are shown.
use Rattle.views.specs.Words.{ℤ, true, List, Act, is_lot, is_open, line_row, recall_row, reserved_row, AreRows, same_line, same_share, Rows}
use Rattle.views.specs.ShownExpiring.{AreInHouse}
use Rattle.views.specs.ShownOpen.{AreOpen}

-- The open orders, the rows of those of them that are urgent, and their lines; all that is reserved; the stock and what is
-- staged, the lots of these, and the recalls. Other rows of the tables may be there too.
pub record AreCounted (first : ℤ) (acts : List Act) (rows : Rows) : Type 0 where
  pub open_orders : AreOpen first acts rows.orders rows.urgents
  pub lines : AreRows same_line (λ r. (r.order, r.gtin)) (λ k. is_open first acts k.0) (λ k. true) (λ k. line_row first acts k.0 k.1) rows.lines
  pub reserved : AreRows same_share (λ r. (r.order, r.lot)) (λ k. true) (λ k. true) (λ k. reserved_row first acts k.0 k.1) rows.reserved
  pub house : AreInHouse first acts rows.lots rows.stock rows.staged
  pub recalls : AreRows is_lot (λ r. r.lot) (λ l. true) (λ l. true) (recall_row acts) rows.recalls
