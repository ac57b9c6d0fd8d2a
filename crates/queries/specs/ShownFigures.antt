-- The rows by which the figures of the house are shown.
use Rattle.std.specs.Prelude.{◌≡◌}
use Rattle.queries.specs.Words.{ℤ, true, List, map, Option, Some, Result, Ok, Err, Tables, Refusal, LineRow, MetaRow, OrderRow, RecallRow, ReservedRow, UrgentRow, Act, tables_of, figures_shown, AreRows, order_key, LotKey, same_lot, recall_key, ReservedKey, same_reserved, reserved_key, Rows, AreAllLines, AreUrgents, Known}
use Rattle.queries.specs.Asked.{IsKnownOf}
use Rattle.queries.specs.ShownExpiring.{AreHouse}
use Rattle.queries.specs.ShownOpen.{AreAllOpen}

abbrev pub AreAllReserved : Tables → List ReservedRow → Type 0
AreAllReserved t rows = AreRows {K = ReservedKey} same_reserved reserved_key (λ k. true) (λ k. t.reserved k.0 k.1) rows

abbrev pub AreAllRecalls : Tables → List RecallRow → Type 0
AreAllRecalls t rows = AreRows {K = LotKey} same_lot recall_key (λ k. true) t.recall rows

-- all open orders, the rows of the urgent ones among them, their lines, and all that is reserved
pub record AreOpenRows (known : Option Known) (t : Tables) (orders : List OrderRow) (urgents : List UrgentRow) (lines : List LineRow) (reserved : List ReservedRow) : Type 0 where
  pub all_open : AreAllOpen known t orders
  pub are_urgent : AreUrgents (map order_key orders) t urgents
  pub all_lines : AreAllLines (map order_key orders) t lines
  pub all_reserved : AreAllReserved t reserved

-- these, what is in the house, all recalls, and the row of `meta`
pub record AreFigures (known : Option Known) (t : Tables) (meta : MetaRow) (rows : Rows) : Type 0 where
  pub open_rows : AreOpenRows known t rows.orders rows.urgents rows.lines rows.reserved
  pub house : AreHouse t rows.lots rows.stock rows.staged
  pub recalls : AreAllRecalls t rows.recalls
  pub is_meta : t.meta ≡ Some meta

-- by something that is known of the books
pub record AreFiguresOf (t : Tables) (meta : MetaRow) (rows : Rows) : Type 0 where
  pub known : Option Known
  pub is_known : IsKnownOf known t
  pub are : AreFigures known t meta rows

-- it is never refused
abbrev pub AreFiguresIn : Tables → Result (MetaRow × Rows) Refusal → Type 0
AreFiguresIn t (Err why) = ⊥
AreFiguresIn t (Ok found) = AreFiguresOf t found.0 found.1

pub figures_refused : (first : ℤ) (acts : List Act) (why : Refusal) → AreFiguresIn (tables_of first acts) (Err why) → figures_shown first acts ≡ Err why
figures_refused first acts why none = absurd none
