-- What a decision reads of the rows of its slice, as the code reads it: look-ups and sums over lists.
use Rattle.std.specs.Prelude.{ℕ, ◌+◌, min, Bool, false, not, ◌&&◌, nat_lt, if◌then◌else◌, List, [], find, Option, Some, None, is_some, ℤ, int_le}
use Rattle.std.specs.List.{list_any}
use Rattle.row_rules.specs.Words.{same_text, LotId, total, LotRow, RecallRow, StockRow, StagedRow, is_lot, of_item}
use Rattle.commands.specs.Replies.{reply_text}
use Rattle.commands.specs.declared.limits.TheConstants.{UNITS_MAX}
use Rattle.commands.specs.declared.rows.MetaRow.{MetaRow}
use Rattle.row_rules.specs.declared.slice.Put.{Put}
use Rattle.row_rules.specs.declared.slice.Dropped.{Dropped}
use Rattle.row_rules.specs.declared.slice.Slice.{Slice}

-- what a sum is held at
abbrev pub CAP : ℕ
CAP = 18_446_744_073_709_551_615

abbrev pub capped : ℕ → ℕ
capped n = min n CAP

-- Items, bins and lots

abbrev pub sees_item : Slice → List ℕ → Bool
sees_item s g = is_some (find (λ i. same_text g i.gtin) s.rows.items)

abbrev pub sees_bin : Slice → List ℕ → Bool
sees_bin s b = is_some (find (λ r. same_text b r.name) s.rows.bins)

abbrev pub lot_seen : Slice → LotId → Option LotRow
lot_seen s l = find (λ k. is_lot l k.lot) s.rows.lots

abbrev pub expires_otherwise_than : Option LotRow → ℤ → Bool
expires_otherwise_than None expiry = false
expires_otherwise_than (Some k) expiry = not (int_le k.expiry expiry && int_le expiry k.expiry)

abbrev pub sees_recall : Slice → LotId → Bool
sees_recall s l = is_some (find (λ k. is_lot l k.lot) s.rows.recalls)

-- one of the recalls is the lot's
abbrev pub has_recall : List RecallRow → LotId → Bool
has_recall recalls l = list_any (λ r. is_lot l r.lot) recalls

-- Units of an item

abbrev pub stock_units : List ℕ → List StockRow → ℕ
stock_units g rows = total (λ r. if of_item g r.lot then r.qty else 0) rows

abbrev pub staged_units : List ℕ → List StagedRow → ℕ
staged_units g rows = total (λ r. if of_item g r.lot then r.qty else 0) rows

abbrev pub units_seen : Slice → List ℕ → ℕ
units_seen s g = capped (capped (stock_units g s.rows.stock) + capped (staged_units g s.rows.staged))

-- with `more` units the item would exceed the limit
abbrev pub is_over : Slice → List ℕ → ℕ → Bool
is_over s g more = nat_lt UNITS_MAX (capped (units_seen s g + more))

-- The act that is decided

abbrev pub number_seen : Slice → ℕ
number_seen s = capped (s.meta.acts + 1)

-- the row of `meta` after a command that neither opens a day nor ships
abbrev pub meta_after : Slice → MetaRow
meta_after s = record { day = s.meta.day; acts = number_seen s; shipments = s.meta.shipments }

-- the reply with nothing beside the number
abbrev pub plain_reply : Slice → List ℕ
plain_reply s = reply_text (number_seen s) None

-- Changes

abbrev pub none_put : Put
none_put = record {
  items = [];
  bins = [];
  lots = [];
  recalls = [];
  stock = [];
  orders = [];
  lines = [];
  staged = [];
  reserved = [];
  shipments = [];
  shiplines = [];
  cards = [];
  least = [];
  urgents = [];
}

abbrev pub none_dropped : Dropped
none_dropped = record { stock = []; stage = None; staged = []; reserved = [] }

-- Balances of a lot

abbrev pub stock_qty : Option StockRow → ℕ
stock_qty None = 0
stock_qty (Some r) = r.qty

-- the units of a lot in bins and on stages
abbrev pub lot_units : LotId → List StockRow → List StagedRow → ℕ
lot_units l stock staged = capped (capped (total (λ r. if is_lot l r.lot then r.qty else 0) stock) + capped (total (λ r. if is_lot l r.lot then r.qty else 0) staged))
