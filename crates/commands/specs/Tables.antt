-- The tables of the books, each as a look-up by its primary key.
use Rattle.std.specs.Prelude.{ℕ, List, Option}
use Rattle.values.specs.declared.lot.LotId.{LotId}
use Rattle.commands.specs.declared.rows.MetaRow.{MetaRow}
use Rattle.commands.specs.declared.rows.ItemRow.{ItemRow}
use Rattle.commands.specs.declared.rows.LeastRow.{LeastRow}
use Rattle.commands.specs.declared.rows.BinRow.{BinRow}
use Rattle.commands.specs.declared.rows.LotRow.{LotRow}
use Rattle.commands.specs.declared.rows.RecallRow.{RecallRow}
use Rattle.commands.specs.declared.rows.StockRow.{StockRow}
use Rattle.commands.specs.declared.rows.OrderRow.{OrderRow}
use Rattle.commands.specs.declared.rows.UrgentRow.{UrgentRow}
use Rattle.commands.specs.declared.rows.LineRow.{LineRow}
use Rattle.commands.specs.declared.rows.StagedRow.{StagedRow}
use Rattle.commands.specs.declared.rows.ReservedRow.{ReservedRow}
use Rattle.commands.specs.declared.rows.ShipmentRow.{ShipmentRow}
use Rattle.commands.specs.declared.rows.ShiplineRow.{ShiplineRow}
use Rattle.commands.specs.declared.rows.CardRow.{CardRow}
use Rattle.commands.specs.declared.rows.RepeatRow.{RepeatRow}

-- `meta` is the one row of its table; its mark and its schema number are the same in all books, so the typed row leaves
-- them out
pub record Tables : Type 0 where
  pub meta : Option MetaRow
  pub item : (gtin : List ℕ) → Option ItemRow
  pub least : (gtin : List ℕ) → Option LeastRow
  pub bin : (name : List ℕ) → Option BinRow
  pub lot : LotId → Option LotRow
  pub recall : LotId → Option RecallRow
  pub stock : LotId → (bin : List ℕ) → Option StockRow
  pub order : (order : List ℕ) → Option OrderRow
  pub urgent : (order : List ℕ) → Option UrgentRow
  pub line : (order gtin : List ℕ) → Option LineRow
  pub staged : (order : List ℕ) → LotId → Option StagedRow
  pub reserved : (order : List ℕ) → LotId → Option ReservedRow
  pub shipment : (number : ℕ) → Option ShipmentRow
  pub shipline : (number : ℕ) → LotId → Option ShiplineRow
  pub card : LotId → (act : ℕ) → Option CardRow
  pub repeat : (k : List ℕ) → Option RepeatRow
