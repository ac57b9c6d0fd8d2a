-- What the definitions of this crate say of what it stands on: each word from where it is defined.
pub use Rattle.values.specs.Values.{same_text}
pub use Rattle.values.specs.declared.lot.LotId.{LotId}
pub use Rattle.commands.specs.Lists.{total, placed}
pub use Rattle.commands.specs.declared.rows.BinRow.{BinRow}
pub use Rattle.commands.specs.declared.rows.LeastRow.{LeastRow}
pub use Rattle.commands.specs.declared.rows.LineRow.{LineRow}
pub use Rattle.commands.specs.declared.rows.LotRow.{LotRow}
pub use Rattle.commands.specs.declared.rows.OrderRow.{OrderRow}
pub use Rattle.commands.specs.declared.rows.RecallRow.{RecallRow}
pub use Rattle.commands.specs.declared.rows.ReservedRow.{ReservedRow}
pub use Rattle.commands.specs.declared.rows.StagedRow.{StagedRow}
pub use Rattle.commands.specs.declared.rows.StockRow.{StockRow}
pub use Rattle.commands.specs.declared.rows.UrgentRow.{UrgentRow}
pub use Rattle.plan.specs.Overlap.{plan_rows, demand_total}
pub use Rattle.plan.specs.declared.Demand.{Demand}
pub use Rattle.plan.specs.declared.Row.{Row}
pub use Rattle.plan.specs.declared.Supply.{Supply}
pub use Rattle.plan.specs.declared.TheConstants.{SUM_MAX}
pub use Rattle.machine.specs.Planning.{is_open_state}
pub use Rattle.machine.specs.Postings.{is_lot, of_item}
pub use Rattle.machine.specs.Standing.{is_store_kind, is_expired, is_short_dated}
