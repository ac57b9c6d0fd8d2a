-- What the definitions of this crate say of what it stands on: each word from where it is defined.
pub use Rattle.values.specs.declared.lot.LotId.{LotId}
pub use Rattle.commands.specs.Names.{names_of}
pub use Rattle.commands.specs.Tables.{Tables}
pub use Rattle.commands.specs.declared.command.Command.{Command}
pub use Rattle.commands.specs.declared.limits.TheConstants.{ITEMS_MAX, BINS_MAX}
pub use Rattle.commands.specs.declared.rows.BinRow.{BinRow}
pub use Rattle.commands.specs.declared.rows.ItemRow.{ItemRow}
pub use Rattle.commands.specs.declared.rows.LeastRow.{LeastRow}
pub use Rattle.commands.specs.declared.rows.LineRow.{LineRow}
pub use Rattle.commands.specs.declared.rows.LotRow.{LotRow}
pub use Rattle.commands.specs.declared.rows.MetaRow.{MetaRow}
pub use Rattle.commands.specs.declared.rows.OrderRow.{OrderRow}
pub use Rattle.commands.specs.declared.rows.RecallRow.{RecallRow}
pub use Rattle.commands.specs.declared.rows.ReservedRow.{ReservedRow}
pub use Rattle.commands.specs.declared.rows.StagedRow.{StagedRow}
pub use Rattle.commands.specs.declared.rows.StockRow.{StockRow}
pub use Rattle.commands.specs.declared.rows.UrgentRow.{UrgentRow}
pub use Rattle.machine.specs.Acts.{Act}
pub use Rattle.machine.specs.Tables.{tables_of}
pub use Rattle.row_rules.specs.declared.slice.Put.{Put}
pub use Rattle.rows_in_memory.specs.KnownRows.{RowMap, rows_at, KnowsNone, ChangesAt, ChangesBy, SetsBy, Remembers, with_put, without_row, ForgetsBy}
pub use Rattle.table_words.specs.Found.{AreRows, only_if}
pub use Rattle.table_words.specs.Steps.{IsReady}
pub use Rattle.table_words.specs.Typed.{tables_in, AreTyped, same_lot_id, LotKey, same_lot, lot_key, StockKey, same_stock, stock_key, ItemKey, same_item, item_key, least_key, BinKey, same_bin, bin_key, recall_key, OrderKey, same_order, order_key, is_open_order, urgent_key, LineKey, same_line, line_key, StagedKey, same_staged, staged_key, ReservedKey, same_reserved, reserved_key}
pub use Rattle.tables.specs.Least.{AreLeastOf, is_asking}
