-- What the definitions of this crate say of what it stands on: each word from where it is defined.
pub use Rattle.std.specs.List.{cons_option, list_any}
pub use Rattle.std.specs.Prelude.{ℕ, Bool, not, List, [], take, filter, find, Option, option_map, ℤ, int_lt, nat_lt, length, map, min, Some, None, true, false}
pub use Rattle.values.specs.Values.{same_text}
pub use Rattle.values.specs.declared.lot.LotId.{LotId}
pub use Rattle.commands.specs.Lists.{total}
pub use Rattle.commands.specs.declared.command.NewBin.{NewBin}
pub use Rattle.commands.specs.declared.command.NewItem.{NewItem}
pub use Rattle.commands.specs.declared.rows.BinRow.{BinRow}
pub use Rattle.commands.specs.declared.rows.ItemRow.{ItemRow}
pub use Rattle.commands.specs.declared.rows.LeastRow.{LeastRow}
pub use Rattle.commands.specs.declared.rows.LineRow.{LineRow}
pub use Rattle.commands.specs.declared.rows.LotRow.{LotRow}
pub use Rattle.commands.specs.declared.rows.OrderClass.{OrderClass}
pub use Rattle.commands.specs.declared.rows.OrderClass.TheVariants.{Normal, Urgent}
pub use Rattle.commands.specs.declared.rows.OrderRow.{OrderRow}
pub use Rattle.commands.specs.declared.rows.OrderState.{OrderState}
pub use Rattle.commands.specs.declared.rows.OrderState.TheVariants.{Open, Done, Cancelled}
pub use Rattle.commands.specs.declared.rows.RecallRow.{RecallRow}
pub use Rattle.commands.specs.declared.rows.ReservedRow.{ReservedRow}
pub use Rattle.commands.specs.declared.rows.StagedRow.{StagedRow}
pub use Rattle.commands.specs.declared.rows.StockRow.{StockRow}
pub use Rattle.commands.specs.declared.rows.UrgentRow.{UrgentRow}
pub use Rattle.commands.specs.declared.views.BinUnits.{BinUnits}
pub use Rattle.commands.specs.declared.views.LineView.{LineView}
pub use Rattle.commands.specs.declared.views.LotView.{LotView}
pub use Rattle.commands.specs.declared.views.OrderView.{OrderView}
pub use Rattle.commands.specs.declared.views.ReservedLot.{ReservedLot}
pub use Rattle.commands.specs.declared.views.ShortLine.{ShortLine}
pub use Rattle.commands.specs.declared.views.ShortView.{ShortView}
pub use Rattle.commands.specs.declared.views.StagedLot.{StagedLot}
pub use Rattle.commands.specs.declared.views.StockView.{StockView}
pub use Rattle.machine.specs.Acts.{Act}
pub use Rattle.machine.specs.KeyedRows.{AreRows, same_cell, same_line, same_share}
pub use Rattle.machine.specs.Planning.{is_open_state, is_open, order_state}
pub use Rattle.machine.specs.Postings.{is_lot, of_item}
pub use Rattle.machine.specs.Standing.{Placed, KnownLot, lot_known, is_held, order_named, has_line}
pub use Rattle.machine.specs.Tables.{Tables, item_row, least_row, lot_row, recall_row, stock_row, staged_row, reserved_row, order_row, urgent_row, line_row}
pub use Rattle.machine.specs.Views.{text_before}
pub use Rattle.row_rules.specs.Plans.{inserted, goes_first, is_urgent_seen, staged_seen, is_store_found}
pub use Rattle.row_rules.specs.Seen.{stock_qty, lot_units, CAP, capped}
pub use Rattle.row_rules.specs.SeenLots.{stock_found}
pub use Rattle.row_rules.specs.SeenStages.{reserved_qty, staged_qty}
pub use Rattle.row_rules.specs.Status.{least_seen, status_seen}
pub use Rattle.row_rules.specs.declared.slice.Rows.{Rows}
pub use Rattle.overviews.specs.Pages.{page, goes_on, is_behind, lots_in_bin, expiring_lots, items_behind, open_orders}
pub use Rattle.overviews.specs.declared.lists.BinLot.{BinLot}
pub use Rattle.overviews.specs.declared.lists.BinView.{BinView}
pub use Rattle.overviews.specs.declared.lists.ExpiringView.{ExpiringView}
pub use Rattle.overviews.specs.declared.lists.ItemLot.{ItemLot}
pub use Rattle.overviews.specs.declared.lists.ItemNamesView.{ItemNamesView}
pub use Rattle.overviews.specs.declared.lists.NamedItem.{NamedItem}
pub use Rattle.overviews.specs.declared.lists.OpenOrder.{OpenOrder}
pub use Rattle.overviews.specs.declared.lists.OpenOrdersView.{OpenOrdersView}
pub use Rattle.overviews.specs.declared.lists.TheConstants.{PAGE_MAX, NAMES_MAX}
pub use Rattle.views.specs.declared.found_rows.FoundRows.{FoundRows}
pub use Rattle.views.specs.declared.open_orders.OrderUnits.{OrderUnits}
pub use Rattle.views.specs.declared.open_orders.ServedOrder.{ServedOrder}
pub use Rattle.views.specs.declared.order_shorts.OrderShort.{OrderShort}
pub use Rattle.views.specs.declared.stock.LotsShown.{LotsShown}
pub use Rattle.overviews.specs.declared.picks.PickLine.{PickLine}
pub use Rattle.overviews.specs.declared.picks.PicksView.{PicksView}
pub use Rattle.std.specs.Prelude.{count_by}
pub use Rattle.commands.specs.declared.views.LotStatus.{LotStatus}
pub use Rattle.machine.specs.Standing.{RETURNS}
pub use Rattle.overviews.specs.Figures.{is_short_order, is_staged_order, shows_expired, shows_held, shows_recalled}
pub use Rattle.overviews.specs.declared.figures.FiguresView.{FiguresView}
pub use Rattle.overviews.specs.declared.figures.LotFigures.{LotFigures}
pub use Rattle.overviews.specs.declared.figures.OpenFigures.{OpenFigures}
pub use Rattle.overviews.specs.declared.figures.UnitFigures.{UnitFigures}
