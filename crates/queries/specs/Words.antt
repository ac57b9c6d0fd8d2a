-- What the definitions of this crate say of what it stands on: each word from where it is defined.
pub use Rattle.std.specs.Prelude.{Option, IfSome, ℕ, List, Some, None, Result, Ok, Err, ℤ, is_some, option_map, refl, Bool, true, false, pos, neg_ℤ, decimal, filter, [], IsSomeAnd, Vec, length, map, take}
pub use Rattle.std.proofs.Common.{ap, sym, subst, ◌∙◌, Global, inl, inr}
pub use Rattle.std.proofs.lemmas.Option.{same_Some}
pub use Rattle.values.specs.Values.{same_text}
pub use Rattle.values.specs.declared.lot.LotId.{LotId}
pub use Rattle.commands.specs.Tables.{Tables}
pub use Rattle.commands.specs.declared.command.NewBin.{NewBin}
pub use Rattle.commands.specs.declared.command.NewItem.{NewItem}
pub use Rattle.commands.specs.declared.limits.TheConstants.{ACTS_MAX}
pub use Rattle.commands.specs.declared.refusal.Refusal.{Refusal}
pub use Rattle.commands.specs.declared.refusal.Refusal.TheVariants.{UnknownItem, UnknownLot, UnknownOrder, NoNotice, UnknownBin}
pub use Rattle.commands.specs.declared.rows.BinRow.{BinRow}
pub use Rattle.commands.specs.declared.rows.CardKind.{CardKind}
pub use Rattle.commands.specs.declared.rows.CardKind.TheVariants.{Receipt, WriteOn, WriteOff, Shipment}
pub use Rattle.commands.specs.declared.rows.CardRow.{CardRow}
pub use Rattle.commands.specs.declared.rows.ItemRow.{ItemRow}
pub use Rattle.commands.specs.declared.rows.LeastRow.{LeastRow}
pub use Rattle.commands.specs.declared.rows.LineRow.{LineRow}
pub use Rattle.commands.specs.declared.rows.LotRow.{LotRow}
pub use Rattle.commands.specs.declared.rows.MetaRow.{MetaRow}
pub use Rattle.commands.specs.declared.rows.OrderRow.{OrderRow}
pub use Rattle.commands.specs.declared.rows.RecallRow.{RecallRow}
pub use Rattle.commands.specs.declared.rows.ReservedRow.{ReservedRow}
pub use Rattle.commands.specs.declared.rows.ShiplineRow.{ShiplineRow}
pub use Rattle.commands.specs.declared.rows.ShipmentRow.{ShipmentRow}
pub use Rattle.commands.specs.declared.rows.StagedRow.{StagedRow}
pub use Rattle.commands.specs.declared.rows.StockRow.{StockRow}
pub use Rattle.commands.specs.declared.rows.UrgentRow.{UrgentRow}
pub use Rattle.commands.specs.declared.views.CardView.{CardView}
pub use Rattle.commands.specs.declared.views.NoticeView.{NoticeView}
pub use Rattle.commands.specs.declared.views.OrderView.{OrderView}
pub use Rattle.commands.specs.declared.views.ShippedUnits.{ShippedUnits}
pub use Rattle.commands.specs.declared.views.ShortView.{ShortView}
pub use Rattle.commands.specs.declared.views.StockView.{StockView}
pub use Rattle.machine.specs.Acts.{Act}
pub use Rattle.machine.specs.Planning.{order_state, is_open_state}
pub use Rattle.machine.specs.Postings.{is_lot}
pub use Rattle.machine.specs.Queries.{card_shown, if_known, order_shown, stock_shown, short_shown, notice_shown}
pub use Rattle.machine.specs.Standing.{Placed, order_named, KnownLot, Recalling, lot_known, recalling, is_held, bin_named, item_named}
pub use Rattle.machine.specs.Tables.{item_row, meta_row}
unfoldable pub use Rattle.machine.specs.Tables.{tables_of}
pub use Rattle.machine.specs.Views.{order_view, stock_view, short_view, card_view, notice_view, bins_of_lot, shipments_of_lot, card_of_lot}
pub use Rattle.row_rules.specs.declared.slice.Rows.{Rows}
pub use Rattle.overviews.specs.Pages.{page, bin_view, expiring_view, item_names_view, open_orders_view}
pub use Rattle.overviews.specs.Shown.{bin_shown, books_shown, expiring_shown, item_names_shown, open_orders_shown}
pub use Rattle.overviews.specs.declared.lists.BinView.{BinView}
pub use Rattle.overviews.specs.declared.lists.BooksView.{BooksView}
pub use Rattle.overviews.specs.declared.lists.ExpiringView.{ExpiringView}
pub use Rattle.overviews.specs.declared.lists.ItemNamesView.{ItemNamesView}
pub use Rattle.overviews.specs.declared.lists.OpenOrdersView.{OpenOrdersView}
pub use Rattle.overviews.specs.declared.lists.TheConstants.{NAMES_MAX}
pub use Rattle.views.specs.GivenBin.{bin_and_more}
pub use Rattle.views.specs.GivenExpiring.{lots_and_more}
pub use Rattle.views.specs.GivenNames.{items_and_more}
pub use Rattle.views.specs.GivenOpen.{page_and_more}
pub use Rattle.views.specs.ShownExpiring.{known_row}
pub use Rattle.views.specs.ShownNames.{row_of_item}
pub use Rattle.views.specs.declared.open_orders.ServedOrder.{ServedOrder}
pub use Rattle.rows_in_memory.specs.Keys.{with_keys}
pub use Rattle.rows_in_memory.specs.OpenLines.{Entries, all_names}
pub use Rattle.table_words.specs.Found.{AreRows, only_if}
pub use Rattle.table_words.specs.Typed.{StagedKey, same_staged, staged_key, ReservedKey, same_reserved, reserved_key, ItemKey, same_item, item_key, LotKey, same_lot, recall_key, StockKey, same_stock, stock_key, OrderKey, same_order, order_key, is_open_order, urgent_key, LineKey, same_line, line_key, least_key, lot_key}
pub use Rattle.tables.specs.ByKey.{AreCardLines}
pub use Rattle.tables.specs.Stock.{AreStockIn, AreStockOfLot}
pub use Rattle.slices.specs.ByLot.{AreLotsOf, AreStockOf}
pub use Rattle.slices.specs.Reading.{Knowing}
pub use Rattle.slices.specs.Remembering.{KnowsRows}
pub use Rattle.slices.specs.Slicing.{HoldsOf, Each, AreLeast, items_of_lots, AreAllLines, AreUrgents, AreOrders, with_names, AreBins, AreOpen, AreKnownOrders, AreUrgentsFor, AreBooked}
pub use Rattle.slices.specs.declared.knowing.Known.{Known}
pub use Rattle.slices.specs.declared.rows_known.RowsKnown.{RowsKnown}
pub use Rattle.queries.specs.declared.shown_notice.NoticeRows.{NoticeRows}
pub use Rattle.queries.specs.declared.shown_trace.TraceRows.{TraceRows}
pub use Rattle.overviews.specs.Picks.{picks_shown, picks_view}
pub use Rattle.overviews.specs.declared.picks.PicksView.{PicksView}
pub use Rattle.overviews.specs.Figures.{figures_shown, figures_view}
pub use Rattle.commands.specs.declared.rows.ReservedRow.{ReservedRow}
