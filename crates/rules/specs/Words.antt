-- What the definitions of this crate say of what it stands on: each word from where it is defined.
pub use Rattle.std.specs.List.{list_all, list_any, cons_option}
pub use Rattle.std.specs.Prelude.{ℕ, List, [], nat_le, not, filter, flat_map, Option, Some, None, suc, min, Bool, nat_lt, ℤ, pos, negsuc, int_lt, int_le, true, false, map, find, decimal, neg_ℤ, length, Result, Ok, Err, IsTrue, option_map, is_some}
pub use Rattle.values.specs.Values.{same_text}
pub use Rattle.values.specs.declared.lot.LotId.{LotId}
pub use Rattle.label.specs.Days.{is_business_day}
pub use Rattle.commands.specs.Lists.{total}
pub use Rattle.commands.specs.Names.{names_of, is_picked, is_shipped}
pub use Rattle.commands.specs.Replies.{reply_text}
pub use Rattle.commands.specs.declared.command.Adjustment.{Adjustment}
pub use Rattle.commands.specs.declared.command.BinKind.TheVariants.{Hold as HoldBin}
pub use Rattle.commands.specs.declared.command.Command.{Command}
pub use Rattle.commands.specs.declared.command.Command.TheVariants.{Item, Bin, Receive, Move, Count, Adjust, Order, Cancel, Pick, Unpick, Ship, Hold, Release, Recall, OpenDay, Least, Urgent}
pub use Rattle.commands.specs.declared.command.Movement.{Movement}
pub use Rattle.commands.specs.declared.command.NewBin.{NewBin}
pub use Rattle.commands.specs.declared.command.NewItem.{NewItem}
pub use Rattle.commands.specs.declared.command.NewLeast.{NewLeast}
pub use Rattle.commands.specs.declared.command.NewOrder.{NewOrder}
pub use Rattle.commands.specs.declared.command.OrderLine.{OrderLine}
pub use Rattle.commands.specs.declared.command.Picking.{Picking}
pub use Rattle.commands.specs.declared.command.Receipt.{Receipt}
pub use Rattle.commands.specs.declared.command.Recount.{Recount}
pub use Rattle.commands.specs.declared.key.Key.{Key}
pub use Rattle.commands.specs.declared.limits.TheConstants.{ACTS_MAX, UNITS_MAX, OPEN_MAX, ITEMS_MAX, BINS_MAX, ORDER_LINES_MAX}
pub use Rattle.commands.specs.declared.names.Added.{Added}
pub use Rattle.commands.specs.declared.names.NamedOrder.{NamedOrder}
pub use Rattle.commands.specs.declared.names.OrderStep.{OrderStep}
pub use Rattle.commands.specs.declared.refusal.Refusal.{Refusal}
pub use Rattle.commands.specs.declared.refusal.Refusal.TheVariants.{ActsFull, UnknownOrder, OrderClosed, StillStaged, UnknownItem, UnknownBin, UnknownLot, NotInBin, OverUnits, DayNotLater, LotRecalled, LotHeld, LotNotHeld, AlreadyRecalled, SameBin, OrderExists, ItemTwice, OverOrdered, NoSuchLine, LotExpired, TooFewDays, NotStoreBin, OverReserved, OverStaged, OtherExpiry, ItemExists, BinExists, NothingStaged}
pub use Rattle.commands.specs.declared.replies.ReplyField.TheVariants.{ChangedBy, Returned, UnitsShort, ShipmentNumber}
pub use Rattle.commands.specs.declared.rows.BinRow.{BinRow}
pub use Rattle.commands.specs.declared.rows.CardKind.{CardKind}
pub use Rattle.commands.specs.declared.rows.CardKind.TheVariants.{WriteOn, WriteOff as WrittenOff, Receipt as ReceiptCard, Shipment}
pub use Rattle.commands.specs.declared.rows.CardRow.{CardRow}
pub use Rattle.commands.specs.declared.rows.LeastRow.{LeastRow}
pub use Rattle.commands.specs.declared.rows.LineRow.{LineRow}
pub use Rattle.commands.specs.declared.rows.LotRow.{LotRow}
pub use Rattle.commands.specs.declared.rows.MetaRow.{MetaRow}
pub use Rattle.commands.specs.declared.rows.OrderRow.{OrderRow}
pub use Rattle.commands.specs.declared.rows.OrderState.TheVariants.{Cancelled, Open, Done}
pub use Rattle.commands.specs.declared.rows.RecallRow.{RecallRow}
pub use Rattle.commands.specs.declared.rows.ReservedRow.{ReservedRow}
pub use Rattle.commands.specs.declared.rows.ShiplineRow.{ShiplineRow}
pub use Rattle.commands.specs.declared.rows.ShipmentRow.{ShipmentRow}
pub use Rattle.commands.specs.declared.rows.StagedRow.{StagedRow}
pub use Rattle.commands.specs.declared.rows.StockRow.{StockRow}
pub use Rattle.commands.specs.declared.rows.UrgentRow.{UrgentRow}
pub use Rattle.plan.specs.Changes.{IsPicked}
pub use Rattle.plan.specs.Overlap.{reserved_for, reserved_in}
pub use Rattle.plan.specs.declared.Demand.{Demand}
pub use Rattle.plan.specs.declared.Row.{Row}
pub use Rattle.plan.specs.declared.Supply.{Supply}
pub use Rattle.machine.specs.Acts.{Act}
pub use Rattle.machine.specs.Cards.{delivery_note}
pub use Rattle.machine.specs.KeyedRows.{LotBin, OrderLot, same_cell, same_share, no_two, AreRows, same_line}
pub use Rattle.machine.specs.Once.{IsSoundRequest, IsHistory, bearer}
pub use Rattle.machine.specs.Planning.{in_bin, units_in_house, open_units, is_open}
pub use Rattle.machine.specs.Postings.{is_lot, Place, InBin, Stage, Posting, Supplier, Shipped, WriteOff}
pub use Rattle.machine.specs.Replies.{reply}
pub use Rattle.machine.specs.Standing.{RETURNS, is_expired, items, bins, lines_of}
pub use Rattle.machine.specs.Tables.{Tables, repeat_row}
unfoldable pub use Rattle.machine.specs.Tables.{tables_of}
pub use Rattle.machine.specs.Touched.{is_touched}
pub use Rattle.machine.specs.Verdict.{Judgement, taken_off, put_on, names_item_twice, first_refusal, judgement, verdict}
pub use Rattle.row_rules.specs.OpenLines.{open_units_among}
pub use Rattle.row_rules.specs.Plans.{plan_within, named_rows, is_store_found, staged_seen, demands_seen, supplies_seen}
pub use Rattle.row_rules.specs.Replanning.{item_replanned}
pub use Rattle.row_rules.specs.Seen.{capped, number_seen, staged_units, meta_after, plain_reply, none_put, none_dropped, sees_item, sees_bin, units_seen, lot_units, lot_seen, sees_recall, expires_otherwise_than, is_over, stock_qty}
pub use Rattle.row_rules.specs.SeenLots.{sees_lot, in_bin_seen, sees_hold, stock_put, stock_rows_with, stock_found}
pub use Rattle.row_rules.specs.SeenOrders.{order_row_seen, sees_order, sees_open, staged_for_seen, items_seen, sees_line, lines_seen}
pub use Rattle.row_rules.specs.SeenStages.{reserved_found, reserved_seen, reserved_put, reserved_gone, staged_found, on_stage_seen}
pub use Rattle.row_rules.specs.Status.{earliest_seen, is_past_row, is_below_row, least_seen, may_ship}
pub use Rattle.row_rules.specs.declared.indexed.SuppliesIndexed.{SuppliesIndexed}
pub use Rattle.row_rules.specs.declared.replanning.Replanned.{Replanned}
pub use Rattle.row_rules.specs.declared.slice.Change.{Change}
pub use Rattle.row_rules.specs.declared.slice.Put.{Put}
pub use Rattle.row_rules.specs.declared.slice.Rows.{Rows}
pub use Rattle.row_rules.specs.declared.slice.RuleFault.{RuleFault}
pub use Rattle.row_rules.specs.declared.slice.RuleFault.TheVariants.{Refused, NoMemory, Foreign}
pub use Rattle.row_rules.specs.declared.slice.Slice.{Slice}
