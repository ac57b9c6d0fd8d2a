-- What the proofs of this crate say of what it stands on: each word from where it is defined.
pub use Rattle.std.specs.Cmp.Lexicographic.{bytes_decides, same_text as equal_texts}
pub use Rattle.std.specs.List.{list_any, AllByRecursion, list_all, cons_option}
pub use Rattle.std.specs.Prelude.{◌||◌, if◌then◌else◌, Some, find, is_some, filter, map, reverse, ◌==◌, nat_lt, Option, codes, ℤ, pos, None, IsTrue, zero, negsuc, Ok, Err, nat_le, int_le, flat_map, neg_ℤ, unsigned_abs, int_lt, option_map, ◌+ℤ◌, nat_eq}
pub use Rattle.std.proofs.Common.{◌≡◌, Bool, true, false, List, [], ◌∷◌, refl, ap, ◌∙◌, ◌++◌, sym, ℕ, ◌+◌, ◌≤◌, ◌<◌, ◌&&◌, arith, eq-eqb, not, subst, suc, length, ◌-◌, cond, append_assoc, lit≤}
pub use Rattle.std.proofs.lemmas.Bool.{eqb-true}
pub use Rattle.std.proofs.lemmas.Bool.Decides.{nat_tests}
pub use Rattle.std.proofs.lemmas.Int.{ints}
pub use Rattle.std.proofs.lemmas.List.{reverse-append}
pub use Rattle.values.specs.Values.{same_text, is_gtin, is_least_days, QTY_MAX, is_qty, is_name, is_title}
pub use Rattle.values.specs.declared.lot.LotId.{LotId}
pub use Rattle.label.specs.Days.{day_text}
unfoldable pub use Rattle.label.specs.Days.{date_of, date_after, date_in_year}
pub use Rattle.commands.specs.Cards.{rest_after}
pub use Rattle.commands.specs.Limits.{has_order_lines}
pub use Rattle.commands.specs.Lists.{total, placed, in_order}
pub use Rattle.commands.specs.Schemas.{asking_none}
pub use Rattle.commands.specs.Sound.{is_sound, is_sound_key, is_new_order, is_order_line, are_lines, is_lot_id}
pub use Rattle.commands.specs.Spelling.{key_text}
unfoldable pub use Rattle.commands.specs.Spelling.{spelling}
pub use Rattle.commands.specs.declared.command.Adjustment.{Adjustment}
pub use Rattle.commands.specs.declared.command.BinKind.TheVariants.{Store, Hold as HoldBin}
pub use Rattle.commands.specs.declared.command.Command.{Command}
pub use Rattle.commands.specs.declared.command.Command.TheVariants.{Item, Bin, Receive, Move, Order, Pick, Recall, OpenDay, Least, Count, Adjust, Cancel, Unpick, Ship, Hold, Release, Urgent}
pub use Rattle.commands.specs.declared.command.Movement.{Movement}
pub use Rattle.commands.specs.declared.command.NewBin.{NewBin}
pub use Rattle.commands.specs.declared.command.NewItem.{NewItem}
pub use Rattle.commands.specs.declared.command.NewLeast.{NewLeast}
pub use Rattle.commands.specs.declared.command.NewOrder.{NewOrder}
pub use Rattle.commands.specs.declared.command.OrderLine.{OrderLine}
pub use Rattle.commands.specs.declared.command.Picking.{Picking}
pub use Rattle.commands.specs.declared.command.Receipt.{Receipt}
pub use Rattle.commands.specs.declared.command.Recount.{Recount}
pub use Rattle.commands.specs.declared.key.Key.{Key}
pub use Rattle.commands.specs.declared.key.Key.TheVariants.{Plain, Line}
pub use Rattle.commands.specs.declared.limits.TheConstants.{ITEMS_MAX, BINS_MAX, UNITS_MAX, OPEN_MAX, ACTS_MAX}
pub use Rattle.commands.specs.declared.refusal.Refusal.{Refusal}
pub use Rattle.commands.specs.declared.refusal.Refusal.TheVariants.{KeyUsed, OverReserved, UnknownBin, TooFewDays, UnknownItem, OverUnits, LotExpired, NotInBin, SameBin, StillStaged, OverStaged, LotRecalled, DayNotLater, NoNotice, OrderExists}
pub use Rattle.commands.specs.declared.rows.CardKind.{CardKind}
pub use Rattle.commands.specs.declared.rows.CardKind.TheVariants.{WriteOff as WrittenOff, Shipment, WriteOn}
pub use Rattle.commands.specs.declared.rows.CardRow.{CardRow}
pub use Rattle.commands.specs.declared.rows.LeastRow.{LeastRow}
pub use Rattle.commands.specs.declared.rows.OrderClass.TheVariants.{Normal}
pub use Rattle.commands.specs.declared.rows.OrderState.TheVariants.{Open, Done, Cancelled}
pub use Rattle.commands.specs.declared.rows.ShipmentRow.{ShipmentRow}
pub use Rattle.commands.specs.declared.rows.StagedRow.{StagedRow}
pub use Rattle.commands.specs.declared.rows.StockRow.{StockRow}
pub use Rattle.commands.specs.declared.rows.UrgentRow.{UrgentRow}
pub use Rattle.commands.specs.declared.views.BinUnits.{BinUnits}
pub use Rattle.commands.specs.declared.views.LotStatus.TheVariants.{ShortDated, Free}
pub use Rattle.commands.specs.declared.views.ShippedUnits.{ShippedUnits}
pub use Rattle.commands.specs.declared.views.ShortLine.{ShortLine}
pub use Rattle.plan.specs.Laws.{AreBookingsDistinct, AreLotsDistinct}
pub use Rattle.plan.specs.Lists.{total as plan_total}
pub use Rattle.plan.specs.Overlap.{plan_rows, reserved_in, reserved_on, Stretch, overlap, row_of, rows_of_demand, rows_of_stretches, demands_laid, supplies_laid, reserved_for, demand_total}
pub use Rattle.plan.specs.declared.Demand.{Demand}
pub use Rattle.plan.specs.declared.Row.{Row}
pub use Rattle.plan.specs.declared.Supply.{Supply}
pub use Rattle.plan.proofs.Laying.{demands_laid-append}
pub use Rattle.plan.proofs.Line.{on_pieces, pieces_on}
pub use Rattle.plan.proofs.Naming.{HaveOther, none_of}
pub use Rattle.plan.proofs.Nothing.{wanted}
pub use Rattle.plan.proofs.Ranked.{AllAfter, IsRising, at_rank, IsOrder, same_non_zero}
pub use Rattle.plan.proofs.Removing.{removing_disturbs_none}
pub use Rattle.plan.proofs.Sums.{counted_plan, reserved_on_sum, zero_total, total-append}
pub use Rattle.plan.proofs.Taking.{need_lowered, avail_lowered, lowering_disturbs_none}
pub use Rattle.machine.specs.Acts.{Act, next_number, gathered}
pub use Rattle.machine.specs.Cards.{lot_units_in_house, cards, card_lines}
pub use Rattle.machine.specs.KeyedRows.{AreRows, AreOwn, LotBin, OrderLot, no_two, same_cell, same_share}
pub use Rattle.machine.specs.Laws.{has_of_lot, ClosedOrdersAreEmpty, card_total, Conserved, Covered, in_bins, on_stages, in_shipments, NeverOverdrawn, IsListing, Traced, OtherItemsAreLeftAlone, PickDisturbsNone, RecallDisturbsNone, RecallDisturbsLaterAlone, repeats, once_each, RepeatsActOnce, WasAccepted, RepeatsGetTheFirstReply, RunsGoOn, RunsWithMemory, FilesGoOn, IsShippableLot, StagedLotsAreShippable, ShippedLotsAreShippable, urgent_plan, UrgentOrdersComeFirst}
pub use Rattle.machine.specs.Ledger.{postings_of, cleared, shipped_off, postings, posting, posted, written, lot_returned, returned, made_unshippable, correction}
pub use Rattle.machine.specs.Machine.{acts_after_all, AllSound, Answer, Told, NoMemory, Step, Run, outcomes}
pub use Rattle.machine.specs.Once.{IsHistory, bearer, is_key_of, outcome, acts_after, Accepted, Repeated, Refused, file_outcome, acts_after_file, Taken, RefusedRow, Earlier, Outcome, judged, told_again, appended, same_command, same_key, IsSoundRequest, Tally, tallied, unless_refused, all_tallied, tally, acts_if_taken}
pub use Rattle.machine.specs.Planning.{plan, short_of_order, units_in_house, order_state, staged_of_lot, reserved, bookings, in_bin, staged_for_order, is_open, open_units, is_urgent, is_normal, Booking, booking_of, lines_of_item, in_store, item_postings, shipped_of, staged, shipped, need, demand_of, demands, supplies, shippable_lots, reserved_of, is_open_state, is_shipped_in_full, store_units, supply_of, goes_before, bookings_of}
pub use Rattle.machine.specs.Postings.{is_lot, Stage, Shipped, Place, Supplier, InBin, WriteOff, Posting, balance, in_house, is_bin, is_stage, is_shipment, of_item, units_in, units_out, is_shipped_to, any_lot}
pub use Rattle.machine.specs.Queries.{stock_shown, order_shown, short_shown, card_shown, notice_shown}
pub use Rattle.machine.specs.Replies.{reply, units_returned}
pub use Rattle.machine.specs.Schemas.{schema_of, are_of_schema, FirstBooksGoOn, SecondBooksGoOn}
pub use Rattle.machine.specs.Standing.{RETURNS, items, has_item, bins, has_bin, is_store_bin, lot_known, has_lot, is_held, is_recalled, is_expired, today, least_days, has_order, has_line, KnownLot, Placed, lots, orders, order_named, is_cancelled, shipments_so_far, lines_of, lines_placed, lots_of, is_shippable, bin_in, returns_bin, lots_after, lot_among, with_receipt, shipments, item_named, least_in, days_asked, shipments_after, item_in, hold_in, says_held, order_in, bin_named, is_store_row, recall_in, least_expiry, recalling, cancel_in}
pub use Rattle.machine.specs.Tables.{least_row, urgent_row, Tables, meta_row, item_row, bin_row, lot_row, recall_row, stock_row, order_row, if_urgent, line_row, staged_row, reserved_row, shipment_row, shipline_row, card_row, repeat_row, if_any}
unfoldable pub use Rattle.machine.specs.Tables.{tables_of}
pub use Rattle.machine.specs.Touched.{touches}
pub use Rattle.machine.specs.Verdict.{verdict, Judgement, first_refusal, all_judged, expires_otherwise, is_past, is_below, names_item_twice, taken_off, put_on}
pub use Rattle.machine.specs.Views.{lot_status, short_view, card_of_lot, text_before, has_bin_units, has_shipped_units, shipped_units}
