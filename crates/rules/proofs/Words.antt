-- What the proofs of this crate say of what it stands on: each word from where it is defined.
pub use Rattle.std.specs.List.{list_any, cons_option, list_all, AllByRecursion}
pub use Rattle.std.specs.Prelude.{codes, None, ℤ, pos, ◌+ℤ◌, ◌==◌, if◌then◌else◌, filter, flat_map, find, ◌||◌, nat_lt, nat_le, map, nat_eq, Option, Result, Ok, Err, IsTrue, IfOk, decimal, zero, cond, ltb, negsuc, ◌-ℤ◌, int_lt, int_le, option_map, is_some, reverse, neg_ℤ, ◌⊎◌}
pub use Rattle.std.proofs.Common.{◌≡◌, ℕ, false, List, [], ◌∷◌, refl, Some, ◌+◌, Bool, ap, ◌∙◌, not, ◌≤◌, true, sym, arith, length, ◌-◌, ◌&&◌, min, max, eq-eqb, ◌++◌, append_assoc, ◌<◌, subst, suc, lit≤, ◌*◌, inl, inr, take, drop}
pub use Rattle.std.proofs.lemmas.Bool.{eqb-true}
pub use Rattle.std.proofs.lemmas.Bool.Decides.{nat_tests}
pub use Rattle.std.proofs.lemmas.Int.{ints}
pub use Rattle.std.proofs.lemmas.List.{append-nil, reverse-append, map-id}
pub use Rattle.std.proofs.lemmas.List.Elements.{filter-append}
pub use Rattle.std.proofs.lemmas.List.Folds.{list_any-append}
pub use Rattle.std.proofs.lemmas.Result.{IfOk-weaker}
pub use borrow.Author.Tests.{ltb-false, ltb-true, lt-ltb, le-ltb}
pub use Rattle.values.specs.Values.{same_text, is_name, is_qty, QTY_MAX, is_gtin, is_title}
pub use Rattle.values.specs.declared.lot.LotId.{LotId}
pub use Rattle.label.specs.Days.{is_day}
pub use Rattle.commands.specs.Limits.{has_order_lines}
pub use Rattle.commands.specs.Lists.{total, placed, in_order}
pub use Rattle.commands.specs.Replies.{reply_text}
pub use Rattle.commands.specs.Sound.{is_sound, is_sound_key, is_lot_id, is_order_line, are_lines}
pub use Rattle.commands.specs.declared.command.Adjustment.{Adjustment}
pub use Rattle.commands.specs.declared.command.BinKind.TheVariants.{Store}
pub use Rattle.commands.specs.declared.command.Command.{Command}
pub use Rattle.commands.specs.declared.command.Command.TheVariants.{Item, Bin, Receive, Move, Count, Adjust, Order, Cancel, Pick, Unpick, Ship, Hold, Release, Recall, OpenDay, Least, Urgent}
pub use Rattle.commands.specs.declared.command.Movement.{Movement}
pub use Rattle.commands.specs.declared.command.NewBin.{NewBin}
pub use Rattle.commands.specs.declared.command.NewItem.{NewItem}
pub use Rattle.commands.specs.declared.command.NewLeast.{NewLeast}
pub use Rattle.commands.specs.declared.command.NewOrder.{NewOrder}
pub use Rattle.commands.specs.declared.command.OrderLine.{OrderLine}
pub use Rattle.commands.specs.declared.command.Picking.{Picking}
pub use Rattle.commands.specs.declared.command.Receipt.{Receipt}
pub use Rattle.commands.specs.declared.command.Recount.{Recount}
pub use Rattle.commands.specs.declared.key.Key.{Key}
pub use Rattle.commands.specs.declared.key.Key.TheVariants.{Line}
pub use Rattle.commands.specs.declared.limits.TheConstants.{ACTS_MAX, OPEN_MAX, UNITS_MAX, ORDER_LINES_MAX}
pub use Rattle.commands.specs.declared.refusal.Refusal.{Refusal}
pub use Rattle.commands.specs.declared.refusal.Refusal.TheVariants.{UnknownItem, OrderExists, ItemTwice, OverOrdered, ActsFull, ItemExists, BinExists, UnknownBin, UnknownLot, NotInBin, OverUnits, DayNotLater, SameBin, OtherExpiry, LotRecalled, LotExpired, LotHeld, AlreadyRecalled, LotNotHeld, UnknownOrder, OrderClosed, StillStaged, NothingStaged, NoSuchLine, TooFewDays, NotStoreBin, OverReserved, OverStaged}
pub use Rattle.commands.specs.declared.replies.ReplyField.TheVariants.{Returned, UnitsShort}
pub use Rattle.commands.specs.declared.rows.BinRow.{BinRow}
pub use Rattle.commands.specs.declared.rows.CardKind.{CardKind}
pub use Rattle.commands.specs.declared.rows.CardKind.TheVariants.{WriteOn, WriteOff as WrittenOff, Receipt as ReceiptCard, Shipment}
pub use Rattle.commands.specs.declared.rows.CardRow.{CardRow}
pub use Rattle.commands.specs.declared.rows.ItemRow.{ItemRow}
pub use Rattle.commands.specs.declared.rows.LeastRow.{LeastRow}
pub use Rattle.commands.specs.declared.rows.LineRow.{LineRow}
pub use Rattle.commands.specs.declared.rows.LotRow.{LotRow}
pub use Rattle.commands.specs.declared.rows.MetaRow.{MetaRow}
pub use Rattle.commands.specs.declared.rows.OrderRow.{OrderRow}
pub use Rattle.commands.specs.declared.rows.OrderState.TheVariants.{Open, Done, Cancelled}
pub use Rattle.commands.specs.declared.rows.RecallRow.{RecallRow}
pub use Rattle.commands.specs.declared.rows.ReservedRow.{ReservedRow}
pub use Rattle.commands.specs.declared.rows.ShiplineRow.{ShiplineRow}
pub use Rattle.commands.specs.declared.rows.ShipmentRow.{ShipmentRow}
pub use Rattle.commands.specs.declared.rows.StagedRow.{StagedRow}
pub use Rattle.commands.specs.declared.rows.StockRow.{StockRow}
pub use Rattle.commands.specs.declared.rows.UrgentRow.{UrgentRow}
pub use Rattle.plan.specs.Changes.{IsPicked, need_lowered, avail_lowered, cut_of}
pub use Rattle.plan.specs.Lists.{total as plan_total}
pub use Rattle.plan.specs.Overlap.{plan_rows, reserved_in, rows_from, demand_total, reserved_for, Stretch, overlap, row_of, rows_of_demand, supplies_laid, rows_of_stretches, demands_laid, supply_total, reserved_on}
pub use Rattle.plan.specs.declared.Demand.{Demand}
pub use Rattle.plan.specs.declared.Row.{Row}
pub use Rattle.plan.specs.declared.Supply.{Supply}
pub use Rattle.plan.specs.declared.TheConstants.{SUM_MAX}
pub use Rattle.plan.proofs.Counting.{cut_of_is_cut}
pub use Rattle.plan.proofs.Fronts.{kept_rows}
pub use Rattle.plan.proofs.Laying.{plan_rows-append}
pub use Rattle.plan.proofs.Nothing.{same_plan, wanted, offered}
pub use Rattle.plan.proofs.Parting.{one_in_front, plan_parted}
pub use Rattle.plan.proofs.Ranked.{IsOrder, AllAfter, IsRising, same_non_zero, non_zero}
pub use Rattle.plan.proofs.Sums.{total-append}
pub use Rattle.machine.specs.Acts.{Act, next_number, gathered}
pub use Rattle.machine.specs.Cards.{card_lines, lot_units_in_house, delivery_note, cards}
pub use Rattle.machine.specs.KeyedRows.{AreRows, LotBin, OrderLot, same_cell, same_line, same_share, no_two, AreOwn, OrderItem}
pub use Rattle.machine.specs.Ledger.{posting, postings, postings_of, written, lot_returned, returned, made_unshippable, shipped_off}
pub use Rattle.machine.specs.Once.{IsHistory, is_key_of, bearer}
pub use Rattle.machine.specs.Planning.{in_bin, units_in_house, open_units, staged_of_lot, is_open, reserved, order_state, is_open_state, is_shipped_in_full, demands, supplies, plan, is_urgent, is_normal, booking_of, lines_of_item, bookings, demand_of, item_postings, reserved_of, short_of_order, Booking, short_of, need, shipped_of, staged, shipped, staged_for_order, supply_of, goes_before, shippable_lots, in_store, store_units}
pub use Rattle.machine.specs.Postings.{is_lot, of_item, Place, Supplier, InBin, Stage, Shipped, WriteOff, Posting, in_house, balance, is_stage, is_shipment, is_bin, is_shipped_to, any_lot, units_in}
pub use Rattle.machine.specs.Replies.{reply, further_field, change_field, returned_field, units_returned, short_field, shipment_field}
pub use Rattle.machine.specs.Standing.{RETURNS, today, shipments_so_far, has_line, least_expiry, items, least_days, KnownLot, Placed, lots, lots_of, lot_known, orders, has_item, is_shippable, item_named, is_held, is_recalled, is_expired, least_in, days_asked, hold_in, recall_in, cancel_in, says_held, Recalling, Holding, recalling, order_named, is_cancelled, has_order, lines_placed, lines_of, shipments, lot_among, bin_named, is_store_row, is_store_bin, has_lot, has_bin, order_in, lots_after}
pub use Rattle.machine.specs.Tables.{meta_row, if_any, bin_row, lot_row, stock_row, order_row, line_row, staged_row, reserved_row, least_row, item_row, recall_row, if_urgent, urgent_row, shipment_row, shipline_row, card_row, Tables}
unfoldable pub use Rattle.machine.specs.Tables.{tables_of}
pub use Rattle.machine.specs.Touched.{is_touched, touches}
pub use Rattle.machine.specs.Verdict.{first_refusal, Judgement, judgement, taken_off, put_on, verdict, names_item_twice, ordering, is_past, is_below, expires_otherwise}
pub use Rattle.machine.proofs.Apart.{AllFound, any_found, AreApart, all_found, none_in_filter, apart-filter}
pub use Rattle.machine.proofs.Mapping.{map_appended}
pub use Rattle.machine.proofs.Numbers.{add_totals, unequal_turned, later_than, nothing_if, equal_turned, unequal_above, total_zero, unequal_below}
pub use Rattle.machine.proofs.Tests.{or_none, and_both, not_true, same_text_is, and_later_false, or_first, same_text_refl, same_text_turned, is_lot_is, is_lot_refl, is_lot_item, and_not_itself, or_later, and_false, is_zero, is_lot_turned, not_false, some_one, or_false}
pub use Rattle.machine.proofs.examples.ExampleHistories.{may_4, may_31, june_30, OATS, RYE, A1, S1, S2, L1, L2, may_10, july_31, L0, lot_of}
pub use Rattle.machine.proofs.histories.Accepted.{room_for_acts, item_accepted, least_accepted, cancel_accepted, OrderAccepted, order_accepted, urgent_accepted, ship_accepted}
pub use Rattle.machine.proofs.histories.AfterShipping.{bin_after, shipment_after, house_after, unknown_unstaged, reserved_after, stage_after, shipped_after, of_postings}
pub use Rattle.machine.proofs.histories.Bookings.{total_flat, RisingDemands, AfterDemands, wanted_by, none_more}
pub use Rattle.machine.proofs.histories.Cells.{Legal, holds, Cells, holds_split, without, into, out_of, Inner, CanTake, never_overdrawn, taken_from, into-append, out_of-append}
pub use Rattle.machine.proofs.histories.ClosedOrders.{served_is, served_within_ordered, ordered_of, closed_is_unstaged, closed_orders_are_empty}
pub use Rattle.machine.proofs.histories.Falling.{AllBelow, AreFalling, found_below}
pub use Rattle.machine.proofs.histories.ItemBalances.{balance-of_item}
pub use Rattle.machine.proofs.histories.KnownPlaces.{unknown_line_is_unstaged, unknown_shipment_is_empty, KnownPlace, unknown_holds_nothing}
pub use Rattle.machine.proofs.histories.LeastDays.{unknown_item_asks_none}
pub use Rattle.machine.proofs.histories.LegalHistories.{legal_history}
pub use Rattle.machine.proofs.histories.LineLimits.{ordered_within_limit, shipments_within_acts}
pub use Rattle.machine.proofs.histories.LotItems.{lots_have_items, item_of_lot, items_within_limit}
pub use Rattle.machine.proofs.histories.Lots.{same_known, lots_found, not_held, lots_apart, found_lot, lots_numbered, receipt_names_lot}
pub use Rattle.machine.proofs.histories.Needs.{unknown_is_unreserved, line_qty, reserved_within_needs}
pub use Rattle.machine.proofs.histories.NewOrders.{new_is_not_named, not_some, new_is_not_cancelled, new_has_nothing_shipped, new_has_nothing_staged}
pub use Rattle.machine.proofs.histories.Notices.{shipments_apart}
pub use Rattle.machine.proofs.histories.Orders.{found_order, act_names_order, orders_single, orders_numbered, AllSingle, NoNeed, same_order, orders_apart, orders_found, closed_needs_none}
pub use Rattle.machine.proofs.histories.OtherItems.{other_items_are_left_alone}
pub use Rattle.machine.proofs.histories.Picks.{Each, pick_disturbs_none}
pub use Rattle.machine.proofs.histories.PlaceRows.{stage_cells, staged_holds, bin_cells, stock_holds, and_turned, any_some}
pub use Rattle.machine.proofs.histories.PlanRows.{unequal_back, same_pair, AllSome, plan_once, plan_some}
pub use Rattle.machine.proofs.histories.Quantities.{at_least_one, at_most_limit}
pub use Rattle.machine.proofs.histories.Reservations.{served_within_need, there_under, wanted_under, reserved_within_need, reserved_within_supply}
pub use Rattle.machine.proofs.histories.ReturnedUnits.{returned_kept, units_taken, returned_has_no_line}
pub use Rattle.machine.proofs.histories.ReturnsBin.{returns_named}
pub use Rattle.machine.proofs.histories.RowSums.{cell_at, holds_nothing}
pub use Rattle.machine.proofs.histories.Served.{demands_apart, demands_told, urgent_number, classes_told, AreServed, AllClass, served_in_class, served_both, same_wanted}
pub use Rattle.machine.proofs.histories.StagedLots.{staged_lots_are_shippable}
pub use Rattle.machine.proofs.histories.Staging.{IsStaging, none_returned}
pub use Rattle.machine.proofs.histories.UnitsLimit.{units_within_limit}
pub use Rattle.machine.proofs.histories.UnshippableLots.{stages_of, MakesUnshippable, order_row_still, line_row_still, shipline_row_still, card_row_still, both, both_hold, inner_stages, unstaged, staged_still, in_bin_still, in_returns, all_returned, open_still, line_still}
pub use Rattle.row_rules.specs.LookUps.{IsOrder as IsEarlier}
pub use Rattle.row_rules.specs.OpenLines.{open_of_line, is_open_among}
pub use Rattle.row_rules.specs.Plans.{is_store_found, is_usable, usable_lots, inserted, goes_first, supply_seen, supplies_within, named_rows, staged_seen, demands_within, plan_within, supplies_seen, is_share_of, named_row, line_need, need_seen, demand_seen, is_earlier, is_urgent_seen, is_normal_seen, demands_by_number, has_qty, rows_to_put, rows_to_drop, store_seen}
pub use Rattle.row_rules.specs.Replanning.{same_row, rows_apart, rows_behind, shares_changed, replanned_rows, replanned_from, item_demands, item_supplies, item_replanned, shares_apart}
pub use Rattle.row_rules.specs.Seen.{capped, stock_qty, number_seen, none_put, none_dropped, CAP, sees_item, plain_reply, meta_after, stock_units, staged_units, lot_units, lot_seen, is_over, sees_bin, sees_recall, expires_otherwise_than, has_recall}
pub use Rattle.row_rules.specs.SeenLots.{stock_put, in_bin_seen, stock_found, is_held_row, sees_hold, sees_lot, stock_gone, stock_rows_with}
pub use Rattle.row_rules.specs.SeenOrders.{order_row_seen, items_seen, lines_seen, sees_order, is_open_row, sees_open, line_row_seen, sees_line, staged_for, staged_for_seen}
pub use Rattle.row_rules.specs.SeenStages.{staged_qty, reserved_found, reserved_put, reserved_gone, staged_found, reserved_qty, reserved_seen, on_stage_seen}
pub use Rattle.row_rules.specs.Status.{is_past_row, days_in, earliest_seen, may_ship, is_below_row, least_seen}
pub use Rattle.row_rules.specs.declared.replanning.Replanned.{Replanned}
pub use Rattle.row_rules.specs.declared.slice.Change.{Change}
pub use Rattle.row_rules.specs.declared.slice.Rows.{Rows}
pub use Rattle.row_rules.specs.declared.slice.RuleFault.{RuleFault}
pub use Rattle.row_rules.specs.declared.slice.Slice.{Slice}
pub use Rattle.row_rules.proofs.ByBoth.{never_itself, goes_on, none_of, both_either}
pub use Rattle.row_rules.proofs.Capping.{IsCapped}
pub use Rattle.row_rules.proofs.Cutting.{supplies_cut_twice, plan_of_cut}
pub use Rattle.row_rules.proofs.Gathering.{booked_more, booked_put, booked_short, IsBooked, IsSoughtTwice, gathered_all, gathered_more, IsGathered}
pub use Rattle.row_rules.proofs.InOrder.{ranks_order}
pub use Rattle.row_rules.proofs.LookingUp.{total_agree, map_agree, total_kept, gathered_kept}
pub use Rattle.row_rules.proofs.Making.{part_same, made_same, same_items}
pub use Rattle.row_rules.proofs.Searching.{IsTested}
pub use Rattle.row_rules.proofs.Walking.{IsMapped, append_none}
pub use Rattle.rules.specs.Booked.{open_units_seen, line_put, line_short, demand_before, demand_booked, needs_seen, plan_booked}
pub use Rattle.rules.specs.Commands.{command_seen, command_changes}
pub use Rattle.rules.specs.DecidedCancel.{cancel_changes, cancel_put, cancel_dropped, cancelled_row, other_orders, cancel_seen, rows_after_cancel}
pub use Rattle.rules.specs.DecidedCount.{corrections, adjust_changes, count_changes, correction_facts, adjust_seen, SIGNED_CAP, found_less, count_seen, is_over_without, written_told, correction_card, correction_cards}
pub use Rattle.rules.specs.DecidedDay.{day_judged, day_changes}
pub use Rattle.rules.specs.DecidedHold.{hold_changes, staged_of_seen, units_in_returns, row_returned, returned_put, bins_with_returns, returns_bin_row, hold_seen, hold_replanned, with_hold, lot_rows_with_hold, lot_put, staged_kept, staged_returned, stock_with_returned, returned_reply, recall_seen, recall_replanned, recall_changes, new_recall_row, recall_rows_after, release_seen, release_facts, release_changes, returning_replanned, rows_after_return}
pub use Rattle.rules.specs.DecidedLeast.{least_changes, least_judged, least_row_put, least_rows_after}
pub use Rattle.rules.specs.DecidedMove.{move_seen, move_told, move_changes}
pub use Rattle.rules.specs.DecidedOrder.{order_seen, order_changes, new_order_row, misses_item, orders_too_much, short_seen, order_reply, order_rows_to_put, new_line_rows}
pub use Rattle.rules.specs.DecidedPick.{one_row, pick_seen, pick_told, pick_changes, reserved_left, own_lowered, unpick_seen, unpick_told, unpick_changes, sees_store}
pub use Rattle.rules.specs.DecidedReceive.{receive_changes, receive_seen, receive_told, receive_card, receive_facts, lot_rows_after, lots_if_new, new_lot_row, lots_put}
pub use Rattle.rules.specs.DecidedSetup.{item_seen, item_changes, bin_seen, bin_changes}
pub use Rattle.rules.specs.DecidedShip.{line_shipped, lines_shipped, lacks_units, done_row, order_put, ship_seen, shipment_seen, rows_shipped, shipline, ship_card, ship_reply, ship_changes, shipment_put, meta_shipped}
pub use Rattle.rules.specs.DecidedUrgent.{urgent_changes, lines_with, items_ordered, urgent_put, urgent_dropped, short_with, urgent_replanned, rows_after_urgent}
pub use Rattle.rules.specs.Expiring.{stands_in, is_out_among, is_out, staged_kept_on, staged_gone_on, units_out, lot_returned_on, stock_returned, stock_on, gtins_seen, replanned_on, reserved_put_on, reserved_gone_on, changes_on, meta_on, reply_on, rows_on}
pub use Rattle.rules.specs.KeptPlan.{changes_lot, keeps_plan, asked_alone}
pub use Rattle.rules.specs.Made.{IsMade}
pub use Rattle.rules.specs.OlderLimits.{Limits, older_limits, newest_limits, AreWithin, is_over_units, is_over_ordered, limited, lines_ordered, exceeds_units, exceeds_wanted, judgement_under, verdict_under, IsHistoryUnder, TodayIsNewest, LimitsMayGrow, OlderHistoriesGoOn}
pub use Rattle.rules.specs.PostedChanges.{changes_by, bins_changes, replanned_by, stock_after, staged_after, no_facts, rows_after_posting}
pub use Rattle.rules.specs.Shelf.{bins, stages, rows_gone, Shelf, bin_at, stage_at, taken, brought, rows_posted, keys_posted, rows_put, units_at, row_put, row_gone, units_of, rows_with_units, one_posted, with_key}
pub use Rattle.rules.specs.Slices.{IsSlice, tables_but_repeats, are_once, IsDecision, NamesChangedReservations, changed, plans, names_bin, names_lot, in_bins, on_stages, added, unless_put, ships, picks, names_order, on_named_stage, differs, unless_emptied, has_touched_line, names_reserved}
unfoldable pub use Rattle.rules.specs.Slices.{applied}
pub use Rattle.rules.specs.Told.{keys_of, place_of, listed, told_once, shelf_of}
pub use Rattle.rules.specs.declared.changes.Facts.{Facts}
pub use Rattle.rules.specs.declared.posting.Place.{Place as PlaceTold}
pub use Rattle.rules.specs.declared.posting.Place.TheVariants.{InBin as ToldInBin}
pub use Rattle.rules.specs.declared.posting.Posting.{Posting as PostingTold}
pub use Rattle.rules.specs.ItemTold.{demands_in, supplies_in, replanned_to}
