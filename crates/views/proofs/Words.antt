-- What the proofs of this crate say of what it stands on: each word from where it is defined.
pub use Rattle.std.specs.Cmp.{IsStrictWeakOrder}
pub use Rattle.std.specs.Cmp.Lexicographic.{slice_cmp}
pub use Rattle.std.specs.List.{list_any, cons_option, list_all}
pub use Rattle.std.specs.List.Sorted.{IsSortedBy, IsStableBy}
pub use Rattle.std.specs.Ordering.{ordering_reverse, nat_cmp, is_lt, is_eq}
pub use Rattle.std.specs.Prelude.{◌==◌, ℤ, Option, Some, None, filter, map, is_some, find, option_map, ◌||◌, if◌then◌else◌, nat_lt, int_lt, min, reverse, ◌⊎◌, ◌*◌, nat_le, flat_map, OnOk}
pub use Rattle.std.specs.declared.cmp.Ordering.{Ordering}
pub use Rattle.std.specs.declared.cmp.Ordering.TheVariants.{Less, Equal, Greater}
pub use Rattle.std.proofs.Common.{◌≡◌, ℕ, Bool, true, false, ◌&&◌, not, List, refl, ap, sym, subst, ◌∙◌, eq-eqb, ◌+◌, [], ◌∷◌, take, length, arith, ◌<◌, ◌++◌, get_or, drop, inl, inr, append_assoc, zero, suc, ◌≤◌, add-one, ◌-◌, rules}
pub use Rattle.std.proofs.lemmas.Bool.{eqb-true}
pub use Rattle.std.proofs.lemmas.Bool.Decides.{nat_tests}
pub use Rattle.std.proofs.lemmas.Cmp.{nat_list_cmp_total}
pub use Rattle.std.proofs.lemmas.List.{reverse-append}
pub use Rattle.std.proofs.lemmas.List.Sorted.{answers_always}
pub use Rattle.std.proofs.lemmas.Map.Text.{is_eq-slice_cmp}
pub use Rattle.values.specs.Values.{same_text, QTY_MAX, is_name, is_title, is_between}
pub use Rattle.values.specs.declared.lot.LotId.{LotId}
pub use Rattle.commands.specs.Limits.{has_order_lines}
pub use Rattle.commands.specs.Lists.{placed, in_order, total}
pub use Rattle.commands.specs.Sound.{is_sound, is_order_line, are_lines}
pub use Rattle.commands.specs.declared.command.Command.{Command}
pub use Rattle.commands.specs.declared.command.Command.TheVariants.{Item, Order, Urgent}
pub use Rattle.commands.specs.declared.command.NewBin.{NewBin}
pub use Rattle.commands.specs.declared.command.NewItem.{NewItem}
pub use Rattle.commands.specs.declared.command.OrderLine.{OrderLine}
pub use Rattle.commands.specs.declared.key.Key.{Key}
pub use Rattle.commands.specs.declared.limits.TheConstants.{UNITS_MAX, ORDER_LINES_MAX}
pub use Rattle.commands.specs.declared.rows.BinRow.{BinRow}
pub use Rattle.commands.specs.declared.rows.ItemRow.{ItemRow}
pub use Rattle.commands.specs.declared.rows.LeastRow.{LeastRow}
pub use Rattle.commands.specs.declared.rows.LineRow.{LineRow}
pub use Rattle.commands.specs.declared.rows.LotRow.{LotRow}
pub use Rattle.commands.specs.declared.rows.OrderClass.TheVariants.{Normal}
pub use Rattle.commands.specs.declared.rows.OrderRow.{OrderRow}
pub use Rattle.commands.specs.declared.rows.OrderState.TheVariants.{Open, Done, Cancelled}
pub use Rattle.commands.specs.declared.rows.RecallRow.{RecallRow}
pub use Rattle.commands.specs.declared.rows.ReservedRow.{ReservedRow}
pub use Rattle.commands.specs.declared.rows.StagedRow.{StagedRow}
pub use Rattle.commands.specs.declared.rows.StockRow.{StockRow}
pub use Rattle.commands.specs.declared.rows.UrgentRow.{UrgentRow}
pub use Rattle.commands.specs.declared.views.BinUnits.{BinUnits}
pub use Rattle.commands.specs.declared.views.LotStatus.TheVariants.{Recalled, Held, Expired, ShortDated, Free}
pub use Rattle.commands.specs.declared.views.ReservedLot.{ReservedLot}
pub use Rattle.commands.specs.declared.views.ShortLine.{ShortLine}
pub use Rattle.commands.specs.declared.views.StagedLot.{StagedLot}
pub use Rattle.plan.specs.Overlap.{reserved_for}
pub use Rattle.plan.specs.declared.Demand.{Demand}
pub use Rattle.plan.proofs.Ranked.{AllAfter}
pub use Rattle.plan.proofs.Running.{drop_from}
pub use Rattle.machine.specs.Acts.{Act, next_number}
pub use Rattle.machine.specs.Cards.{lot_units_in_house}
pub use Rattle.machine.specs.KeyedRows.{AreRows, LotBin, same_cell, OrderItem, same_line, OrderLot, same_share, AreOwn, no_two}
pub use Rattle.machine.specs.Ledger.{postings}
pub use Rattle.machine.specs.Once.{IsHistory}
pub use Rattle.machine.specs.Planning.{in_bin, goes_before, shipped_of, in_store, plan, reserved, reserved_of, is_open, is_urgent, is_normal, is_open_state, order_state, booking_of, lines_of_item, need, demands, supplies, item_postings, shipped, short_of, staged, staged_of_lot, Booking, is_shipped_in_full, bookings, demand_of}
pub use Rattle.machine.specs.Postings.{is_lot, of_item, Place, Supplier, InBin, Stage, Shipped, WriteOff, in_house, Posting, is_stage}
pub use Rattle.machine.specs.Standing.{bins, bin_named, has_bin, KnownLot, has_item, lots, today, is_store_bin, is_store_row, items, item_named, Placed, order_named, lines_placed, lot_known, orders, lots_of, is_held, least_days, order_in, is_cancelled, has_line, is_expired, is_short_dated, Recalling, is_recalled, recalling}
pub use Rattle.machine.specs.Tables.{stock_row, bin_row, item_row, line_row, if_any, reserved_row, staged_row, lot_row, least_row, order_row, urgent_row, recall_row}
unfoldable pub use Rattle.machine.specs.Tables.{tables_of}
pub use Rattle.machine.specs.Verdict.{verdict, names_item_twice}
pub use Rattle.machine.specs.Views.{has_bin_units, bins_of_lot, store_bins_of_lot, text_before, reserved_on_lot, staged_on_lot, lots_in_order, reserved_lots, staged_lots, line_view, order_view, short_of_line, short_line as short_line_shown, short_view, lot_status, lot_view, stock_view}
pub use Rattle.machine.proofs.Apart.{any_found, AllFound, AreApart, none_in_filter}
pub use Rattle.machine.proofs.Numbers.{equal_turned, unequal_below, later_than}
pub use Rattle.machine.proofs.Tests.{not_true, same_text_is, same_text_turned, is_lot_is, is_lot_refl, and_both, same_text_refl, or_none, is_zero, is_lot_turned, or_first, or_later, some_one}
pub use Rattle.machine.proofs.histories.Accepted.{item_accepted}
pub use Rattle.machine.proofs.histories.Bookings.{wanted_by}
pub use Rattle.machine.proofs.histories.Cells.{Cells, Inner, IsPart, holds, holds_split}
pub use Rattle.machine.proofs.histories.ClosedOrders.{ordered_of, served_is, served_within_ordered}
pub use Rattle.machine.proofs.histories.Covering.{covered}
pub use Rattle.machine.proofs.histories.Falling.{AllBelow, AreFalling, found_below}
pub use Rattle.machine.proofs.histories.ItemBalances.{balance-of_item}
pub use Rattle.machine.proofs.histories.KnownPlaces.{unknown_bin_is_empty}
pub use Rattle.machine.proofs.histories.KnownSums.{any_stage, stages_hold}
pub use Rattle.machine.proofs.histories.LegalHistories.{legal_history}
pub use Rattle.machine.proofs.histories.LineLimits.{ordered_within_limit}
pub use Rattle.machine.proofs.histories.LotItems.{lots_have_items, HaveItems}
pub use Rattle.machine.proofs.histories.Lots.{same_known, lots_apart, lots_found, receipt_names_lot}
pub use Rattle.machine.proofs.histories.Needs.{line_qty, needs, needs_of_line}
pub use Rattle.machine.proofs.histories.Notices.{bins_apart}
pub use Rattle.machine.proofs.histories.Orders.{orders_apart, same_order, orders_found, orders_numbered, act_names_order, orders_single, NoNeed, closed_needs_none}
pub use Rattle.machine.proofs.histories.PlaceRows.{any_some, stage_cells, staged_holds}
pub use Rattle.machine.proofs.histories.Reservations.{wanted_under, served_within_need}
pub use Rattle.machine.proofs.histories.Served.{demands_told, comes_first, AreServed, urgent_number, demands_rise}
pub use Rattle.row_rules.specs.LookUps.{IsOrder, first_before, IsInOrder}
pub use Rattle.row_rules.specs.Plans.{is_store_found, goes_first, inserted, is_urgent_seen, staged_seen}
pub use Rattle.row_rules.specs.Seen.{stock_qty, capped, lot_units, CAP, has_recall}
pub use Rattle.row_rules.specs.SeenLots.{stock_found}
pub use Rattle.row_rules.specs.SeenStages.{reserved_qty, staged_qty}
pub use Rattle.row_rules.specs.Status.{least_seen, days_in, status_seen}
pub use Rattle.row_rules.specs.declared.slice.Rows.{Rows}
pub use Rattle.row_rules.proofs.ByBoth.{both_order, both_either, never_itself}
pub use Rattle.row_rules.proofs.Capping.{IsCapped, capped_none, capped_more, capped_all}
pub use Rattle.row_rules.proofs.Making.{same_items}
pub use Rattle.row_rules.proofs.InOrder.{lots_order, placed_in_order, ranks_order, demands_order, placed_there}
pub use Rattle.row_rules.proofs.LookingUp.{find_given, total_given, any_given, total_kept, filter_given}
pub use Rattle.row_rules.proofs.Sorted.{sorted_inserted}
pub use Rattle.row_rules.proofs.Walking.{append_none, drop_end, IsInserted, kept_one, placed_at, placed_more, IsPlaced}
pub use Rattle.rules.proofs.rows.BookingSums.{total_bookings}
pub use Rattle.rules.proofs.rows.ClassesTold.{class_told, number_told}
pub use Rattle.rules.proofs.rows.DaysAsked.{days_in_row}
pub use Rattle.rules.proofs.rows.DemandsTold.{either_way, single_of}
pub use Rattle.rules.proofs.rows.LotTold.{any_qty}
pub use Rattle.rules.proofs.rows.LotUnits.{lot_units_told, lot_within_limit}
pub use Rattle.rules.proofs.rows.Ordering.{AreRising, rising_inserted, rising_ordered, ordered_kept, rising_kept, AllBehind, total_inserted, total_map, total_ordered, AllOrdered, AreOrdered}
pub use Rattle.rules.proofs.rows.ReservedUnits.{reserved_units_told}
pub use Rattle.rules.proofs.rows.SameKeys.{same_share_is, same_share_turned}
pub use Rattle.rules.proofs.rows.Telling.{once_apart, none_picked, found_key, some_of_mapped, picked, totals_swapped}
pub use Rattle.overviews.specs.Pages.{is_behind, goes_before_by_item, lots_in_bin, page, goes_on, lots_by_item, item_of, bin_lot, bin_view, is_expiring, expiring_lots, lots_by_expiry, item_lot, expiring_view, gtin_before, items_behind, named_item, item_names_view, is_served_before, orders_served, open_orders, orders_of, open_order, open_orders_view}
pub use Rattle.overviews.specs.declared.lists.BinLot.{BinLot}
pub use Rattle.overviews.specs.declared.lists.ItemLot.{ItemLot}
pub use Rattle.overviews.specs.declared.lists.TheConstants.{PAGE_MAX, NAMES_MAX}
pub use Rattle.views.specs.GivenBin.{first_by_item, is_in_bin_row, bin_lot_seen, bin_lot_found, bin_and_more, bin_lot_told, bin_seen}
pub use Rattle.views.specs.GivenExpiring.{all_found, is_expiring_row, lots_and_more, with_lot, item_lot_seen, item_lot_found, expiring_seen}
pub use Rattle.views.specs.GivenNames.{item_before, items_and_more, named_seen, names_seen}
pub use Rattle.views.specs.GivenOpen.{served, is_listed, line_units, no_units, with_units, of_order, order_units, open_order_told, is_before, listed, in_service, page_and_more, open_orders_told, class_of}
pub use Rattle.views.specs.GivenShort.{short_told, is_any, shorts_served}
pub use Rattle.views.specs.Seen.{bin_before, bin_units, is_in_store, store_bins_seen, line_before, lines_seen, lots_seen, is_cancelled_state, reserved_seen, found_of, reserved_lot, staged_lot, line_seen, reserved_lots_seen, staged_lots_seen, order_seen, line_need, line_short, class_seen}
pub use Rattle.views.specs.SeenShort.{goes_ahead, served_before, found_short, order_short, is_short, short_orders, short_line, short_seen}
pub use Rattle.views.specs.SeenStock.{bins_seen, lot_found, lot_seen, reserved_on, staged_on, stock_seen}
pub use Rattle.views.specs.Shown.{AreShown, orders_item, is_staged_for, is_reserved_for}
pub use Rattle.views.specs.ShownBin.{AreInBin, known_bin, is_item_in_bin, AreOfBinPage}
pub use Rattle.views.specs.ShownExpiring.{known_row, IsLotSeenLast, AreInHouse, is_item_on_page, AreOfLotsPage}
pub use Rattle.views.specs.ShownNames.{row_of_item, AreItems, is_named, AreAsked}
pub use Rattle.views.specs.ShownOpen.{placed_row, served_order, IsSeenLast, AreOpen, is_on_page, AreOfPage}
pub use Rattle.views.specs.ShownShort.{AreDemanded}
pub use Rattle.views.specs.ShownStock.{AreStocked}
pub use Rattle.views.specs.declared.open_orders.OrderUnits.{OrderUnits}
pub use Rattle.views.specs.declared.open_orders.ServedOrder.{ServedOrder}
pub use Rattle.views.specs.declared.order_shorts.OrderShort.{OrderShort}
pub use Rattle.views.specs.declared.stock.LotsShown.{LotsShown}
pub use Rattle.machine.specs.Standing.{item_in}
pub use Rattle.machine.proofs.Tests.{not_false}
pub use Rattle.machine.proofs.histories.Accepted.{order_accepted, urgent_accepted}
pub use Rattle.overviews.specs.Picks.{pick_line, picks_view}
pub use Rattle.views.specs.GivenPicks.{with_item, pick_line_found, pick_line_seen, picks_seen}
pub use Rattle.views.specs.ShownPicks.{AreLineItems}
pub use Rattle.std.specs.Prelude.{count_by}
pub use Rattle.commands.specs.declared.views.LotStatus.{LotStatus}
pub use Rattle.machine.specs.Postings.{any_lot, balance, is_bin}
pub use Rattle.machine.specs.Standing.{RETURNS}
pub use Rattle.machine.proofs.histories.Cells.{without}
pub use Rattle.machine.proofs.histories.PlaceRows.{bin_cells, stock_holds}
pub use Rattle.plan.proofs.Running.{total_more}
pub use Rattle.overviews.specs.Figures.{is_short_order, is_staged_order, shows_expired, shows_held, shows_recalled, lots_standing, lot_figures, open_figures, unit_figures, figures_view}
pub use Rattle.overviews.specs.declared.lists.OpenOrder.{OpenOrder}
pub use Rattle.views.specs.GivenFigures.{is_in_house, stands, lot_figures_seen, lots_counted, is_urgent_served, open_figures_seen, orders_counted, units_counted, stock_units, staged_units, figures_seen}
pub use Rattle.views.specs.ShownFigures.{AreCounted}
