-- What the proofs of this crate say of what it stands on: each word from where it is defined.
pub use Rattle.std.specs.List.{list_any, AllByRecursion, list_all}
pub use Rattle.std.specs.List.Sorted.{IsSortedByKey}
pub use Rattle.std.specs.Option.{option_copied}
pub use Rattle.std.specs.Ordering.{nat_cmp}
pub use Rattle.std.specs.Prelude.{pos, negsuc, neg_ℤ, decimal, ◌==◌, ◌⊎◌, nat_eq, ◌||◌, if◌then◌else◌, option_map, IsSomeAnd, is_some, nat_le, slice_get}
pub use Rattle.std.specs.Result.{result_ok}
pub use Rattle.std.specs.Str.{IsUtf8}
pub use Rattle.std.proofs.Common.{Ok, Option, ◌≡◌, ℕ, Bool, true, List, [], refl, ap, sym, subst, ◌∙◌, Global, inl, inr, ◌+◌, Some, None, ℤ, Result, Err, Vec, length, map, take, ◌<◌, ◌-◌, suc, false, ◌∷◌, ◌++◌, filter, flat_map, reverse, ap₂, append_assoc, append-nil, arith, ◌&&◌, not, find, Less, IsPermutation, IfOk, ◌≤◌, eq-eqb, lit≤, drop, rules}
pub use Rattle.std.proofs.lemmas.Bool.{cases_Bool}
pub use Rattle.std.proofs.lemmas.Bool.Decides.{nat_tests}
pub use Rattle.std.proofs.lemmas.Cmp.{nat_cmp_total, ranked}
pub use Rattle.std.proofs.lemmas.Fmt.{IsAscii-decimal, parse-decimal}
pub use Rattle.std.proofs.lemmas.List.{reverse-append, take_all, drop_more, drop_all}
pub use Rattle.std.proofs.lemmas.List.Sorted.{IsPermutation-reverse, IsPermutation-sym, answers_always}
pub use Rattle.std.proofs.lemmas.Option.{same_Some}
pub use Rattle.std.proofs.lemmas.Str.{IsUtf8-from_ascii}
pub use Rattle.sqlite.specs.Held.{state}
pub use Rattle.sqlite.specs.State.{State}
pub use Rattle.sqlite.specs.declared.error.Error.TheVariants.{SqliteFailure}
pub use Rattle.sqlite.specs.declared.error.ErrorCode.TheVariants.{OutOfMemory, TooBig}
pub use Rattle.sqlite_rules.specs.Lists.{Has}
pub use Rattle.sqlite_trees.specs.Tree.{IsAscending}
pub use Rattle.sqlite_keyed.proofs.ListLemmas.{all-append, all_weaker, ascending-append, ascending_weaker, all-filter, all_map}
pub use Rattle.sqlite_rules.proofs.ListLemmas.{all_has}
pub use Rattle.values.specs.Values.{same_text, is_name, is_title}
pub use Rattle.values.specs.declared.lot.LotId.{LotId}
pub use Rattle.commands.specs.Limits.{has_order_lines}
pub use Rattle.commands.specs.Lists.{total}
pub use Rattle.commands.specs.Sound.{is_sound, is_order_line, are_lines}
pub use Rattle.commands.specs.Tables.{Tables}
pub use Rattle.commands.specs.declared.command.Command.{Command}
pub use Rattle.commands.specs.declared.command.Command.TheVariants.{Receive, Move, Count, Adjust, Pick, Unpick, Ship, Hold, Recall, OpenDay, Least, Urgent, Order}
pub use Rattle.commands.specs.declared.command.NewBin.{NewBin}
pub use Rattle.commands.specs.declared.command.NewItem.{NewItem}
pub use Rattle.commands.specs.declared.command.OrderLine.{OrderLine}
pub use Rattle.commands.specs.declared.key.Key.{Key}
pub use Rattle.commands.specs.declared.limits.TheConstants.{ACTS_MAX}
pub use Rattle.commands.specs.declared.refusal.Refusal.{Refusal}
pub use Rattle.commands.specs.declared.refusal.Refusal.TheVariants.{UnknownBin, UnknownLot, UnknownItem, UnknownOrder}
pub use Rattle.commands.specs.declared.rows.BinRow.{BinRow}
pub use Rattle.commands.specs.declared.rows.CardKind.{CardKind}
pub use Rattle.commands.specs.declared.rows.CardKind.TheVariants.{Receipt, WriteOn, WriteOff as WrittenOff, Shipment}
pub use Rattle.commands.specs.declared.rows.CardRow.{CardRow}
pub use Rattle.commands.specs.declared.rows.ItemRow.{ItemRow}
pub use Rattle.commands.specs.declared.rows.LeastRow.{LeastRow}
pub use Rattle.commands.specs.declared.rows.LineRow.{LineRow}
pub use Rattle.commands.specs.declared.rows.LotRow.{LotRow}
pub use Rattle.commands.specs.declared.rows.MetaRow.{MetaRow}
pub use Rattle.commands.specs.declared.rows.OrderRow.{OrderRow}
pub use Rattle.commands.specs.declared.rows.RecallRow.{RecallRow}
pub use Rattle.commands.specs.declared.rows.ReservedRow.{ReservedRow}
pub use Rattle.commands.specs.declared.rows.ShiplineRow.{ShiplineRow}
pub use Rattle.commands.specs.declared.rows.ShipmentRow.{ShipmentRow}
pub use Rattle.commands.specs.declared.rows.StagedRow.{StagedRow}
pub use Rattle.commands.specs.declared.rows.StockRow.{StockRow}
pub use Rattle.commands.specs.declared.rows.UrgentRow.{UrgentRow}
pub use Rattle.commands.specs.declared.views.BinUnits.{BinUnits}
pub use Rattle.commands.specs.declared.views.NoticeView.{NoticeView}
pub use Rattle.commands.specs.declared.views.ShippedUnits.{ShippedUnits}
pub use Rattle.machine.specs.Acts.{Act, next_number}
pub use Rattle.machine.specs.Cards.{cards, card_line, card_lines, delivery_note, lot_units_in_house}
pub use Rattle.machine.specs.KeyedRows.{no_two, AreRows, AreOwn}
pub use Rattle.machine.specs.Ledger.{posting, correction, written, cleared, shipped_off, returned, posted, postings, made_unshippable}
pub use Rattle.machine.specs.Once.{IsHistory}
pub use Rattle.machine.specs.Planning.{is_open_state, is_open, order_state, staged_of_lot}
pub use Rattle.machine.specs.Postings.{is_lot, Place, Supplier, InBin, Stage, Shipped, WriteOff, Posting, balance, is_bin, is_stage, is_shipment, units_in, units_out, of_item}
pub use Rattle.machine.specs.Queries.{if_known}
pub use Rattle.machine.specs.Standing.{KnownLot, bin_named, lots, lot_known, orders, shipments_so_far, today, Placed, order_named, lines_placed, item_named, shipments, shipments_after, has_order, has_line, items}
pub use Rattle.machine.specs.Tables.{meta_row, card_row, urgent_row, if_urgent, order_row, if_any, shipment_row, item_row}
unfoldable pub use Rattle.machine.specs.Tables.{tables_of}
pub use Rattle.machine.specs.Verdict.{verdict}
pub use Rattle.machine.specs.Views.{card_of_lot, bins_of_lot, shipments_of_lot, shipped_units, has_shipped_units, customer_of, order_view, short_view, stock_view}
pub use Rattle.machine.proofs.Apart.{AreApart, any_found}
pub use Rattle.machine.proofs.Tests.{same_text_is, same_text_refl, is_lot_is, is_lot_refl, is_lot_turned, or_none, and_both, or_first, or_later, or_false, same_text_turned}
pub use Rattle.machine.proofs.histories.Accepted.{room_for_acts, ship_accepted}
pub use Rattle.machine.proofs.histories.AfterShipping.{filter_appended, shipment_after, unknown_unstaged}
pub use Rattle.machine.proofs.histories.KnownPlaces.{unknown_shipment_is_empty}
pub use Rattle.machine.proofs.histories.LineLimits.{shipments_within_acts}
pub use Rattle.machine.proofs.histories.Lots.{same_known, lots_apart}
pub use Rattle.machine.proofs.histories.Notices.{shipments_apart}
pub use Rattle.machine.proofs.histories.Orders.{found_order, same_order as same_order_placed}
pub use Rattle.machine.proofs.histories.ReturnedUnits.{returned_has_no_line}
pub use Rattle.row_rules.specs.declared.slice.Rows.{Rows}
pub use Rattle.rules.proofs.decided.orders.ShipStep.{card_of, found_line}
pub use Rattle.rules.proofs.rows.Telling.{found_key, some_of_mapped}
pub use Rattle.overviews.specs.Pages.{page, lots_in_bin, bin_view, expiring_lots, expiring_view, items_behind, item_names_view, open_orders, open_orders_view}
pub use Rattle.overviews.specs.Shown.{bin_shown, expiring_shown, item_names_shown, open_orders_shown}
pub use Rattle.overviews.specs.declared.lists.TheConstants.{PAGE_MAX, NAMES_MAX}
pub use Rattle.views.specs.GivenBin.{bin_and_more}
pub use Rattle.views.specs.GivenExpiring.{lots_and_more}
pub use Rattle.views.specs.GivenNames.{items_and_more}
pub use Rattle.views.specs.GivenOpen.{page_and_more}
pub use Rattle.views.specs.SeenStock.{bins_seen}
pub use Rattle.views.specs.Shown.{AreShown, orders_item, is_staged_for, is_reserved_for}
pub use Rattle.views.specs.ShownBin.{known_bin, AreInBin, is_item_in_bin, AreOfBinPage}
pub use Rattle.views.specs.ShownExpiring.{known_row, IsLotSeenLast, AreInHouse, is_item_on_page, AreOfLotsPage}
pub use Rattle.views.specs.ShownNames.{row_of_item, AreItems, is_named, AreAsked}
pub use Rattle.views.specs.ShownOpen.{placed_row, served_order, IsSeenLast, AreOpen, is_on_page, AreOfPage}
pub use Rattle.views.specs.ShownShort.{AreDemanded}
pub use Rattle.views.specs.ShownStock.{AreStocked}
pub use Rattle.views.specs.declared.open_orders.ServedOrder.{ServedOrder}
pub use Rattle.views.proofs.AllBinsShown.{all_bins_shown}
pub use Rattle.views.proofs.BinPage.{bin_page_shown}
pub use Rattle.views.proofs.ExpiringPage.{lots_page_shown}
pub use Rattle.views.proofs.FirstInOrder.{take_map, page_of_more}
pub use Rattle.views.proofs.NamesPage.{items_page_shown}
pub use Rattle.views.proofs.NamesShown.{items_once}
pub use Rattle.views.proofs.OpenOnce.{page_once}
pub use Rattle.views.proofs.OpenPage.{page_shown}
pub use Rattle.rows_in_memory.specs.Keys.{has_key, with_keys}
pub use Rattle.rows_in_memory.specs.OpenLines.{Entries, all_names, orders_at, holds}
pub use Rattle.rows_in_memory.proofs.KeysOnce.{has_keys, once_keys}
pub use Rattle.rows_in_memory.proofs.NamesOnce.{names_once}
pub use Rattle.table_words.specs.Found.{only_if}
pub use Rattle.table_words.specs.Typed.{ItemKey, same_item, item_key, least_key, LotKey, same_lot, lot_key, recall_key, StockKey, same_stock, stock_key, same_lot_id, same_card, card_key, StagedKey, same_staged, staged_key, ReservedKey, same_reserved, reserved_key, OrderKey, same_order, order_key, is_open_order, urgent_key, LineKey, same_line, line_key, BinKey, same_bin, bin_key, ShipmentKey, same_shipment, shipment_key}
pub use Rattle.table_words.proofs.CellLemmas.{same_number, itself_number, same_lots, itself_lot}
pub use Rattle.table_words.proofs.KeyLemmas.{first_row, itself_bytes}
pub use Rattle.keyed_rows.specs.Ordered.{AreInOrder}
pub use Rattle.keyed_rows.proofs.Laws.{typed_rows}
pub use Rattle.keyed_rows.proofs.Rising.{few_with_key, found_alike, found_wanted, one_order}
pub use Rattle.tables.specs.ByKey.{AreCardLines}
pub use Rattle.tables.specs.Cards.{AreCardsOf}
pub use Rattle.tables.specs.Stock.{AreStockOfLot, stock, stock_laws}
pub use Rattle.whole_tables.specs.Keys.{number_same}
pub use Rattle.whole_tables.proofs.Deciding.{few_once, few_moved, rises, found_sorted}
pub use Rattle.slices.specs.ByLot.{AreLotsOf, AreStockOf}
pub use Rattle.slices.specs.Reading.{IsRead}
pub use Rattle.slices.specs.Remembering.{Learning, KnowsRows}
pub use Rattle.slices.specs.Slicing.{is_among, items_of_lots, is_open_in, is_passed, with_names, Covers, AreOrders, AreLeast, AreUrgents, Each, listed, others, has_line_in, with_lines, AreLinesOf, AreLines, AreAllLines, AreBins}
pub use Rattle.slices.specs.declared.knowing.Known.{Known}
pub use Rattle.slices.specs.declared.rows_known.RowsKnown.{RowsKnown}
pub use Rattle.slices.proofs.Counted.{any_mapped}
pub use Rattle.slices.proofs.KeysRead.{keys_read}
pub use Rattle.slices.proofs.KeysTold.{same_cell_is, same_cell_refl, same_share_is, same_share_refl, same_line_is, same_line_refl}
pub use Rattle.slices.proofs.KnowingSteps.{and_known, known_told, unasked, known_as}
pub use Rattle.slices.proofs.KnownOrders.{orders_told as known_orders_told, lines_told as known_lines_told}
pub use Rattle.slices.proofs.KnownSteps.{seek_step, each_one}
pub use Rattle.slices.proofs.LinesTold.{line_some, line_items}
pub use Rattle.slices.proofs.ReadSteps.{so_told, has_read, read_on, fails_later, no_room_left, and_then, fails_first, as_told, no_room_yet, then_read, read_fails, no_room, read_none, read_of, never_foreign}
pub use Rattle.slices.proofs.RowsTold.{rows_read, rows_as, and_true, any_append, rows_kept, rows_passed, any_read, or_true, rows_joined, one_read}
pub use Rattle.slices.proofs.SeekSteps.{each_read, line_step, each_place}
pub use Rattle.slices.proofs.SliceRight.{open_told, keyed}
pub use Rattle.slices.proofs.SliceTold.{among_names, once_names, sought}
pub use Rattle.slices.proofs.UrgentOrders.{urgents_of_each, urgents_told}
pub use Rattle.queries.specs.Asked.{IsKnownOf, Asking}
pub use Rattle.queries.specs.ByOrder.{AreStagedOf, AreReservedOf}
pub use Rattle.queries.specs.Heads.{card_head_of}
pub use Rattle.queries.specs.Refused.{notice_with_head, card_head_right}
pub use Rattle.queries.specs.Shipped.{is_of_shipment, units_told, AllTell, AreShipped, shipment_cards, IsLineOf, with_order, with_shipment, TellsOf, AreTold}
pub use Rattle.queries.specs.ShownBin.{lots_of_stock, AreStockAndLots, AreOfGoods, AreInBinRead, AreInBinBehind, AreBehind, IsBinIn}
pub use Rattle.queries.specs.ShownExpiring.{IsLotSeen, lots_in_house, AreHouse, AreOfItems, AreExpiring, AreExpiringBehind, AreExpiringIn}
pub use Rattle.queries.specs.ShownNames.{gtins_of, AreNamed, IsItemSeen, AreNamesBehind, AreNamesIn}
pub use Rattle.queries.specs.ShownNotice.{IsNoticeIn, whole, whole_notice_shown, head_of}
pub use Rattle.queries.specs.ShownOpen.{AreAllOpen, order_of, order_in, names_served, AreOfOrders, AreListed, IsSeen, IsOpenIn}
pub use Rattle.queries.specs.ShownOrders.{booked_lots, reserved_lots, AreOfOrder, IsOrderIn, AreOrderLines}
pub use Rattle.queries.specs.ShownShort.{AreOrdered, AreOrderedFor, AreUrgentFor, AreOfDemands, IsShortIn}
pub use Rattle.queries.specs.ShownStock.{AreOfItem, IsStockIn}
pub use Rattle.queries.specs.declared.shown_notice.NoticeRows.{NoticeRows}
pub use Rattle.overviews.specs.Picks.{picks_view}
pub use Rattle.views.specs.ShownPicks.{AreLineItems}
pub use Rattle.queries.specs.ShownPicks.{AreItemRows, AreOfPicks, ArePicksIn}
pub use Rattle.tables.specs.Recalls.{recalls, recalls_laws}
pub use Rattle.overviews.specs.Figures.{figures_shown, figures_view}
pub use Rattle.views.specs.ShownFigures.{AreCounted}
pub use Rattle.queries.specs.ShownFigures.{AreAllReserved, AreAllRecalls, AreOpenRows, AreFigures, AreFiguresOf}
