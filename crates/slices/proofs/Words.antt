-- What the proofs of this crate say of what it stands on: each word from where it is defined.
pub use Rattle.std.specs.Cmp.Lexicographic.{slice_cmp}
pub use Rattle.std.specs.List.{list_any, list_all, AllByRecursion, cons_option}
pub use Rattle.std.specs.Option.{option_to_list}
pub use Rattle.std.specs.Ordering.{is_eq, nat_cmp}
pub use Rattle.std.specs.Prelude.{nat_le, is_some, ◌||◌, if◌then◌else◌, ◌==◌, nat_lt, option_map, ℤ, pos, ◌+ℤ◌, bytes_eq, get_or, IfSome, IsErr, IsErrAnd, IsSome, reverse, slice_get}
pub use Rattle.std.specs.declared.cmp.Ordering.{Ordering}
pub use Rattle.std.proofs.Common.{◌≡◌, inl, inr, ℕ, ◌<◌, ◌≤◌, true, List, map, length, refl, ap, sym, subst, ◌∙◌, arith, find, Option, ◌+◌, Bool, false, ◌&&◌, not, [], ◌∷◌, filter, Some, None, ◌++◌, take, Result, Ok, append_assoc, Err, OnOk, OnErr, IfOk, IsTrue, IfErr, rules, Vec, Global, drop, ◌⊎◌, add-one, drop-cons}
pub use Rattle.std.proofs.Math.Seq.{drop-length}
pub use Rattle.std.proofs.lemmas.Bool.{cases_Bool, eqb-true}
pub use Rattle.std.proofs.lemmas.Bool.Decides.{nat_tests}
pub use Rattle.std.proofs.lemmas.List.{take_more, map_more, take_all, nil_from_length}
pub use Rattle.sqlite.specs.Effect.{Database}
pub use Rattle.sqlite.specs.Held.{state}
pub use Rattle.sqlite.specs.State.{State, HasCleanDisk, Survives, KeepsCommit, IsUnchanged}
pub use Rattle.sqlite.specs.declared.error.Error.{Error}
pub use Rattle.sqlite.specs.declared.error.Error.TheVariants.{SqliteFailure}
pub use Rattle.sqlite.specs.declared.error.ErrorCode.TheVariants.{OutOfMemory}
pub use Rattle.sqlite_value.specs.Order.{column}
pub use Rattle.values.specs.Values.{same_text, is_name, is_title}
pub use Rattle.values.specs.declared.lot.LotId.{LotId}
pub use Rattle.commands.specs.Limits.{has_order_lines}
pub use Rattle.commands.specs.Names.{names_of, is_picked}
pub use Rattle.commands.specs.Sound.{is_order_line, are_lines, is_sound}
pub use Rattle.commands.specs.Tables.{Tables}
pub use Rattle.commands.specs.declared.command.Command.{Command}
pub use Rattle.commands.specs.declared.command.Command.TheVariants.{Item, Bin, OpenDay, Pick, Ship, Receive, Move, Count, Adjust, Order, Urgent, Cancel, Unpick, Hold, Release, Recall, Least}
pub use Rattle.commands.specs.declared.command.NewBin.{NewBin}
pub use Rattle.commands.specs.declared.command.NewItem.{NewItem}
pub use Rattle.commands.specs.declared.command.OrderLine.{OrderLine}
pub use Rattle.commands.specs.declared.command.Picking.{Picking}
pub use Rattle.commands.specs.declared.key.Key.{Key}
pub use Rattle.commands.specs.declared.limits.TheConstants.{ITEMS_MAX, BINS_MAX}
pub use Rattle.commands.specs.declared.names.Added.{Added}
pub use Rattle.commands.specs.declared.names.NamedOrder.{NamedOrder}
pub use Rattle.commands.specs.declared.rows.BinRow.{BinRow}
pub use Rattle.commands.specs.declared.rows.ItemRow.{ItemRow}
pub use Rattle.commands.specs.declared.rows.LeastRow.{LeastRow}
pub use Rattle.commands.specs.declared.rows.LineRow.{LineRow}
pub use Rattle.commands.specs.declared.rows.LotRow.{LotRow}
pub use Rattle.commands.specs.declared.rows.MetaRow.{MetaRow}
pub use Rattle.commands.specs.declared.rows.OrderRow.{OrderRow}
pub use Rattle.commands.specs.declared.rows.OrderState.{OrderState}
pub use Rattle.commands.specs.declared.rows.OrderState.TheVariants.{Open, Done, Cancelled}
pub use Rattle.commands.specs.declared.rows.RecallRow.{RecallRow}
pub use Rattle.commands.specs.declared.rows.ReservedRow.{ReservedRow}
pub use Rattle.commands.specs.declared.rows.StagedRow.{StagedRow}
pub use Rattle.commands.specs.declared.rows.StockRow.{StockRow}
pub use Rattle.commands.specs.declared.rows.UrgentRow.{UrgentRow}
pub use Rattle.machine.specs.Acts.{Act, next_number}
pub use Rattle.machine.specs.KeyedRows.{no_two, AreOwn, AreRows}
pub use Rattle.machine.specs.Once.{IsHistory}
pub use Rattle.machine.specs.Planning.{is_open_state, staged_of_lot, order_state, is_open, shipped_of}
pub use Rattle.machine.specs.Postings.{of_item, is_lot}
pub use Rattle.machine.specs.Standing.{items, item_named, least_days, KnownLot, lots, lots_of, lot_known, has_lot, is_held, recalling, is_recalled, is_expired, today, is_shippable, orders, order_named, has_order, lines_of, has_line, item_in, bins, Placed, lines_placed, is_cancelled, order_in}
pub use Rattle.machine.specs.Tables.{least_row, if_any, meta_row}
unfoldable pub use Rattle.machine.specs.Tables.{tables_of}
pub use Rattle.machine.specs.Touched.{is_affected, touches}
pub use Rattle.machine.specs.Verdict.{verdict}
pub use Rattle.machine.proofs.Apart.{AreApart, any_found, apart-filter, AllFound, all_found}
pub use Rattle.machine.proofs.Tests.{same_text_is, same_text_refl, and_both, and_false, or_none, or_later, not_true, same_text_turned, or_first, same_tests, some_one, is_lot_is, is_lot_refl, or_false, is_lot_turned, is_lot_item}
pub use Rattle.machine.proofs.histories.Accepted.{item_accepted}
pub use Rattle.machine.proofs.histories.KnownPlaces.{unknown_order_is_unstaged, unknown_lot_is_nowhere}
pub use Rattle.machine.proofs.histories.LeastDays.{unknown_item_asks_none}
pub use Rattle.machine.proofs.histories.Lots.{same_known, lots_found, found_lot}
pub use Rattle.machine.proofs.histories.Notices.{bins_apart}
pub use Rattle.machine.proofs.histories.Orders.{found_order}
pub use Rattle.row_rules.specs.Seen.{has_recall}
pub use Rattle.row_rules.specs.Status.{days_in, least_seen}
pub use Rattle.row_rules.specs.declared.slice.Put.{Put}
pub use Rattle.row_rules.specs.declared.slice.Rows.{Rows}
pub use Rattle.row_rules.specs.declared.slice.Slice.{Slice}
pub use Rattle.row_rules.proofs.Walking.{append_none, IsKept}
pub use Rattle.rules.specs.Slices.{IsSlice, has_touched_line, on_named_stage, names_order, names_bin, names_lot, counts_items, counts_bins, ships, picks, plans, takes_step, is_share, names_reserved, is_named, is_named_lot, is_either, in_bins, on_stages, is_item, is_bin}
pub use Rattle.rules.proofs.rows.SliceTells.{some_mapped, names_touched}
pub use Rattle.rules.proofs.rows.Telling.{found_key}
pub use Rattle.rows_in_memory.specs.Keyed.{same_lot_row, same_urgent_row, same_line_row, same_staged_row, same_reserved_row, same_stock_row}
pub use Rattle.rows_in_memory.specs.Keys.{has_key, with_keys}
pub use Rattle.rows_in_memory.specs.KnownRows.{RowMap, rows_at, KnowsNone, without_row, with_put, each_changed, ChangesBy, last_set, SetsBy, Remembers, ForgetsBy, LearnsAt}
pub use Rattle.rows_in_memory.specs.LineOrder.{turned_line, line_key_cmp, lines_told, lines_exact}
pub use Rattle.rows_in_memory.specs.LotOrder.{lot_key as turned_lot, lot_key_cmp}
pub use Rattle.rows_in_memory.specs.NameOrder.{names_told, names_exact}
pub use Rattle.rows_in_memory.specs.OpenLines.{Entries, holds, Gains, Loses, has_line_row, is_closed_state, has_closed_row, orders_at, are_apart, Keeps}
pub use Rattle.rows_in_memory.proofs.KeysOnce.{has_keys, once_keys}
pub use Rattle.rows_in_memory.proofs.Learned.{remembers_all, remembers_left, remembers_none}
pub use Rattle.rows_in_memory.proofs.Names.{apart_kept}
pub use Rattle.table_words.specs.Cells.{is_the_number}
pub use Rattle.table_words.specs.Found.{only_if}
pub use Rattle.table_words.specs.Steps.{IsReady}
pub use Rattle.table_words.specs.Typed.{item_key, bin_key, OrderKey, same_order, order_key, is_open_order, urgent_key, LineKey, same_line, line_key, ItemKey, same_item, least_key, LotKey, same_lot, lot_key, recall_key, StagedKey, same_staged, staged_key, same_lot_id, StockKey, same_stock, tables_in, BinKey, same_bin, stock_key, ReservedKey, same_reserved, reserved_key, AreTyped, is_meta}
pub use Rattle.table_words.specs.declared.error.TableFault.{TableFault}
pub use Rattle.table_words.specs.declared.error.TableFault.TheVariants.{Store, Foreign}
pub use Rattle.table_words.proofs.CallLemmas.{kept_unchanged, kept_itself, kept_then, inside_then}
pub use Rattle.table_words.proofs.KeyLemmas.{IsSame, first_row, itself_both, itself_bytes, same_bytes}
pub use Rattle.keyed_rows.specs.Writes.{each_written}
pub use Rattle.keyed_rows.proofs.Laws.{typed_rows}
pub use Rattle.keyed_rows.specs.Described.{with_row}
pub use Rattle.tables.specs.Bins.{AreBinsOf}
pub use Rattle.tables.specs.Items.{AreItemsOf}
pub use Rattle.tables.specs.Least.{is_asking, AreLeastOf}
pub use Rattle.tables.specs.Lines.{AreLinesOfOrder, AreLineOf, lines, lines_laws, filled_line, lines_filled}
pub use Rattle.tables.specs.Lots.{AreLotOf}
pub use Rattle.tables.specs.Meta.{meta, meta_laws}
pub use Rattle.tables.specs.Orders.{AreOrdersOf}
pub use Rattle.tables.specs.Recalls.{AreRecallsOf}
pub use Rattle.tables.specs.Reserved.{AreReservedOfItem, AreReservedOfOrder, AreReservedOf}
pub use Rattle.tables.specs.Staged.{AreStagedOfItem, AreStagedOfOrder, AreStagedOf}
pub use Rattle.tables.specs.Stock.{AreStockOf, AreStockOfLot}
pub use Rattle.tables.specs.Urgents.{AreUrgentsOf}
pub use Rattle.slices.specs.Books.{IsBooksOf}
pub use Rattle.slices.specs.Bounding.{IsAtMost, AreBounds, IsToldNumber, with_counts, IsRaised}
pub use Rattle.slices.specs.ByLot.{AreLotsOf}
pub use Rattle.slices.specs.Following.{KnowsFollowed, KnowsNoneFollowed, KnowsMeta, StageEmptied, StageLeft}
pub use Rattle.slices.specs.Reading.{IsCount, Each, IsRead, Knowing}
pub use Rattle.slices.specs.Remembering.{KnowsRows, KnowsNoRows, Learning, ForgetsPut, IsAlone, LearnsEach}
pub use Rattle.slices.specs.Slicing.{AreCounts, is_among, is_passed, is_open_in, with_names, other_names, has_urgent_row, urgent_lines, opens, opened_by, comes, Covers, CoversUrgent, AreAllLines, AreUrgents, AreLined, AreNamed, AreKnownOrders, AreOpenLines, AreLinesPut, AreUrgentsPut, Knows, is_ending, items_of_lots, AreEnding, AreAffected, listed, has_line_in, AreLinesOfItem, AreLinesOfItems, AreOrders, HoldsOf, ArePicked, AreLinesOf, AreLinesFor, lots_on_stage, AreShipped, IsSliceOf, IsSliceIn, AreSliced, orders_named, with_some, items_named, lots_named, bins_named, whole_orders, held_lots, AreTaken, AreTouched, ArePlanned, with_name, names_among, names_at, AreUrgentsFor, with_staged, not_recalled, AreStaged, AreBins, AreGoods}
pub use Rattle.slices.specs.declared.followed.Followed.{Followed}
pub use Rattle.slices.specs.declared.knowing.Bounds.{Bounds}
pub use Rattle.slices.specs.declared.knowing.Known.{Known}
pub use Rattle.slices.specs.declared.rows_known.RowsKnown.{RowsKnown}
pub use Rattle.slices.specs.Filling.{is_filled, FillsLines}
