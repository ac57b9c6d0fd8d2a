-- What the proofs of this crate say of what it stands on: each word from where it is defined.
pub use Rattle.std.specs.Cmp.Lexicographic.{slice_cmp}
pub use Rattle.std.specs.List.{AllByRecursion, list_all, cons_option, list_any}
pub use Rattle.std.specs.Option.{unwrap_or, option_copied}
pub use Rattle.std.specs.Ordering.{nat_cmp, is_eq}
pub use Rattle.std.specs.Prelude.{pos, int_le, int_lt, nat_le, is_some, if◌then◌else◌, option_map, min, ◌||◌, All, bytes_eq, reverse, IfSome, ◌≢◌, is_ok, codes, nat_eq, negsuc, neg_ℤ, decimal, ⊤, ◌==◌, flat_map, FitsSigned}
pub use Rattle.std.specs.Result.{IsErr, IsErrAnd, IsOk, MatchResult}
pub use Rattle.std.specs.declared.cmp.Ordering.{Ordering}
pub use Rattle.std.proofs.Common.{◌≡◌, ℕ, ◌+◌, ◌≤◌, Bool, true, false, ◌&&◌, List, [], ◌∷◌, find, length, Option, Some, None, refl, subst, arith, ℤ, Result, Ok, Err, sym, IsTrue, ap, ◌∙◌, inl, inr, OnOk, ◌⊎◌, take, drop, IfOk, OnErr, IfErr, map, filter, ◌++◌, slice_get, zero, suc, ◌-◌, rules, w64}
pub use Rattle.std.proofs.lemmas.Bool.{cases_Bool, eqb-true}
pub use Rattle.std.proofs.lemmas.Bool.Decides.{nat_tests}
pub use Rattle.std.proofs.lemmas.Grind.{common_steps}
pub use Rattle.std.proofs.lemmas.Int.{ints, to_z-of_z}
pub use Rattle.std.proofs.lemmas.List.Elements.{All-head, All-tail, All-drop, All-same, All-more}
pub use Rattle.std.proofs.lemmas.Result.{err_from_is_err_and}
pub use Rattle.sqlite.specs.Effect.{Database}
pub use Rattle.sqlite.specs.Held.{Held, state}
pub use Rattle.sqlite.specs.Schema.{Schema}
pub use Rattle.sqlite.specs.State.{State, HasCleanDisk, KeepsCommit, IsUnchanged, Shows, IsRolledBack, Survives, Opens, IsLive}
pub use Rattle.sqlite.specs.Steps.{FailsToCommit}
pub use Rattle.sqlite.specs.Table.{Table}
pub use Rattle.sqlite.specs.Tree.{Trees}
pub use Rattle.sqlite.specs.declared.error.Error.{Error}
pub use Rattle.sqlite.specs.declared.error.Error.TheVariants.{SqliteFailure}
pub use Rattle.sqlite.specs.declared.error.ErrorCode.TheVariants.{OutOfMemory}
pub use Rattle.sqlite_trees.specs.View.{doubt}
pub use Rattle.sqlite_trees.specs.declared.store.Store.{Ghosts}
pub use Rattle.sqlite_value.specs.Order.{column}
pub use Rattle.sqlite_value.specs.declared.value.Value.{Value}
pub use Rattle.sqlite_value.specs.declared.value.Value.TheVariants.{Int}
pub use Rattle.sqlite.proofs.StateLemmas.{survives_then, survives_weaker}
pub use Rattle.sqlite_keyed.proofs.ListLemmas.{all_weaker, all-append}
pub use Rattle.values.specs.Values.{is_between, is_name, is_title, is_qty, same_text, QTY_MAX, is_gtin, is_least_days, LEAST_DAYS_MAX, is_counted, is_delta}
pub use Rattle.values.specs.declared.lot.LotId.{LotId}
pub use Rattle.label.specs.Days.{is_day, is_business_day}
pub use Rattle.commands.specs.Limits.{has_order_lines}
pub use Rattle.commands.specs.Names.{names_of}
pub use Rattle.commands.specs.Sound.{is_sound, is_new_order, is_order_line, are_lines, is_lot_id, is_sound_key}
pub use Rattle.commands.specs.Spelling.{key_text}
unfoldable pub use Rattle.commands.specs.Spelling.{spelling}
pub use Rattle.commands.specs.Tables.{Tables}
pub use Rattle.commands.specs.declared.command.BinKind.TheVariants.{Hold}
pub use Rattle.commands.specs.declared.command.Command.{Command}
pub use Rattle.commands.specs.declared.command.Command.TheVariants.{Receive, Order, Urgent, Ship, Recall, OpenDay, Move, Count, Adjust, Pick, Unpick}
pub use Rattle.commands.specs.declared.command.NewLeast.{NewLeast}
pub use Rattle.commands.specs.declared.command.NewOrder.{NewOrder}
pub use Rattle.commands.specs.declared.command.OrderLine.{OrderLine}
pub use Rattle.commands.specs.declared.command.Receipt.{Receipt}
pub use Rattle.commands.specs.declared.key.Key.{Key}
pub use Rattle.commands.specs.declared.limits.TheConstants.{ACTS_MAX, SCHEMA_VERSION, UNITS_MAX}
pub use Rattle.commands.specs.declared.refusal.Refusal.{Refusal}
pub use Rattle.commands.specs.declared.refusal.Refusal.TheVariants.{KeyUsed}
pub use Rattle.commands.specs.declared.rows.BinRow.{BinRow}
pub use Rattle.commands.specs.declared.rows.CardKind.{CardKind}
pub use Rattle.commands.specs.declared.rows.CardKind.TheVariants.{WriteOn, WriteOff as WrittenOff, Shipment}
pub use Rattle.commands.specs.declared.rows.CardRow.{CardRow}
pub use Rattle.commands.specs.declared.rows.ItemRow.{ItemRow}
pub use Rattle.commands.specs.declared.rows.LeastRow.{LeastRow}
pub use Rattle.commands.specs.declared.rows.LineRow.{LineRow}
pub use Rattle.commands.specs.declared.rows.LotRow.{LotRow}
pub use Rattle.commands.specs.declared.rows.MetaRow.{MetaRow}
pub use Rattle.commands.specs.declared.rows.OrderRow.{OrderRow}
pub use Rattle.commands.specs.declared.rows.RecallRow.{RecallRow}
pub use Rattle.commands.specs.declared.rows.RepeatRow.{RepeatRow}
pub use Rattle.commands.specs.declared.rows.ReservedRow.{ReservedRow}
pub use Rattle.commands.specs.declared.rows.ShiplineRow.{ShiplineRow}
pub use Rattle.commands.specs.declared.rows.ShipmentRow.{ShipmentRow}
pub use Rattle.commands.specs.declared.rows.StagedRow.{StagedRow}
pub use Rattle.commands.specs.declared.rows.StockRow.{StockRow}
pub use Rattle.commands.specs.declared.rows.UrgentRow.{UrgentRow}
pub use Rattle.machine.specs.Acts.{Act, gathered, next_number}
pub use Rattle.machine.specs.Cards.{cards, card_line, card_lines, delivery_note, lot_units_in_house}
pub use Rattle.machine.specs.Ledger.{posting, correction, written, cleared, shipped_off, lot_returned, returned, posted, postings, postings_of, made_unshippable}
pub use Rattle.machine.specs.Machine.{AllSound}
pub use Rattle.machine.specs.Once.{IsHistory, is_key_of, bearer, outcome, acts_after, appended, judged, Outcome, Accepted, Repeated, IsSoundRequest, tallied, unless_refused, all_tallied, file_outcome_of, acts_after_file, acts_if_taken, Earlier, told_again}
pub use Rattle.machine.specs.Planning.{in_bin, staged_of_lot, item_postings, staged, shipped, shipped_of, reserved}
pub use Rattle.machine.specs.Postings.{Place, Supplier, InBin, Stage, Shipped, WriteOff, Posting, balance, is_stage, is_shipment, is_lot}
pub use Rattle.machine.specs.Queries.{notice_shown, order_shown, short_shown, stock_shown}
pub use Rattle.machine.specs.Replies.{reply}
pub use Rattle.machine.specs.Schemas.{are_of_schema}
pub use Rattle.machine.specs.Standing.{KnownLot, lot_among, lots, lots_after, lot_known, Recalling, recall_in, recalling, least_in, days_asked, item_named, Placed, order_in, orders, order_named, lines_placed, lines_of, shipments, shipments_after, day_after_command, today, RETURNS, returns_bin, is_cancelled, shipments_so_far}
pub use Rattle.machine.specs.Tables.{lot_row, least_row, recall_row, order_row, if_urgent, urgent_row, shipment_row, repeat_row, meta_row, bin_row, if_any, stock_row, line_row, staged_row, reserved_row, shipline_row, card_row}
unfoldable pub use Rattle.machine.specs.Tables.{tables_of}
pub use Rattle.machine.specs.Verdict.{verdict, names_item_twice}
pub use Rattle.machine.specs.Views.{card_of_lot}
pub use Rattle.machine.proofs.Apart.{any_found}
pub use Rattle.machine.proofs.Tests.{and_both, some_one, or_first, or_later, and_false, same_text_refl, or_none, is_lot_item}
pub use Rattle.machine.proofs.histories.Accepted.{receive_accepted}
pub use Rattle.machine.proofs.histories.AfterShipping.{shipment_after}
pub use Rattle.machine.proofs.histories.Cells.{IsPart, holds_split}
pub use Rattle.machine.proofs.histories.ClosedOrders.{served, served_is, served_within_ordered}
pub use Rattle.machine.proofs.histories.KnownPlaces.{unknown_shipment_is_empty}
pub use Rattle.machine.proofs.histories.LegalHistories.{legal_history}
pub use Rattle.machine.proofs.histories.LineLimits.{shipments_within_acts, ordered_within_limit}
pub use Rattle.machine.proofs.histories.Needs.{line_qty, needs_of_line, reserved_within_needs, unknown_is_unreserved}
pub use Rattle.machine.proofs.histories.Notices.{shipments_apart}
pub use Rattle.machine.proofs.histories.OlderBooks.{first_books_go_on, second_books_go_on}
pub use Rattle.machine.proofs.histories.Orders.{AllSingle, orders_single}
pub use Rattle.machine.proofs.histories.Runs.{history_after, history_file}
pub use Rattle.row_rules.specs.declared.slice.Change.{Change}
pub use Rattle.row_rules.specs.declared.slice.Put.{Put}
pub use Rattle.row_rules.specs.declared.slice.RuleFault.{RuleFault}
pub use Rattle.row_rules.specs.declared.slice.RuleFault.TheVariants.{NoMemory}
pub use Rattle.rules.specs.Slices.{IsDecision, tables_but_repeats}
unfoldable pub use Rattle.rules.specs.Slices.{applied}
pub use Rattle.rules.proofs.rows.LotUnits.{lot_within_limit, bin_within_limit}
pub use Rattle.overviews.specs.Shown.{bin_shown, expiring_shown, item_names_shown, open_orders_shown, books_shown}
pub use Rattle.rows_in_memory.specs.KnownRows.{RowMap, rows_at, ChangesBy, SetsBy, Remembers, with_put, without_row as without_listed, ForgetsBy}
pub use Rattle.rows_in_memory.specs.LineOrder.{turned_line, line_key_cmp, lines_told}
pub use Rattle.rows_in_memory.specs.LotOrder.{lot_key as turned_lot, lot_key_cmp, lots_told}
pub use Rattle.rows_in_memory.specs.NameOrder.{names_told, names_exact}
pub use Rattle.rows_in_memory.specs.OpenLines.{Keeps, has_line_row}
pub use Rattle.rows_in_memory.proofs.Learned.{remembers_none}
pub use Rattle.table_words.specs.Cells.{is_expiry, typed, is_the_number, is_the_text, is_signed, is_number, is_card_units}
pub use Rattle.table_words.specs.Found.{AreRows}
pub use Rattle.table_words.specs.Schema.{meta_table, least_table, urgents_table, the_tables}
pub use Rattle.table_words.specs.Steps.{IsReady, Goes}
pub use Rattle.table_words.specs.Stored.{fits_row}
pub use Rattle.table_words.specs.Typed.{lot_mapping, least_mapping, recall_mapping, order_mapping, urgent_mapping, shipment_mapping, tables_in, AreTyped, with_repeat, item_key, bin_key, with_item, with_bin, same_lot, same_line, same_staged, staged_key, without_staged, LineKey, with_order, with_urgent, with_line, order_key, is_open_order, is_meta, is_meta_at, meta_in, meta_at, same_meta, meta_key, RepeatKey, same_repeat, repeat_key, StagedKey, stock_mapping, line_mapping, staged_mapping, reserved_mapping, shipline_mapping, card_mapping}
pub use Rattle.table_words.specs.declared.error.TableFault.{TableFault}
pub use Rattle.table_words.specs.declared.error.TableFault.TheVariants.{Store as TableStore, Foreign as TableForeign}
pub use Rattle.table_words.proofs.CallLemmas.{kept_itself, kept_unchanged, kept_then, inside_itself, inside_then, put_back, kept_undone}
pub use Rattle.table_words.proofs.CellLemmas.{typed_some}
pub use Rattle.table_words.proofs.KeyLemmas.{itself_bytes, same_bytes}
pub use Rattle.table_words.proofs.StepLemmas.{tables_same, typed_same, typed_at}
pub use Rattle.keyed_rows.specs.Described.{with_row, without_row}
pub use Rattle.keyed_rows.specs.Handed.{HandsOver, IsLeft}
pub use Rattle.keyed_rows.specs.Writes.{Writes, each_written}
pub use Rattle.keyed_rows.specs.declared.each_fault.EachFault.{EachFault as RowsFault}
pub use Rattle.keyed_rows.proofs.Writing.{same_error, writes_none, writes_then}
pub use Rattle.tables.specs.ByKey.{AreCardLines}
pub use Rattle.tables.specs.Meta.{fits_meta}
pub use Rattle.tables.specs.Repeats.{fits_repeat, repeats, repeats_laws}
pub use Rattle.tables.specs.Staged.{AreStagedOfItem, AreStagedOfOrder, staged_laws}
pub use Rattle.books_schema.specs.Bringing.{as_older, as_brought}
pub use Rattle.books_schema.specs.Creation.{first_rows}
pub use Rattle.books_schema.specs.Ending.{Ends}
pub use Rattle.books_schema.specs.Keeping.{KeepsRows}
pub use Rattle.books_schema.specs.Older.{number, older_tables}
pub use Rattle.books_schema.specs.Opening.{HasDayIn, HasSchema, IsReadyAs, AreReadTyped, KeepsRowsAs, ComesTo, IsCome, IsLeftAs, IsOpenAndSettled, Tells, TellTables}
pub use Rattle.books_schema.specs.Settling.{HasDayAt, IsNumbered}
pub use Rattle.books_schema.specs.declared.older.OlderBooks.{OlderBooks}
pub use Rattle.books_schema.specs.declared.older.OlderBooks.TheVariants.{First, Second}
pub use Rattle.books_schema.specs.declared.ready_connection.Found.{Found}
pub use Rattle.books_schema.specs.declared.ready_connection.Found.TheVariants.{Newest, Older}
pub use Rattle.books_schema.specs.declared.ready_connection.Leftover.{Leftover}
pub use Rattle.books_schema.proofs.EndLemmas.{rolled_back, survives_of, if_so, whole_of, undone_of, kept_of}
pub use Rattle.books_schema.proofs.OpenLemmas.{ready_tells, older_tells}
pub use Rattle.books_schema.proofs.SettleLemmas.{each_itself}
pub use Rattle.whole_tables.specs.Family.{family, Row, described, look}
pub use Rattle.whole_tables.specs.declared.key.TableName.{TableName}
pub use Rattle.whole_tables.specs.declared.key.TableName.TheVariants.{Items, Bins, Meta, Lots, Orders, Urgents, Lines, Stock, Staged, Reserved, Least, Recalls}
pub use Rattle.whole_tables.specs.Halves.{is_in, half_of}
pub use Rattle.whole_tables.specs.Whole.{AreAll, typed_rows_of}
pub use Rattle.whole_tables.specs.declared.halves.Half.TheVariants.{Upper}
pub use Rattle.whole_tables.proofs.Handing.{typed_are_all}
pub use Rattle.whole_tables.proofs.Owned.{owned}
pub use Rattle.slices.specs.Books.{IsBooksOf}
pub use Rattle.slices.specs.Bounding.{IsAtMost, AreBounds, IsRaised}
pub use Rattle.slices.specs.Following.{KnowsStaged, KnowsStagedFor, KnowsMeta, KnowsFollowed, StageLeft, StagedFollows, StageEmptied, StagedForFollows, Follows}
pub use Rattle.slices.specs.Reading.{IsRead}
pub use Rattle.slices.specs.Remembering.{ForgetsPut, KnowsRows, KnowsNoRows}
pub use Rattle.slices.specs.Slicing.{is_among, HoldsOf, HoldsBeside, Knows, is_passed, is_open_in, has_urgent_row, opens, comes, Covers, CoversUrgent}
pub use Rattle.slices.specs.declared.followed.Followed.{Followed}
pub use Rattle.slices.specs.declared.knowing.Bounds.{Bounds}
pub use Rattle.slices.specs.declared.knowing.Known.{Known}
pub use Rattle.slices.specs.declared.rows_known.RowsKnown.{RowsKnown}
pub use Rattle.slices.proofs.KnownWritten.{known_as, known_put, known_set, known_dropped}
pub use Rattle.slices.proofs.ReadSteps.{read_none, as_told, fails_first, so_told}
pub use Rattle.slices.proofs.ReadTold.{read_fault, read_kept}
pub use Rattle.slices.proofs.RowsChanged.{others_are, or_false, false_from, clash}
pub use Rattle.slices.proofs.RowsTold.{and_true}
pub use Rattle.slices.proofs.StillKnown.{rows_stay_known, no_rows_known}
pub use Rattle.queries.specs.Asked.{Asking, IsKnownOf}
pub use Rattle.queries.specs.ShownActs.{acts_shown}
pub use Rattle.queries.specs.ShownNotice.{whole}
pub use Rattle.queries.proofs.CardOrder.{card_lines_of}
pub use Rattle.queries.proofs.ShipmentCards.{Stays, stays_posted, units_stay}
pub use Rattle.queries.proofs.ShipmentOrder.{acts_within}
pub use Rattle.changes.specs.Written.{puts, drops, stage_emptied, emptied, table_written}
unfoldable pub use Rattle.changes.specs.Written.{change_written, change_made}
pub use Rattle.changes.proofs.ChangeWritten.{change_is_applied, table_left, made_is_written}
pub use Rattle.changes.proofs.TableWritten.{is_at, are_same}
pub use Rattle.store.specs.ActRows.{stored_above}
pub use Rattle.store.specs.Acting.{Acts, IsActedInside, IsDecidedByRows, repeat_of, answer_of, IsActedOn, told, day_left, IsDecidedAs}
pub use Rattle.store.specs.Answers.{IsToldAgain}
pub use Rattle.store.specs.Books.{AreBooks, KeepsBooks, LeavesOnly, IsSettled, IsAsBefore, AreRowsOf, HoldsBooks}
pub use Rattle.store.specs.Connected.{Connected, IsIdle}
pub use Rattle.store.specs.EachFaults.{each_fault_of}
pub use Rattle.store.specs.Faults.{fault_of, fault_of_rule}
pub use Rattle.store.specs.Filing.{rows_of, AreKeysOf, taken, tally_of, one_more, DayGoes, ShowsBooks, IsRowTaken, IsFiledInside, IsFiledOn, IsFiled, TakesRow}
pub use Rattle.store.specs.Fitting.{RowsOfActsFit}
pub use Rattle.store.specs.Handing.{IsHandedOn, NoBooks}
pub use Rattle.store.specs.Heads.{card_head_shown}
pub use Rattle.store.specs.Inside.{IsInsideOpen, IsInside}
pub use Rattle.store.specs.Knowing.{HasKnown, IsKnown, GoesOnKnown, HoldsLeft, HasLeft, LeavesKnown}
pub use Rattle.store.specs.Opening.{IsOpenedFrom, third_number, AreThirdRowsOf, AreOlderRowsOf, OlderRowsGoOn, AreRowsAt, AreFoundRows, MayCome, IsOpenedAsFound, IsLeftOver, unlimited}
pub use Rattle.store.specs.Queries.{IsShown}
pub use Rattle.store.specs.Showing.{IsShownOn, Looks, IsShownAs, told_whole, IsFoundAs}
pub use Rattle.store.specs.declared.each_fault.EachFault.{EachFault}
pub use Rattle.store.specs.declared.fault.Fault.{Fault}
pub use Rattle.store.specs.declared.fault.Fault.TheVariants.{Refused, Store, Foreign}
pub use Rattle.store.specs.declared.filing.Filed.{Filed}
pub use Rattle.store.specs.declared.reply.Reply.{Reply}
pub use Rattle.store.specs.declared.tally.RowFault.{RowFault}
pub use Rattle.store.specs.declared.tally.Tally.{Tally}
