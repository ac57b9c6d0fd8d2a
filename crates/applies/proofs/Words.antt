-- What the proofs of this crate say of what it stands on: each word from where it is defined.
pub use Rattle.std.specs.Fmt.{signed_decimal}
pub use Rattle.std.specs.Io.KnownBytes.{Consumes, IsAtEnd}
pub use Rattle.std.specs.List.{AllByRecursion, join_with_byte, list_all}
pub use Rattle.std.specs.Prelude.{◌⊎◌, ℤ, pos, ◌-ℤ◌, ◌&&◌, if◌then◌else◌, int_le, int_lt, nat_eq, negsuc, decimal, ◌==◌, codes, OnSome, OnOk, IfSome, IfErr}
pub use Rattle.std.proofs.Common.{◌≡◌, ℕ, ◌<◌, true, false, List, [], ◌∷◌, ◌++◌, find, Option, Some, None, option_map, inl, inr, refl, sym, ap, subst, ◌∙◌, arith, eq-eqb, eqb-true, Bool, IsTrue, ◌≢◌, ◌^◌, append_assoc, append-nil, ◌-◌, length, length-append, take, true≢false, ◌+◌, ◌*◌, ◌≤◌, ◌/◌, ◌%◌, zero, suc, lit<, Ok, Err, Result, drop, rules}
pub use Rattle.std.proofs.KnownBytes.{Consumes-trans}
pub use Rattle.std.proofs.Math.Seq.{take-length}
pub use Rattle.std.proofs.lemmas.Bool.{cases_Bool, false_from_ne_true, cases_lt}
pub use Rattle.std.proofs.lemmas.Bool.Decides.{nat_tests}
pub use Rattle.std.proofs.lemmas.Fmt.{length-decimal-le, decimal_injective}
pub use Rattle.std.proofs.lemmas.Int.{ints}
pub use Rattle.std.proofs.lemmas.List.{take-append-le, length-map, append_cancel_right}
pub use Rattle.std.proofs.lemmas.List.Elements.{All-head, All-tail, All-nil, All-cons}
pub use Rattle.std.proofs.lemmas.Option.{same_Some, none-some}
pub use Rattle.std.proofs.lemmas.Result.{IfOk-weaker, IfErr-weaker, err_from_is_err_and}
pub use Rattle.sqlite.specs.Effect.{Database}
pub use Rattle.sqlite.specs.Held.{state}
pub use Rattle.sqlite.specs.State.{State, HasCleanDisk, Survives}
pub use Rattle.sqlite_trees.specs.Tree.{IsAscending, Trees}
pub use Rattle.sqlite_trees.specs.declared.store.Store.{Ghosts}
pub use Rattle.sqlite.proofs.StateLemmas.{survives_then, survives_weaker}
pub use Rattle.values.specs.Values.{is_name, is_line_no, is_between, is_title, is_gtin, is_lot_text, is_delta, QTY_MAX, is_qty, is_counted, is_least_days}
pub use Rattle.values.specs.declared.lot.LotId.{LotId}
pub use Rattle.label.specs.Days.{is_business_day, is_day, day_text, last_digits}
unfoldable pub use Rattle.label.specs.Days.{date_of}
pub use Rattle.label.proofs.DayTexts.{parsed_day-day_text}
pub use Rattle.commands.specs.Limits.{has_order_lines}
pub use Rattle.commands.specs.Sinks.{StopsWithin, ReachesWithin}
pub use Rattle.commands.specs.Sound.{is_sound, is_sound_key, is_lot_id, is_order_line, are_lines, is_new_order, is_picking}
pub use Rattle.commands.specs.Spelling.{key_text, fields, lines_fields, order_fields}
unfoldable pub use Rattle.commands.specs.Spelling.{spelling}
pub use Rattle.commands.specs.Words.{bin_kind_word}
pub use Rattle.commands.specs.declared.command.BinKind.{BinKind}
pub use Rattle.commands.specs.declared.command.BinKind.TheVariants.{Hold as HoldBin}
pub use Rattle.commands.specs.declared.command.Command.{Command}
pub use Rattle.commands.specs.declared.command.Command.TheVariants.{OpenDay, Item, Bin, Receive, Move, Count, Adjust, Order, Cancel, Pick, Unpick, Ship, Hold, Release, Recall, Least, Urgent}
pub use Rattle.commands.specs.declared.command.NewOrder.{NewOrder}
pub use Rattle.commands.specs.declared.command.OrderLine.{OrderLine}
pub use Rattle.commands.specs.declared.command.Picking.{Picking}
pub use Rattle.commands.specs.declared.key.Key.{Key}
pub use Rattle.commands.specs.declared.key.Key.TheVariants.{Plain}
pub use Rattle.commands.specs.declared.rows.CardRow.{CardRow}
pub use Rattle.commands.specs.declared.rows.MetaRow.{MetaRow}
pub use Rattle.commands.specs.declared.rows.RepeatRow.{RepeatRow}
pub use Rattle.commands.proofs.Digits.{long_decimal, line_room}
pub use Rattle.commands.proofs.Fields.{AllPrintable}
pub use Rattle.commands.proofs.Joining.{and_both, and_true, first_part, lacks_failing, all-append}
pub use Rattle.commands.proofs.OneSpelling.{one_spelling, PartsPrintable, fields_printable}
pub use Rattle.commands.proofs.OneText.{one_text, small_line}
pub use Rattle.commands.proofs.Printing.{Printable, is_printable, name_printable, decimal_printable, day_printable}
pub use Rattle.texts.specs.Starting.{day_before, told_by}
pub use Rattle.texts.specs.declared.start.Start.{Start}
pub use Rattle.texts.specs.declared.start.Start.TheVariants.{Received, Opened}
pub use Rattle.machine.specs.Acts.{Act, next_number}
pub use Rattle.machine.specs.Once.{IsHistory, Outcome, Accepted, Repeated, outcome, appended, acts_after, is_key_of, IsSoundRequest}
pub use Rattle.machine.specs.Standing.{today, day_after_command}
pub use Rattle.machine.specs.Tables.{card_row, Tables}
unfoldable pub use Rattle.machine.specs.Tables.{tables_of}
pub use Rattle.machine.specs.Views.{card_of_lot}
pub use Rattle.machine.proofs.histories.Accepted.{room_for_acts}
pub use Rattle.tables.specs.Repeats.{repeats}
pub use Rattle.whole_tables.specs.Whole.{typed_rows_of}
pub use Rattle.queries.proofs.CardOrder.{card_in_order}
pub use Rattle.store.specs.ActRows.{stored_acts}
pub use Rattle.store.specs.Books.{HoldsBooks, AreBooks, LeavesOnly, AreAsBefore, IsClean}
pub use Rattle.store.specs.Connected.{Connected}
pub use Rattle.store.specs.Handing.{HandsRecords, NoBooks}
pub use Rattle.store.specs.declared.fault.Fault.{Fault}
pub use Rattle.histories.specs.Books.{GoOnFrom}
pub use Rattle.histories.specs.Known.{IsUnlike, TakesRow, StopsAt}
pub use Rattle.histories.specs.LineFaults.{IsNoMisfit}
pub use Rattle.histories.specs.Newer.{act_line, newer_text}
pub use Rattle.histories.specs.Reading.{IsPart, IsLine, IsNumbered, IsPiece}
pub use Rattle.histories.specs.Start.{start_of, first_day, IsStartBy, IsStart, IsPassed, TellsDay, told_first}
pub use Rattle.histories.specs.Text.{tabbed, history_line, history_text}
pub use Rattle.histories.specs.Walked.{IsRead, HasBroken, MissesLine, AtPlace, WithinText, BehindText}
pub use Rattle.histories.specs.declared.first_start.FirstStart.{FirstStart}
pub use Rattle.histories.specs.declared.known.KnownLines.{KnownLines}
pub use Rattle.histories.specs.declared.known.Place.{Place}
pub use Rattle.histories.specs.declared.known.Place.TheVariants.{Before, Within, Behind}
pub use Rattle.histories.specs.declared.line_fault.LineFault.{LineFault}
pub use Rattle.histories.specs.declared.start.CardDay.{CardDay}
pub use Rattle.histories.proofs.Acts.{earlier}
pub use Rattle.histories.proofs.Begun.{start_kept, none_tells, one_tells, none_found}
pub use Rattle.histories.proofs.Ends.{end_back}
pub use Rattle.histories.proofs.FirstReceipt.{untold_day}
pub use Rattle.histories.proofs.Kept.{still, today_told}
pub use Rattle.histories.proofs.Rows.{of_rows}
pub use Rattle.histories.proofs.Walk.{all_passed, some_passed, stopped_at}
pub use Rattle.replays.specs.Replaying.{IsReplayed, cause}
pub use Rattle.replays.specs.declared.fault.NotReplayed.{NotReplayed}
pub use Rattle.replays.proofs.EarlierDays.{earlier_alike, told_day_stands, before_opened, opened_later, began_on_business}
pub use Rattle.replays.proofs.FirstDay.{first_day_told}
pub use Rattle.replays.proofs.Steps.{goes_on_history, accepted_there}
pub use Rattle.applies.specs.Applying.{IsApplied, LeavesOneOf}
pub use Rattle.applies.specs.Begun.{BegunOn, earlier_day, FitsLine, day_in, line_day}
pub use Rattle.applies.specs.Fields.{behind_tab, untabbed, key_and_spelling, cut_at_tab, without_last, Reads, ReadsFields}
pub use Rattle.applies.specs.Going.{IsOfWant, AreCommitted, OfText, GoneOn, IsOfNone, Misfits, IsOfNoLine, StopsAtLine, IsDone, GoesOn, Leaves, MayCome, IsOfRows, AreOutOfTurn}
pub use Rattle.applies.specs.Known.{counted, IsToldAs, ArePassed}
pub use Rattle.applies.specs.Laws.{StandbyIsPrimary}
pub use Rattle.applies.specs.Lines.{IsAt, Stands, MisfitsThere, IsLineAdded, LeavesLine, AreLinesDone, LeavesLines, next_line, act_of, IsNext, IsNoNext, IsPlaced, IsNotDone, GoesOnByNone, EndsAtLine, IsBehindEnded, AreBehindDone, IsTextEnded}
pub use Rattle.applies.specs.Taken.{IsTakenBy, IsTaken}
pub use Rattle.applies.specs.declared.applied.Applied.{Applied}
pub use Rattle.applies.specs.declared.applied.NotApplied.{NotApplied}
pub use Rattle.applies.specs.declared.applied.NotApplied.TheVariants.{Line, Differs, Lacks, Refused, Input, Store, Foreign}
pub use Rattle.applies.specs.declared.next.At.{At}
pub use Rattle.applies.specs.declared.next.NextAct.{NextAct}
