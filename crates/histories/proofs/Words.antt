-- What the proofs of this crate say of what it stands on: each word from where it is defined.
pub use Rattle.std.specs.Io.{StartsWith, StopsAt, IsEmptyOrEndsWith, appended_bytes}
pub use Rattle.std.specs.Io.BufRead.{FillKeeps, DropsConsumable}
pub use Rattle.std.specs.Io.KnownBytes.{Appends, Consumes, IsAtEnd}
pub use Rattle.std.specs.List.{AllByRecursion}
pub use Rattle.std.specs.Prelude.{ℤ, ◌==◌, if◌then◌else◌, OnSome, option_map, ◌⊎◌, IfErr}
pub use Rattle.std.proofs.BufReadLemmas.{Consumes_shown, zero_unless_positive}
pub use Rattle.std.proofs.Common.{◌≡◌, ℕ, ◌+◌, List, [], ◌∷◌, ◌++◌, append_assoc, length, refl, sym, ap, subst, ◌∙◌, Option, ◌≤◌, length-append, find, inl, inr, arith, Some, suc, ◌<◌, take, drop, get_or, take-append-drop, drop-cons, ◌≢◌, append-nil, None, zero, ◌-◌, true, eq-eqb, eqb-true, All, false, ◌&&◌, flat_map, IsTrue, ap₂, Result, Ok, Err, rules, get_or-take, le_refl, length-take-le, drop_of_length-le, take-take}
pub use Rattle.std.proofs.KnownBytes.{Appends-trans, Appends-nil, starts_with_rest, Consumes-trans, Consumes-nil, Consumes-kept}
pub use Rattle.std.proofs.Math.Seq.{take-length}
pub use Rattle.std.proofs.Transfers.{starts_with_of_eq, starts_with_of_append, drop-appended, StopsAt-of_none_appended, StopsAt-take, All-of_none_appended}
pub use Rattle.std.proofs.lemmas.Bool.{cases_Bool}
pub use Rattle.std.proofs.lemmas.Bool.Decides.{nat_tests}
pub use Rattle.std.proofs.lemmas.List.{append_cancel_right, take-append-le, take_more}
pub use Rattle.std.proofs.lemmas.List.Elements.{All-append, All-nil, All-more, All-take}
pub use Rattle.std.proofs.lemmas.Option.{same_Some, none-some}
pub use Rattle.std.proofs.lemmas.Result.{err_from_is_err_and, IfOk-weaker, IfErr-weaker}
pub use Rattle.std.proofs.lemmas.Slice.Eq.{bytes_eq-Decides}
pub use Rattle.sqlite.specs.Effect.{Database}
pub use Rattle.sqlite.specs.Held.{state}
pub use Rattle.sqlite.specs.State.{State, IsUnchanged, IsRolledBack, HasCleanDisk, Survives}
pub use Rattle.sqlite.specs.Tree.{Trees}
pub use Rattle.sqlite.proofs.Callers.{unchanged_then}
pub use Rattle.sqlite.proofs.StateLemmas.{survives_then}
pub use Rattle.values.specs.Values.{same_text, is_name, is_qty}
pub use Rattle.values.specs.declared.lot.LotId.{LotId}
pub use Rattle.label.specs.Days.{is_day}
pub use Rattle.commands.specs.Sinks.{Reaches, StopsWithin, ReachesWithin}
pub use Rattle.commands.specs.Sound.{is_sound, is_lot_id}
pub use Rattle.commands.specs.Spelling.{key_text}
unfoldable pub use Rattle.commands.specs.Spelling.{spelling}
pub use Rattle.commands.specs.declared.command.Command.{Command}
pub use Rattle.commands.specs.declared.command.Command.TheVariants.{Receive, OpenDay}
pub use Rattle.commands.specs.declared.command.Receipt.{Receipt}
pub use Rattle.commands.specs.declared.key.Key.{Key}
pub use Rattle.commands.specs.declared.rows.CardKind.{CardKind}
pub use Rattle.commands.specs.declared.rows.CardRow.{CardRow}
pub use Rattle.commands.specs.declared.rows.RepeatRow.{RepeatRow}
pub use Rattle.texts.specs.Starting.{told_by, Tells}
pub use Rattle.texts.specs.Writing.{Writes, AppendsBeginning}
pub use Rattle.texts.specs.declared.start.Start.{Start}
pub use Rattle.texts.specs.declared.start.Start.TheVariants.{Received}
pub use Rattle.texts.proofs.Beginnings.{beginning_of_first, beginning_of_second, beginning_of_none, cut_at}
pub use Rattle.texts.proofs.Starting.{told_as}
pub use Rattle.machine.specs.Acts.{Act, next_number}
pub use Rattle.machine.specs.Cards.{cards, card_line, card_lines}
pub use Rattle.machine.specs.Ledger.{posted, postings}
pub use Rattle.machine.specs.Once.{IsHistory}
pub use Rattle.machine.specs.Postings.{Place, Supplier, InBin, Stage, Shipped, WriteOff, Posting, is_lot}
pub use Rattle.machine.specs.Standing.{day_after_command, today, KnownLot, lots, lots_after}
pub use Rattle.machine.specs.Tables.{repeat_row, card_row, Tables}
unfoldable pub use Rattle.machine.specs.Tables.{tables_of}
pub use Rattle.machine.proofs.Tests.{is_lot_refl, and_both}
pub use Rattle.machine.proofs.histories.Quantities.{at_least_one}
pub use Rattle.table_words.specs.Found.{no_two}
pub use Rattle.table_words.specs.Steps.{IsReady}
pub use Rattle.table_words.specs.Typed.{tables_in, CardKey, same_card, card_key}
pub use Rattle.table_words.specs.declared.error.TableFault.TheVariants.{Store}
pub use Rattle.table_words.proofs.CallLemmas.{on_ok_if}
pub use Rattle.table_words.proofs.KeyLemmas.{itself_bytes, same_bytes}
pub use Rattle.keyed_rows.specs.Handed.{HandsOver, IsLeft}
pub use Rattle.keyed_rows.specs.declared.each_fault.EachFault.{EachFault}
pub use Rattle.keyed_rows.specs.declared.each_fault.EachFault.TheVariants.{Fault, Stopped}
pub use Rattle.tables.specs.Cards.{cards_laws}
pub use Rattle.tables.specs.Repeats.{repeats, repeats_laws}
pub use Rattle.whole_tables.specs.Whole.{AreAll, typed_rows_of}
pub use Rattle.whole_tables.proofs.Handing.{typed_are_all}
pub use Rattle.whole_tables.proofs.Owned.{at_place, owned}
pub use Rattle.histories.specs.Books.{row_of, GoOnFrom, AreInTurn, IsNoSpelling, IsOutOfTurn, HasRowsOf}
pub use Rattle.histories.specs.Faults.{IsOfRow, IsOfSpelling, IsOfRows, fault_of}
pub use Rattle.histories.specs.Known.{IsUnlike, TakesRow, Knows, EndsHere, Misses}
pub use Rattle.histories.specs.LineFaults.{unspelled, IsNoMisfit}
pub use Rattle.histories.specs.Lines.{AddsLine, StopsLine, IsDayAfter, row_line}
pub use Rattle.histories.specs.Newer.{act_line, newer_text, AreWrittenAbove}
pub use Rattle.histories.specs.Printed.{IsHistoryPrinted}
pub use Rattle.histories.specs.Reading.{Bears, IsPart, IsLine}
pub use Rattle.histories.specs.Start.{told_first, start_of, Passes, IsFound, Finds, IsStartBy, IsPassed, TellsDay}
pub use Rattle.histories.specs.Text.{history_line, history_text}
pub use Rattle.histories.specs.Walked.{AtPlace, HasPassed, HasBroken, MissesLine, IsRead, IsStart}
pub use Rattle.histories.specs.declared.fault.HistoryFault.{HistoryFault}
pub use Rattle.histories.specs.declared.fault.HistoryFault.TheVariants.{Foreign, Output}
pub use Rattle.histories.specs.declared.first_start.FirstStart.{FirstStart}
pub use Rattle.histories.specs.declared.known.KnownLines.{KnownLines}
pub use Rattle.histories.specs.declared.known.Place.TheVariants.{Before, Within, Behind}
pub use Rattle.histories.specs.declared.line_fault.LineFault.{LineFault}
pub use Rattle.histories.specs.declared.lines.HistoryLines.{HistoryLines}
pub use Rattle.histories.specs.declared.reading.Ended.{Ended}
pub use Rattle.histories.specs.declared.reading.Ended.TheVariants.{Whole, Part}
pub use Rattle.histories.specs.declared.start.CardDay.{CardDay}
