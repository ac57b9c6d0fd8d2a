-- What the proofs of this crate say of what it stands on: each word from where it is defined.
pub use Rattle.std.specs.List.{AllByRecursion}
pub use Rattle.std.specs.Prelude.{option_map, ◌⊎◌, ◌↔◌, IfSome}
pub use Rattle.std.proofs.Common.{◌≡◌, ℕ, List, Option, Some, None, find, true, refl, sym, ap, ◌∙◌, ℤ, ◌≢◌, [], ◌∷◌, ◌++◌, take, drop, length, Result, Ok, Err, IfOk, inl, inr, subst, arith, reverse, IfErr, Vec, Global, Bool, OnOk, ap₂, ◌+◌, ◌<◌, ◌≤◌, get_or, Ordering, IsTrue, rules, slice_get}
pub use Rattle.std.proofs.Math.Seq.{take-append_seam}
pub use Rattle.std.proofs.lemmas.Grind.{common_steps}
pub use Rattle.std.proofs.lemmas.List.{length-reverse, reverse-reverse, take_more, take_all, get_or_default}
pub use Rattle.std.proofs.lemmas.Option.{none-some, same_Some}
pub use Rattle.std.proofs.lemmas.Result.{err_from_is_err_and}
pub use Rattle.sqlite.specs.Effect.{Database}
pub use Rattle.sqlite.specs.Held.{Held, state}
pub use Rattle.sqlite.specs.State.{State, IsUnchanged, HasCleanDisk}
pub use Rattle.sqlite.specs.Tree.{Trees}
pub use Rattle.sqlite_trees.specs.declared.store.Store.{Ghosts}
pub use Rattle.sqlite_keyed.proofs.ListLemmas.{all-filter, all_weaker, all-append, all-slice_get}
pub use Rattle.values.specs.Values.{same_text}
pub use Rattle.values.specs.declared.lot.LotId.{LotId}
pub use Rattle.label.specs.Days.{is_business_day}
pub use Rattle.commands.specs.declared.refusal.Refusal.{Refusal}
pub use Rattle.commands.specs.declared.rows.CardRow.{CardRow}
pub use Rattle.commands.specs.declared.rows.MetaRow.{MetaRow}
pub use Rattle.commands.specs.declared.rows.RepeatRow.{RepeatRow}
pub use Rattle.texts.specs.declared.start.Start.{Start}
pub use Rattle.texts.specs.declared.start.Start.TheVariants.{Received, Opened}
pub use Rattle.machine.specs.Acts.{Act}
pub use Rattle.machine.specs.Once.{IsHistory}
pub use Rattle.machine.specs.Standing.{today}
pub use Rattle.machine.specs.Tables.{Tables, repeat_row}
unfoldable pub use Rattle.machine.specs.Tables.{tables_of}
pub use Rattle.table_words.specs.Cells.{typed}
pub use Rattle.table_words.specs.Steps.{IsReady, Goes}
pub use Rattle.table_words.specs.Typed.{tables_in, same_card, card_key, Keeps, same_repeat, repeat_key, meta_at, with_meta, AreTyped, AreTypedAt}
pub use Rattle.table_words.specs.declared.error.TableFault.{TableFault}
pub use Rattle.table_words.specs.declared.error.TableFault.TheVariants.{Foreign}
pub use Rattle.table_words.proofs.CallLemmas.{if_err, inside_itself, inside_then, on_ok_then, if_both}
pub use Rattle.keyed_rows.specs.Described.{Described, IsLawful}
pub use Rattle.keyed_rows.specs.Reads.{Finds}
pub use Rattle.tables.specs.Cards.{cards, cards_laws}
pub use Rattle.tables.specs.Meta.{meta}
pub use Rattle.tables.specs.Repeats.{repeats, repeats_laws}
pub use Rattle.books_schema.specs.Bringing.{IsWritten}
pub use Rattle.books_schema.specs.Opening.{IsReadyAs, ComesTo, IsOfNone}
pub use Rattle.books_schema.specs.Settling.{HasRow, HasDayAt, IsRaised}
pub use Rattle.books_schema.specs.declared.older.OlderBooks.{OlderBooks}
pub use Rattle.books_schema.specs.declared.ready_connection.Found.{Found}
pub use Rattle.books_schema.specs.declared.ready_connection.Found.TheVariants.{Newest, Older}
pub use Rattle.books_schema.proofs.BringLemmas.{begins_older}
pub use Rattle.books_schema.proofs.SettleLemmas.{day_of_row, own_rows}
pub use Rattle.whole_tables.specs.Differing.{RowDiffers, rule_called, SameTable, SameCalled, row_at}
pub use Rattle.whole_tables.specs.Halves.{FindsHalf, is_in}
pub use Rattle.whole_tables.specs.Same.{FindAlike, AreOnce, IsFirstOther, IsCompared}
pub use Rattle.whole_tables.specs.Whole.{AreAll, rows_of}
pub use Rattle.whole_tables.specs.declared.halves.Half.{Half}
pub use Rattle.whole_tables.specs.declared.halves.Half.TheVariants.{Lower, Upper}
pub use Rattle.whole_tables.specs.declared.key.RowKey.{RowKey}
pub use Rattle.whole_tables.specs.declared.key.RowKey.TheVariants.{Meta, Card}
pub use Rattle.whole_tables.specs.Family.{described}
pub use Rattle.whole_tables.specs.declared.key.TableName.{TableName}
pub use Rattle.whole_tables.specs.declared.key.TheConstants.{TABLE_NAMES}
pub use Rattle.whole_tables.proofs.Halving.{halves_typed, halves_read}
pub use Rattle.whole_tables.proofs.Handing.{typed_are_all}
pub use Rattle.whole_tables.proofs.Parting.{if_some}
pub use Rattle.slices.specs.Books.{AreRowsOf, IsBooksOf}
pub use Rattle.store.specs.Connected.{Connected}
pub use Rattle.store.specs.Opening.{AreRowsAt}
pub use Rattle.store.specs.declared.fault.Fault.{Fault}
pub use Rattle.store.proofs.OpenedBooks.{third_day, has_day, read_typed, rows_come, rows_came, one_found, foreign_if, store_else, either_told}
pub use Rattle.histories.specs.Start.{first_day, start_of}
pub use Rattle.replays.specs.Replaying.{Spell, BreakUnspelled, BreakRefused, AreRowsReplayed}
pub use Rattle.replays.specs.Spelled.{AreNewestFirst, AreRepeats, IsUnnumbered}
pub use Rattle.replays.specs.Starting.{Tell, TellFirst}
pub use Rattle.replays.specs.declared.fault.NotReplayed.{NotReplayed}
pub use Rattle.replays.proofs.Alike.{one_tables}
pub use Rattle.replays.proofs.EarlierDays.{told_day_stands}
pub use Rattle.replays.proofs.FirstDay.{first_day_told}
pub use Rattle.replays.proofs.RowSteps.{none_unspelled, none_refused}
pub use Rattle.replays.proofs.Spelled.{one_order, spelled, no_other, none_spelled}
pub use Rattle.audits.specs.Auditing.{IsHeld, AreOfNone, IsBegunOn, AreBroken, SaysIn, told_unread, Says, IsFound, IsFinding, AreSoundBooks, AreNone, AreNotRaised}
pub use Rattle.audits.specs.Beginning.{IsUntold, day_or_missing, IsBegun}
pub use Rattle.audits.specs.Comparing.{SameTables, AreSeen, Tells, IsUnread, Both, SameEach}
pub use Rattle.audits.specs.Halves.{SameHalf, TellsAlike}
pub use Rattle.audits.specs.Raising.{IsBegunOver, AreShown, CannotBeRaised}
pub use Rattle.audits.specs.declared.finding.Finding.{Finding}
pub use Rattle.audits.specs.declared.finding.Finding.TheVariants.{Sound, Differs, Unnumbered, Unspelled, Refused}
pub use Rattle.audits.specs.declared.finding.Unread.{Unread}
pub use Rattle.audits.specs.declared.finding.Unread.TheVariants.{Untyped, Store}
