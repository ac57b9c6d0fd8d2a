-- What the proofs of this crate say of what it stands on: each word from where it is defined.
pub use Rattle.std.specs.Cmp.Lexicographic.{slice_cmp}
pub use Rattle.std.specs.List.{AllByRecursion}
pub use Rattle.std.specs.List.Sorted.{IsNonDecreasingBy}
pub use Rattle.std.specs.Ordering.{nat_cmp}
pub use Rattle.std.specs.Prelude.{ℤ, ◌⊎◌, reverse, IfSome, pos, if◌then◌else◌, is_some, int_le, int_lt, ◌-ℤ◌}
pub use Rattle.std.proofs.Common.{◌≡◌, false, [], ◌∷◌, refl, ◌∙◌, inl, inr, true≢false, ℕ, suc, ◌+◌, ◌<◌, ◌≤◌, List, ◌++◌, length, find, sym, ap, subst, arith, Option, Some, None, IsPermutation, nat_lt, ◌≢◌, ◌-◌, true, flat_map, filter, map, IsTrue, take, drop, get_or, take-append-drop, Result, Ok, Err, cond, rules, append_assoc, vec_len}
pub use Rattle.std.proofs.lemmas.Bool.{cases_Bool, ltb-true, lt-ltb, false_from_ne_true, and_from}
pub use Rattle.std.proofs.lemmas.Bool.Decides.{nat_tests}
pub use Rattle.std.proofs.lemmas.Cmp.{nat_list_cmp_total}
pub use Rattle.std.proofs.lemmas.Int.{ints}
pub use Rattle.std.proofs.lemmas.List.{reverse-append, take_more, drop_more, append-nil}
pub use Rattle.std.proofs.lemmas.List.Sorted.{IsPermutation-trans, IsPermutation-reverse, IsNonDecreasingBy-from_sort_by_key}
pub use Rattle.std.proofs.lemmas.Map.Text.{is_eq-slice_cmp}
pub use Rattle.std.proofs.lemmas.Option.{same_Some, none-some}
pub use Rattle.std.proofs.lemmas.Slice.Eq.{bytes_eq-Decides}
pub use Rattle.sqlite.specs.Held.{state}
pub use Rattle.sqlite_trees.specs.Tree.{IsAscending}
pub use Rattle.sqlite_trees.specs.declared.store.Store.{Ghosts}
pub use Rattle.sqlite_keyed.proofs.ListLemmas.{all_weaker}
pub use Rattle.values.specs.Values.{same_text}
pub use Rattle.values.specs.declared.lot.LotId.{LotId}
pub use Rattle.label.specs.Days.{is_business_day}
pub use Rattle.commands.specs.Lists.{total, in_order}
pub use Rattle.commands.specs.Replies.{reply_text}
pub use Rattle.commands.specs.Sound.{is_sound, is_sound_key}
pub use Rattle.commands.specs.Spelling.{key_text}
unfoldable pub use Rattle.commands.specs.Spelling.{spelling}
pub use Rattle.commands.specs.declared.command.Command.{Command}
pub use Rattle.commands.specs.declared.command.Command.TheVariants.{Item, Bin, Receive, Count, Order, Pick, Ship, Hold, Release, Recall, OpenDay, Least, Urgent}
pub use Rattle.commands.specs.declared.key.Key.{Key}
pub use Rattle.commands.specs.declared.refusal.Refusal.{Refusal}
pub use Rattle.commands.specs.declared.replies.ReplyField.TheVariants.{Returned, UnitsShort}
pub use Rattle.commands.specs.declared.rows.RepeatRow.{RepeatRow}
pub use Rattle.commands.specs.declared.rows.ShipmentRow.{ShipmentRow}
pub use Rattle.commands.proofs.OneSpelling.{one_spelling}
pub use Rattle.commands.proofs.OneText.{one_text}
pub use Rattle.texts.specs.Starting.{told_by, day_before, Tells, IsReadFrom}
pub use Rattle.texts.specs.declared.start.Start.{Start}
pub use Rattle.texts.specs.declared.start.Start.TheVariants.{Received, Opened}
pub use Rattle.texts.proofs.Starting.{told_as}
pub use Rattle.plan.specs.Overlap.{plan_rows, reserved_for}
pub use Rattle.machine.specs.Acts.{Act, next_number}
pub use Rattle.machine.specs.Cards.{cards, card_lines}
pub use Rattle.machine.specs.Ledger.{posted, postings, postings_of}
pub use Rattle.machine.specs.Once.{IsHistory, IsAccepted, outcome, is_key_of, IsSoundRequest, bearer, same_key, Accepted, Repeated, Refused, judged, told_again, appended, acts_after}
pub use Rattle.machine.specs.Planning.{Booking, bookings, need, demand_of, goes_before, supply_of, supplies, plan, reserved_of, reserved, short_of_order}
pub use Rattle.machine.specs.Postings.{Place, Supplier, InBin, Stage, Shipped, WriteOff, Posting, of_item}
pub use Rattle.machine.specs.Replies.{further, reply}
pub use Rattle.machine.specs.Standing.{day_after_command, KnownLot, lots, lots_of, lot_known, lot_among, is_shippable, order_named, lines_of, shipments, shipments_after, today}
pub use Rattle.machine.specs.Tables.{Tables, repeat_row}
unfoldable pub use Rattle.machine.specs.Tables.{tables_of}
pub use Rattle.machine.specs.Verdict.{verdict}
pub use Rattle.machine.proofs.Tests.{and_both}
pub use Rattle.machine.proofs.histories.Accepted.{room_for_acts, ship_accepted, day_accepted}
pub use Rattle.machine.proofs.histories.KnownPlaces.{AllKnown, known_postings}
pub use Rattle.machine.proofs.histories.Runs.{history_after}
pub use Rattle.table_words.specs.Typed.{same_repeat, repeat_key}
pub use Rattle.table_words.proofs.KeyLemmas.{same_bytes}
pub use Rattle.keyed_rows.proofs.Rising.{IsFew, found_alike}
pub use Rattle.whole_tables.specs.Same.{AreOnce}
pub use Rattle.whole_tables.proofs.Deciding.{Few, few_once, few_moved, few_tail, few_head, all_by_place}
pub use Rattle.store.specs.Books.{HoldsBooks, LeavesOnly, IsClean}
pub use Rattle.store.specs.Connected.{Connected}
pub use Rattle.histories.specs.Books.{row_of}
pub use Rattle.histories.specs.Start.{told_first, start_of, first_day, IsStartBy}
pub use Rattle.histories.proofs.Acts.{numbered, earlier, found_all}
pub use Rattle.histories.proofs.Begun.{start_kept}
pub use Rattle.histories.proofs.FirstReceipt.{none_older, untold_day, untold_lots, first_receipt}
pub use Rattle.replays.specs.Alike.{OneTables, is_opening, StillTheFirstDay, FindTheSame}
pub use Rattle.replays.specs.Replaying.{cause, IsReplayed, IsRowOf, Spell, IsOfNoAct, IsOfRefused, IsRowReplayed, BreakOff, BreakUnspelled, BreakRefused, AreRowsReplayed, IsOpen}
pub use Rattle.replays.specs.Spelled.{AreNewestFirst, first_fallen, IsShared, IsUnnumbered, spelled_rows, AreRepeats, RowsSpellTheActs, OneListOfActs, NoOtherHistory, NoHistory}
pub use Rattle.replays.specs.Starting.{TheDayThatIsToldStands, TheFirstDayIsTold, TellNothing, TellFirst, Tell}
pub use Rattle.replays.specs.declared.fault.NotReplayed.{NotReplayed}
