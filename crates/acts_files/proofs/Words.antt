-- What the proofs of this crate say of what it stands on: each word from where it is defined.
pub use Rattle.std.specs.Io.KnownBytes.{Appends}
pub use Rattle.std.specs.List.{AllByRecursion, join_with_byte, starts_with}
pub use Rattle.std.specs.Prelude.{Vec, Result, Ok, Err, OnOk, OnErr, ◌==◌, codes, min, IfErr}
pub use Rattle.std.proofs.Common.{◌≡◌, ℕ, ◌+◌, ◌≤◌, List, ◌++◌, length, length-append, drop, refl, sym, ap, subst, ◌∙◌, arith, ◌⊎◌, [], append_assoc, append-nil, inl, inr, ℤ, Global, ◌∷◌, Some, IsTrue, ◌≢◌, ◌<◌, ◌^◌, zero, suc, true, false, get_or, eq-eqb, true≢false, decimal, ◌-◌, length-drop, All, Bool, take, take-append-drop, rules}
pub use Rattle.std.proofs.Math.Seq.{get_or-append_seam, take-append_seam, drop-append_seam}
pub use Rattle.std.proofs.lemmas.Bool.{cases_Bool, cases_lt}
pub use Rattle.std.proofs.lemmas.Bool.Decides.{nat_tests, Decides-eqb}
pub use Rattle.std.proofs.lemmas.List.{drop_all, get_or-drop, append_cancel_left, ext_get_or, take-append-le}
pub use Rattle.std.proofs.lemmas.List.Elements.{All-get_or, All-nil}
pub use Rattle.std.proofs.lemmas.List.Prefix.{front_from_reads, front_reads, at_from_reads, front_rest, at_reads}
pub use Rattle.std.proofs.lemmas.Result.{err_from_is_err_and, on_ok_weaker, on_err_weaker, IfErr-weaker, IfOk-weaker}
pub use Rattle.std.proofs.lemmas.Slice.Eq.{slice_eq-Decides}
pub use Rattle.sqlite.specs.Held.{state}
pub use Rattle.sqlite.specs.State.{State, HasCleanDisk, Survives}
pub use Rattle.sqlite_disk.specs.Disk.{Holds, Torn, Cut, Follows, MoreFaults}
pub use Rattle.sqlite_disk.specs.declared.Disk.{Ghosts}
pub use Rattle.sqlite_trees.specs.Tree.{Trees}
pub use Rattle.sqlite.proofs.StateLemmas.{survives_then, survives_weaker}
pub use Rattle.values.specs.Values.{is_name, is_line_no}
pub use Rattle.label.specs.Days.{day_text}
pub use Rattle.commands.specs.Sinks.{Reaches, StopsWithin}
pub use Rattle.commands.specs.Sound.{is_sound, is_sound_key}
pub use Rattle.commands.specs.Spelling.{key_text, fields}
unfoldable pub use Rattle.commands.specs.Spelling.{spelling}
pub use Rattle.commands.specs.declared.command.Command.{Command}
pub use Rattle.commands.specs.declared.key.Key.{Key}
pub use Rattle.commands.specs.declared.key.Key.TheVariants.{Plain, Line}
pub use Rattle.commands.specs.declared.rows.RepeatRow.{RepeatRow}
pub use Rattle.commands.proofs.Fields.{AllPrintable}
pub use Rattle.commands.proofs.Joining.{lacks_failing, and_both, all-append}
pub use Rattle.commands.proofs.OneSpelling.{PartsPrintable, fields_printable}
pub use Rattle.commands.proofs.OneText.{small_line}
pub use Rattle.commands.proofs.Printing.{Printable, is_printable, name_printable, decimal_printable, day_printable}
pub use Rattle.machine.specs.Acts.{Act, next_number}
pub use Rattle.machine.specs.Once.{IsHistory}
pub use Rattle.machine.specs.Standing.{today}
pub use Rattle.machine.specs.Tables.{repeat_row}
pub use Rattle.machine.proofs.histories.Accepted.{room_for_acts}
pub use Rattle.store.specs.Books.{HoldsBooks, IsClean, AreAsBefore}
pub use Rattle.store.specs.Connected.{Connected}
pub use Rattle.store.specs.Handing.{HandsRecords}
pub use Rattle.store.specs.declared.each_fault.EachFault.{EachFault}
pub use Rattle.store.proofs.AsBefore.{as_before_itself, as_before_then}
pub use Rattle.histories.specs.Lines.{AddsLine}
pub use Rattle.histories.specs.Newer.{newer_text, act_line}
pub use Rattle.histories.specs.Reading.{Bears, IsLine, IsNumbered}
pub use Rattle.histories.specs.Text.{history_text, tabbed}
pub use Rattle.histories.specs.declared.fault.HistoryFault.TheVariants.{Output}
pub use Rattle.histories.specs.declared.lines.HistoryLines.{HistoryLines}
pub use Rattle.histories.proofs.Above.{went_above}
pub use Rattle.histories.proofs.Acts.{earlier}
pub use Rattle.acts_files.specs.Faults.{IsNoMisfit, IsOfBooks, IsOfFile}
pub use Rattle.acts_files.specs.Kept.{HasText, HasAtMost, IsSameFile, IsAtMost, AreLines, ShowsText, BeginsWith, LosesNoLine}
pub use Rattle.acts_files.specs.KeptActs.{IsCleanFile, KeepsActs, KeepsNext, LacksNext, HasPassed, HasAdded, HasOldest, KeepsTexts, NoHistory, TextGoesOn}
pub use Rattle.acts_files.specs.Newer.{AreNextLines, in_memory, AddsOne, StopsFull, IsTaken, AreLinesOf, AreNext}
pub use Rattle.acts_files.specs.Opened.{rest_of, IsMeasured, LeavesOldest, PassesMore, StopsAt, EndsAt, HasWalked, Misfits, IsPut, IsOther, IsNotPutBy, IsOpened, IsRefused, IsNotOpenedBy, IsNotOpened, IsOwn, IsTail, KeepsLines, IsNotPut}
pub use Rattle.acts_files.specs.Torn.{HasNoLine, Begins, IsLeftOf, IsPartOf}
pub use Rattle.acts_files.specs.declared.acts_file.ActsFile.{ActsFile}
pub use Rattle.acts_files.specs.declared.fault.ActsFault.{ActsFault}
pub use Rattle.acts_files.specs.declared.fault.ActsFault.TheVariants.{File, Store, Foreign, Differs, Lacks}
pub use Rattle.acts_files.specs.declared.few_lines.FewLines.{FewLines}
pub use Rattle.acts_files.specs.declared.opening.NotOpened.{NotOpened}
