-- What the proofs of this crate say of what it stands on: each word from where it is defined.
pub use Rattle.std.specs.List.{AllByRecursion, list_all, list_any}
pub use Rattle.std.specs.Prelude.{IfSome, bytes_eq, option_map, if◌then◌else◌, ◌==◌, flat_map, get_or, ◌||◌, not, find}
pub use Rattle.std.proofs.Common.{◌≡◌, true, List, [], ◌∷◌, refl, sym, ap, ◌∙◌, Result, Ok, ◌≢◌, inl, inr, ℕ, ◌/◌, Option, ◌++◌, map, length, slice_get, Some, None, subst, Bool, false, arith, ◌+◌, ◌<◌, ◌&&◌, take, append_assoc, ◌-◌, drop, add-one, drop-cons}
pub use Rattle.std.proofs.Math.Seq.{drop-length}
pub use Rattle.std.proofs.lemmas.Bool.{cases_eq, eq-eqb, ne_eqb, cases_Bool, and_parts, not-true}
pub use Rattle.std.proofs.lemmas.Bool.Decides.{nat_tests}
pub use Rattle.std.proofs.lemmas.Grind.{common_steps}
pub use Rattle.std.proofs.lemmas.List.{take_more, take-append-drop, take_all, length-drop, get_or_default}
pub use Rattle.sqlite.specs.Command.TheVariants.{Insert}
pub use Rattle.sqlite.specs.Does.{Tally, Does, AtPlace, OnRows}
pub use Rattle.sqlite.specs.Edit.{edit_of, edited, taken_by}
pub use Rattle.sqlite.specs.Effect.{Database, value_rows}
pub use Rattle.sqlite.specs.Held.{state}
pub use Rattle.sqlite.specs.Order.{Row}
pub use Rattle.sqlite.specs.Rowids.TheVariants.{Chosen}
pub use Rattle.sqlite.specs.Rows.{Written, Task}
pub use Rattle.sqlite.specs.Schema.{Schema}
pub use Rattle.sqlite.specs.Source.TheVariants.{Values}
pub use Rattle.sqlite.specs.State.{State, mode_of}
pub use Rattle.sqlite.specs.Table.{Table}
pub use Rattle.sqlite.specs.Term.{Term}
pub use Rattle.sqlite.specs.Tree.{Trees, with_tree}
pub use Rattle.sqlite.specs.Values.{bound, bound_value}
pub use Rattle.sqlite.specs.declared.error.Error.TheVariants.{SqliteFailure}
pub use Rattle.sqlite.specs.declared.error.ErrorCode.TheVariants.{OutOfMemory}
pub use Rattle.sqlite_rules.specs.Action.{works}
pub use Rattle.sqlite_rules.specs.Cast.{cast_row}
pub use Rattle.sqlite_rules.specs.Edit.{put_all, numbered, are_fresh, with_rowid, is_taken}
pub use Rattle.sqlite_rules.specs.Lists.{Has}
pub use Rattle.sqlite_schema.specs.declared.schema.Column.{Column}
pub use Rattle.sqlite_schema.specs.declared.schema.Keys.TheVariants.{Enforced}
pub use Rattle.sqlite_trees.specs.Tree.{put_row}
pub use Rattle.sqlite_value.specs.Value.{owned}
pub use Rattle.sqlite_value.specs.declared.keys.Order.{Order}
pub use Rattle.sqlite.proofs.Callers.{one_step, runs_as}
pub use Rattle.sqlite_keyed.proofs.ListLemmas.{all_weaker, all-slice_get, all-append}
pub use Rattle.sqlite_rules.proofs.TableLemmas.{put_all_keeps}
pub use Rattle.commands.specs.Tables.{Tables}
pub use Rattle.machine.specs.KeyedRows.{no_two}
pub use Rattle.machine.proofs.Tests.{and_both, or_none, not_true}
pub use Rattle.row_rules.specs.declared.slice.Change.{Change}
pub use Rattle.rules.specs.Slices.{changed, are_once, unless_put, unless_emptied}
unfoldable pub use Rattle.rules.specs.Slices.{applied}
pub use Rattle.table_words.specs.Calls.{Counts}
pub use Rattle.table_words.specs.Changed.{Changed}
pub use Rattle.table_words.specs.Rows.{IsRows}
pub use Rattle.table_words.specs.Schema.{plain_table, schema_with}
pub use Rattle.table_words.specs.Steps.{Goes, IsReady}
pub use Rattle.table_words.specs.Typed.{tables_in}
pub use Rattle.table_words.specs.declared.error.TableFault.{TableFault}
pub use Rattle.table_words.specs.declared.error.TableFault.TheVariants.{Store}
pub use Rattle.table_words.proofs.CallLemmas.{kept_itself, inside_itself}
pub use Rattle.table_words.proofs.KeyLemmas.{AtMostOne, none_had, meets, found_put}
pub use Rattle.table_words.proofs.ListLemmas.{IsRows-put_row, all_put_row, stays_put}
pub use Rattle.table_words.proofs.ScanLemmas.{passes}
pub use Rattle.table_words.proofs.StepLemmas.{ready_after, sets_off_nothing, goes, typed_put}
pub use Rattle.table_words.proofs.WriteLemmas.{went, same_value}
pub use Rattle.keyed_rows.specs.Described.{Described, IsLawful, laid, rule_of, sound, with_row, found, without_row}
pub use Rattle.keyed_rows.specs.Writes.{each_written, Writes, Ran}
pub use Rattle.keyed_rows.proofs.Laws.{rows_of, typed_rows}
pub use Rattle.keyed_rows.proofs.Writing.{same_error, writes_none, ran_writes, writes_first, writes_then, writes_failed, writes_more, writes_all}
pub use Rattle.tables.specs.Lines.{filled_line}
pub use Rattle.tables.specs.Repeats.{repeats}
pub use Rattle.whole_tables.specs.Family.{family, Key, described, look, over}
pub use Rattle.whole_tables.specs.declared.key.TableName.{TableName}
pub use Rattle.whole_tables.specs.declared.key.TheConstants.{TABLE_NAMES}
pub use Rattle.whole_tables.specs.declared.key.TableName.TheVariants.{Meta, Lines, Staged}
pub use Rattle.changes.specs.Many.{AddsMany, many_terms}
pub use Rattle.changes.specs.Written.{puts, drops, stage_emptied, emptied, table_written, rows_written, table_made, FillsLines}
unfoldable pub use Rattle.changes.specs.Written.{change_written, change_made}
