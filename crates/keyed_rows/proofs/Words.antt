-- What the proofs of this crate say of what it stands on: each word from where it is defined.
pub use Rattle.std.specs.Cmp.{IsTotalOrder}
pub use Rattle.std.specs.List.{AllByRecursion}
pub use Rattle.std.specs.Ordering.{ordering_reverse}
pub use Rattle.std.specs.Prelude.{nat_lt, ◌⊎◌, if◌then◌else◌, ◌↔◌, Option, IsErr, IsErrAnd}
pub use Rattle.std.proofs.Common.{◌≡◌, ℕ, Bool, true, false, Some, pos, refl, ap, ◌∙◌, arith, int_cmp, is_gt, List, [], ◌∷◌, ◌++◌, map, sym, inl, inr, subst, Ok, Err, ◌<◌, is_eq, Less, Equal, ◌≢◌, not, filter, length, slice_get, None, IsTrue, cond, ◌&&◌, find, Ordering, Greater, true≢false, IsPermutation, append_assoc, Result, ◌+◌, ◌≤◌, take, get_or, rules}
pub use Rattle.std.proofs.lemmas.Bool.{cases_Bool, cases_eq, eq-eqb, ne_eqb, false_from_ne_true}
pub use Rattle.std.proofs.lemmas.Bool.Decides.{nat_tests}
pub use Rattle.std.proofs.lemmas.Cmp.{on_total}
pub use Rattle.std.proofs.lemmas.Grind.{common_steps}
pub use Rattle.std.proofs.lemmas.Int.{ints}
pub use Rattle.std.proofs.lemmas.List.{map-append, take_more, take_all}
pub use Rattle.std.proofs.lemmas.List.Elements.{recursion_from_All, All-from_recursion}
pub use Rattle.std.proofs.lemmas.List.Sorted.{All-permutation, IsPermutation-map, IsPermutation-sym, length_permutation}
pub use Rattle.std.proofs.lemmas.Result.{err_from_is_err_and}
pub use Rattle.sqlite.specs.Clock.{timed}
pub use Rattle.sqlite.specs.Collation.TheVariants.{Binary}
pub use Rattle.sqlite.specs.Effect.{Database}
pub use Rattle.sqlite.specs.Given.{HasGiven, HasBegun, IsPlain}
pub use Rattle.sqlite.specs.Held.{Held, state}
pub use Rattle.sqlite.specs.Listing.{understood, reads_listing, IsSourceOf}
pub use Rattle.sqlite.specs.Rowids.TheVariants.{Chosen}
pub use Rattle.sqlite.specs.State.{State, IsUnchanged, IsRolledBack, FailsToShow, ShowsRows, HasCleanDisk, Survives, KeepsCommit, CommitsShowing}
pub use Rattle.sqlite.specs.Term.{Term, col, op2}
pub use Rattle.sqlite.specs.Tree.{Trees, with_tree}
pub use Rattle.sqlite.specs.Values.{bound}
pub use Rattle.sqlite.specs.declared.error.Error.{Error}
pub use Rattle.sqlite.specs.declared.types.Value.{Value}
pub use Rattle.sqlite.specs.declared.types.Value.TheVariants.{Int}
pub use Rattle.sqlite_keyed.specs.Lists.{insert_sorted, sort_by}
pub use Rattle.sqlite_rules.specs.Edit.{with_rowid, is_taken}
pub use Rattle.sqlite_rules.specs.Lists.{Has}
pub use Rattle.sqlite_schema.specs.declared.command.Command.{Command}
pub use Rattle.sqlite_schema.specs.declared.schema.Column.{Column}
pub use Rattle.sqlite_schema.specs.declared.schema.Constraint.TheVariants.{Unique}
pub use Rattle.sqlite_schema.specs.declared.schema.Schema.{Schema}
pub use Rattle.sqlite_sql.specs.Ops.{is_true, from_truth}
pub use Rattle.sqlite_sql.specs.Program.{overlay}
pub use Rattle.sqlite_sql.specs.Query.{IsAnswer, Output, output_cmp}
pub use Rattle.sqlite_sql.specs.declared.ops.BinaryOp.TheVariants.{Compare}
pub use Rattle.sqlite_sql.specs.declared.ops.CompareOp.TheVariants.{Gt}
pub use Rattle.sqlite_trees.specs.Tree.{rowid, put_row, IsTable, IsAscending}
pub use Rattle.sqlite_trees.specs.View.{is_int}
pub use Rattle.sqlite_trees.specs.declared.store.Store.{Ghosts}
pub use Rattle.sqlite_value.specs.Keys.{ascending}
pub use Rattle.sqlite_value.specs.Order.{value_cmp, Row, column}
pub use Rattle.sqlite_value.specs.declared.keys.Key.{Key}
pub use Rattle.sqlite_value.specs.declared.value.Value.TheVariants.{Null}
pub use Rattle.sqlite.proofs.Callers.{given_begin, begun_plain, unchanged_then, runs_as, reads_as, command_of, begins_shown, EndsIn}
pub use Rattle.sqlite.proofs.StateLemmas.{survives_then}
pub use Rattle.sqlite_keyed.proofs.ListLemmas.{all_both, all-slice_get, all-filter, map-map, filter_all, all_weaker, ascending-map, ascending-filter, ascending_weaker, filter_none, IsPermutation-filter}
pub use Rattle.sqlite_keyed.proofs.SortLemmas.{sorted_is-sort_by, IsPermutation-sort_by, sort_by-map}
pub use Rattle.sqlite_rules.proofs.ListLemmas.{all_has, all_from, has_filtered, has_found}
pub use Rattle.sqlite_sql.proofs.QueryLemmas.{output_cmp_total}
pub use Rattle.sqlite_value.proofs.OrderLemmas.{value_cmp-Int, then-Equal}
pub use Rattle.commands.specs.Sinks.{Reaches, ReachesWithin, StopsWithin}
pub use Rattle.commands.proofs.Handing.{reaches_one_more}
pub use Rattle.table_words.specs.Calls.{Counts}
pub use Rattle.table_words.specs.Cells.{is_number, number_in, typed}
pub use Rattle.table_words.specs.Changed.{Changed}
pub use Rattle.table_words.specs.Found.{AreRows, only_if}
pub use Rattle.table_words.specs.Rows.{IsRows}
pub use Rattle.table_words.specs.Schema.{the_tables, schema_with}
pub use Rattle.table_words.specs.Steps.{IsReady, Goes, ChangesNone}
pub use Rattle.table_words.specs.Typed.{Tables, tables_in, Rule, the_rules, Keeps, AreTyped}
pub use Rattle.table_words.specs.declared.error.TableFault.{TableFault}
pub use Rattle.table_words.specs.declared.error.TableFault.TheVariants.{Store, Foreign}
pub use Rattle.table_words.proofs.CallLemmas.{goes_then, kept_itself, kept_then, inside_itself, inside_then, on_ok_if, if_ok, if_err, was_inside, keeps, refuses}
pub use Rattle.table_words.proofs.CellLemmas.{typed-filter, both_typed, shown_typed}
pub use Rattle.table_words.proofs.KeyLemmas.{AtMostOne, one_by_key, none_had, meets, found_put, found_over, found_without, are_rows_if, IsSame}
pub use Rattle.table_words.proofs.ListLemmas.{over, filter_same_on, IsRows-filter, IsRows-put_row, all_put_row, any_counted, none_counted_pass, none_over, stays_put, IsRows-rewritten}
pub use Rattle.table_words.proofs.Plans.{tests_from, scan}
pub use Rattle.table_words.proofs.ScanLemmas.{passes, show, q, out, kept_are}
pub use Rattle.table_words.proofs.StepLemmas.{ready_after, sets_off_nothing, goes, typed_at, typed_put, front}
pub use Rattle.table_words.proofs.WriteLemmas.{goes_in, updates, deletes}
pub use Rattle.keyed_rows.specs.Described.{keyed, Described, IsLawful, Change, IsChange, DropIs, Query, IsSought, laid, rule_of, sound, with_row, without_row, found, stored_of}
pub use Rattle.keyed_rows.specs.Handed.{HandsAll, HandsSome, HandsUpTo, Hands, AreFirst, HandsUpToForeign, HandsOver}
pub use Rattle.keyed_rows.specs.Ordered.{AreInOrder}
pub use Rattle.keyed_rows.specs.Writes.{WritesBy, Writes, WereTyped, WritesInside, Ran, each_written, if_done}
pub use Rattle.keyed_rows.specs.declared.each_fault.EachFault.{EachFault}
pub use Rattle.keyed_rows.specs.declared.each_fault.EachFault.TheVariants.{Fault, Stopped}
