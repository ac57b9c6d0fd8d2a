-- What the proofs of this crate say of what it stands on: each word from where it is defined.
pub use Rattle.std.specs.List.{AllByRecursion, list_any, list_all, filter_map}
pub use Rattle.std.specs.Ordering.{is_ne, match_ordering, ordering_reverse}
pub use Rattle.std.specs.Prelude.{◌↔◌, nat_eq, nat_le, drop, ◌^◌, ◌-◌}
pub use Rattle.std.proofs.Common.{◌≡◌, ◌⊎◌, inl, inr, ℕ, Bool, true, false, List, Ok, Err, Result, OnOk, OnErr, IfOk, IfErr, IsTrue, refl, sym, ap, subst, ◌∙◌, arith, map, ◌&&◌, bytes_eq, [], ◌∷◌, ◌++◌, filter, pos, negsuc, ℤ, int_eq, int_cmp, true≢false, ap₂, is_eq, Equal, codes, length, get_or, take, ◌+◌, ◌<◌, ◌≤◌, unwrap_or, not, cond, find, slice_get, Option, Some, None, Ordering, Less, Greater, ◌+ℤ◌, ◌<ℤ◌, ◌||◌, fold, IsPermutation, flat_map, zero, suc, ◌≢◌, ◌/◌}
pub use Rattle.std.proofs.lemmas.Bool.{cases_Bool, and_parts, and_from, not-true, false_from_ne_true, cases_eq, eq-eqb, ne_eqb}
pub use Rattle.std.proofs.lemmas.Bool.Decides.{nat_tests, Decides-eqb, Decides-int_eq}
pub use Rattle.std.proofs.lemmas.Cmp.{tied_itself}
pub use Rattle.std.proofs.lemmas.Int.{ints}
pub use Rattle.std.proofs.lemmas.List.{take_more, map-append, length-map}
pub use Rattle.std.proofs.lemmas.List.Sorted.{list_any-IsPermutation, IsPermutation-map, IsPermutation-sym, Contains-permutation, length_permutation}
pub use Rattle.std.proofs.lemmas.Map.Text.{is_eq-slice_cmp}
pub use Rattle.std.proofs.lemmas.Slice.Eq.{bytes_eq-Decides}
pub use Rattle.sqlite.specs.Cast.{cast, cast_all}
pub use Rattle.sqlite.specs.Clock.{timed}
pub use Rattle.sqlite.specs.Command.TheVariants.{Insert, Update, Delete}
pub use Rattle.sqlite.specs.Does.{Tally, Does, AtPlace, OnRows}
pub use Rattle.sqlite.specs.Edit.{edit_of, edited, taken_by}
pub use Rattle.sqlite.specs.Effect.{Database, value_rows}
pub use Rattle.sqlite.specs.Held.{Held, state}
pub use Rattle.sqlite.specs.Kind.TheVariants.{Integer}
pub use Rattle.sqlite.specs.Listing.{understood}
pub use Rattle.sqlite.specs.Program.{overlay}
pub use Rattle.sqlite.specs.Query.{Query, inner, end, IsAnswer, output, output_cmp, Output}
pub use Rattle.sqlite.specs.Rowids.TheVariants.{Given, Chosen}
pub use Rattle.sqlite.specs.Rows.{Written, Task}
pub use Rattle.sqlite.specs.Schema.{Schema}
pub use Rattle.sqlite.specs.Source.TheVariants.{Values}
pub use Rattle.sqlite.specs.State.{State, Survives, ExecutesInside, KeepsCommit, IsUnchanged, IsRolledBack, FailsToShow, IsTooLate, ShowsRows, mode_of, Writes}
pub use Rattle.sqlite.specs.Store.{Ghosts}
pub use Rattle.sqlite.specs.Table.{Table}
pub use Rattle.sqlite.specs.Term.{Term, lit, col, op2, Env, eval_all, holds}
pub use Rattle.sqlite.specs.Tree.{Trees, IsAscending, with_tree}
pub use Rattle.sqlite.specs.Values.{bound, bound_value}
pub use Rattle.sqlite.specs.declared.error.Error.{Error}
pub use Rattle.sqlite_catalog.specs.Listing.{IsSound}
pub use Rattle.sqlite_rules.specs.Action.{works, work_for}
pub use Rattle.sqlite_rules.specs.Calls.{ids_of}
pub use Rattle.sqlite_rules.specs.Cast.{cast_row}
pub use Rattle.sqlite_rules.specs.Edit.{is_taken, id_in, next_rowid, without_all, Edit, put_all, numbered, with_rowid, are_fresh}
pub use Rattle.sqlite_rules.specs.Lists.{Has}
pub use Rattle.sqlite_schema.specs.Rules.{equal, agree, differ, clashes, guards, passes as passes_rule}
pub use Rattle.sqlite_schema.specs.declared.command.Command.{Command}
pub use Rattle.sqlite_schema.specs.declared.program.Program.{Program}
pub use Rattle.sqlite_schema.specs.declared.schema.Column.{Column}
pub use Rattle.sqlite_schema.specs.declared.schema.Constraint.TheVariants.{Unique}
pub use Rattle.sqlite_schema.specs.declared.schema.Index.{Index}
pub use Rattle.sqlite_schema.specs.declared.schema.Keys.TheVariants.{Enforced}
pub use Rattle.sqlite_sql.specs.Ops.{is_true, from_truth, is_null}
pub use Rattle.sqlite_sql.specs.declared.ops.BinaryOp.TheVariants.{Compare}
pub use Rattle.sqlite_sql.specs.declared.ops.CompareOp.TheVariants.{Eq}
pub use Rattle.sqlite_trees.specs.Tree.{rowid, put_row, IsTable, has_rowid, without_rowid}
pub use Rattle.sqlite_trees.specs.View.{is_int}
pub use Rattle.sqlite_value.specs.Keys.{plain, ascending}
pub use Rattle.sqlite_value.specs.Order.{Row, bytes, class, value_cmp, column}
pub use Rattle.sqlite_value.specs.Value.{owned}
pub use Rattle.sqlite_value.specs.declared.keys.Collation.TheVariants.{Binary}
pub use Rattle.sqlite_value.specs.declared.keys.Key.{Key}
pub use Rattle.sqlite_value.specs.declared.keys.Order.{Order}
pub use Rattle.sqlite_value.specs.declared.value.Value.{Value}
pub use Rattle.sqlite_value.specs.declared.value.Value.TheVariants.{Null, Int, Real, Text, Blob}
pub use Rattle.sqlite_value.specs.declared.value.ValueRef.{ValueRef}
pub use Rattle.sqlite.proofs.Callers.{IsPlain, one_step, one_permutation}
pub use Rattle.sqlite.proofs.StateLemmas.{survives_then}
pub use Rattle.sqlite_keyed.proofs.ListLemmas.{map-map, all-append, all_map, all_weaker, ascending-filter, all-filter, ascending-map, ascending_weaker, all_both, all-slice_get, none_from_any, map_same}
pub use Rattle.sqlite_keyed.proofs.SortLemmas.{sorted_unique}
pub use Rattle.sqlite_rules.proofs.ListLemmas.{all_has, all_from, test_has, some_from, has_filtered, some_has, has_kept, has_contained, contains_had}
pub use Rattle.sqlite_rules.proofs.PlaceLemmas.{tied_same}
pub use Rattle.sqlite_rules.proofs.TableLemmas.{has_put, int_is, put_has, put_all_has, put_all_keeps, put_all_adds}
pub use Rattle.sqlite_sql.proofs.QueryLemmas.{output_cmp_total}
pub use Rattle.sqlite_trees.proofs.TreeLemmas.{IsTable-put_row}
pub use Rattle.sqlite_value.proofs.OrderLemmas.{value_cmp-Text, value_cmp-Int, value_cmp-apart, value_cmp_total}
pub use Rattle.values.specs.declared.lot.LotId.{LotId}
pub use Rattle.commands.specs.Words.{bin_kind_word, order_state_of, order_state_word, card_kind_word}
pub use Rattle.commands.specs.declared.command.BinKind.{BinKind}
pub use Rattle.commands.specs.declared.command.BinKind.TheVariants.{Store, Hold}
pub use Rattle.commands.specs.declared.rows.CardKind.{CardKind}
pub use Rattle.commands.specs.declared.rows.CardKind.TheVariants.{Receipt, WriteOn, WriteOff, Shipment}
pub use Rattle.commands.specs.declared.rows.OrderState.{OrderState}
pub use Rattle.commands.specs.declared.rows.OrderState.TheVariants.{Open, Done, Cancelled}
pub use Rattle.table_words.specs.Calls.{Reads, ShowsForeign}
pub use Rattle.table_words.specs.Cells.{typed, is_word, is_the_text, is_number, is_count, is_the_number, number_in, flag_number, flag_in, bin_kind_in, is_open_state, order_state_in, card_kind_in}
pub use Rattle.table_words.specs.Changed.{Changed}
pub use Rattle.table_words.specs.Found.{AreRows, no_two, only_if}
pub use Rattle.table_words.specs.Rows.{IsRows}
pub use Rattle.table_words.specs.Schema.{the_tables, schema_with, is_nil, refers_to_none, HasTables, plain_table}
pub use Rattle.table_words.specs.Steps.{IsReady, Goes, ChangesNone}
pub use Rattle.table_words.specs.Typed.{Tables, tables_in, AreTyped, same_lot_id, Rule, the_rules, Keeps}
pub use Rattle.table_words.specs.declared.error.TableFault.TheVariants.{Foreign}
