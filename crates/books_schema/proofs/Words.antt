-- What the proofs of this crate say of what it stands on: each word from where it is defined.
pub use Rattle.std.specs.List.{AllByRecursion, list_all, list_any, position_from}
pub use Rattle.std.specs.Option.{option_or}
pub use Rattle.std.specs.Prelude.{◌↔◌, if◌then◌else◌, option_map, find, bytes_eq, ◌==◌, nat_lt}
pub use Rattle.std.specs.Result.{IsOk, IsErrAnd, IsOkAnd}
pub use Rattle.std.proofs.Common.{◌≡◌, inl, inr, ℕ, ℤ, Bool, true, false, Option, Some, None, List, [], ◌∷◌, ◌++◌, ◌||◌, map, filter, drop, cond, refl, sym, ap, subst, ◌∙◌, IsTrue, Ok, Err, Result, OnOk, ◌+◌, not, slice_get, length, append_assoc, arith, codes, OnErr, IfOk, IfErr, is_some, ◌≤◌, ◌⊎◌, take, rules, ◌<◌, get_or}
pub use Rattle.std.proofs.lemmas.Bool.{cases_Bool, and_parts, or_cases, or_parts, not-true, eq-eqb, ne_eqb, ltb-true}
pub use Rattle.std.proofs.lemmas.Grind.{common_steps}
pub use Rattle.std.proofs.lemmas.Option.{gets}
pub use Rattle.std.proofs.lemmas.Result.{on_ok_weaker, err_from_is_err_and}
pub use Rattle.std.proofs.lemmas.Slice.Eq.{bytes_eq-Decides}
pub use Rattle.sqlite.specs.Change.{created, without_index, next_tree, indexed}
pub use Rattle.sqlite.specs.Command.TheVariants.{DropIndex, Nothing, CreateTable, CreateIndex, Begin}
pub use Rattle.sqlite.specs.Does.{Tally, AtPlace, Defines, Leaves, lacks_sequence, MakesIndex}
pub use Rattle.sqlite.specs.Effect.{Database, IsDatabase, RefusesToAlter}
pub use Rattle.sqlite.specs.Held.{Held, state}
pub use Rattle.sqlite.specs.Listing.{misses_table, understood}
pub use Rattle.sqlite.specs.Order.{column}
pub use Rattle.sqlite.specs.Schema.{Schema}
pub use Rattle.sqlite.specs.State.{State, IsUnchanged, IsLive, mode_of, ExecutesInside, HasCleanDisk, Shows, IsRolledBack, KeepsCommit, Survives, Writes}
pub use Rattle.sqlite.specs.Steps.{FailsToCommit}
pub use Rattle.sqlite.specs.Table.{Table}
pub use Rattle.sqlite.specs.Tree.{Trees}
pub use Rattle.sqlite.specs.View.{View, IsOrdered, IsShaped}
pub use Rattle.sqlite.specs.declared.error.Error.{Error}
pub use Rattle.sqlite_catalog.specs.Calls.{RefusesToDropIndex}
pub use Rattle.sqlite_catalog.specs.Listing.{IsSound, Lists}
pub use Rattle.sqlite_resolve.specs.Compile.{compiled, dropped, is_reserved}
pub use Rattle.sqlite_resolve.specs.Lowering.{and_then}
pub use Rattle.sqlite_resolve.specs.declared.compiled.Compiled.{Compiled}
pub use Rattle.sqlite_resolve.specs.declared.error.CompileError.{CompileError}
pub use Rattle.sqlite_resolve.specs.declared.error.CompileError.TheVariants.{NoSuchIndex, Exists}
pub use Rattle.sqlite_schema.specs.Names.{same_name, index_named, table_named, view_named}
pub use Rattle.sqlite_schema.specs.declared.command.Command.{Command}
pub use Rattle.sqlite_schema.specs.declared.command.Returning.{Returning}
pub use Rattle.sqlite_schema.specs.declared.schema.Index.{Index}
pub use Rattle.sqlite_trees.specs.Objects.{catalog_tree, IsListed}
pub use Rattle.sqlite_trees.specs.View.{IsQuiet, doubt, IsRolledBack as IsUndone}
pub use Rattle.sqlite_trees.specs.declared.store.Store.{Ghosts}
pub use Rattle.sqlite_value.specs.Keys.{plain}
pub use Rattle.sqlite_value.specs.Order.{Row}
pub use Rattle.sqlite.proofs.Callers.{IsPlain, command_of, runs_as, statement_of, unchanged_then}
pub use Rattle.sqlite.proofs.StateLemmas.{survives_then, unchanged}
pub use Rattle.sqlite_catalog.proofs.LayoutLemmas.{table_shape, objects_rise}
pub use Rattle.sqlite_catalog.proofs.ReadLemmas.{lists_once}
pub use Rattle.sqlite_catalog.proofs.StepLemmas.{same_itself}
pub use Rattle.sqlite_keyed.proofs.ListLemmas.{all_both, all_weaker, all-filter, all-append, all_from_test}
pub use Rattle.sqlite_rules.proofs.ListLemmas.{all_from}
pub use Rattle.commands.specs.Schemas.{with_least, asking_none}
pub use Rattle.commands.specs.declared.limits.TheConstants.{SCHEMA_VERSION}
pub use Rattle.commands.specs.declared.rows.BinRow.{BinRow}
pub use Rattle.commands.specs.declared.rows.ItemRow.{ItemRow}
pub use Rattle.commands.specs.declared.rows.LeastRow.{LeastRow}
pub use Rattle.commands.specs.declared.rows.MetaRow.{MetaRow}
pub use Rattle.table_words.specs.Cells.{typed, is_the_number}
pub use Rattle.table_words.specs.Found.{no_two}
pub use Rattle.table_words.specs.Rows.{IsRows}
pub use Rattle.table_words.specs.Schema.{schema_with, the_tables, least_table, urgents_table, meta_table, is_harmless, schema_0, HasTables, staged_table, reserved_table, items_table, bins_table, lots_table, recalls_table, stock_table, orders_table, lines_table, shipments_table, shiplines_table, cards_table, repeats_table}
pub use Rattle.table_words.specs.Steps.{IsReady, Goes, ChangesNone}
pub use Rattle.table_words.specs.Stored.{is_stored_row}
pub use Rattle.table_words.specs.Typed.{Tables, tables_in, with_meta, with_least as with_least_row, is_meta_at, meta_in, same_meta, meta_key, meta_at, item_mapping, least_mapping, urgent_mapping, Rule, rule_for, first_rules, second_rules, Keeps, AreTyped, AreTypedAt, no_rows, with_bin, the_rules, meta_rows_rows}
pub use Rattle.table_words.specs.declared.error.TableFault.{TableFault}
pub use Rattle.table_words.specs.declared.error.TableFault.TheVariants.{Foreign, Store}
pub use Rattle.table_words.proofs.CallLemmas.{kept_undone, kept_unchanged, goes_then, was_inside, keeps, on_ok_then, refuses, on_err, kept_then, put_back, if_both, if_err, if_ok, kept_itself, inside_itself, inside_then}
pub use Rattle.table_words.proofs.ListLemmas.{only_is}
pub use Rattle.table_words.proofs.StepLemmas.{tables_same, front, typed_same}
pub use Rattle.table_words.proofs.WriteLemmas.{went, same_value}
pub use Rattle.keyed_rows.specs.Writes.{each_written}
pub use Rattle.keyed_rows.proofs.Writing.{same_error}
pub use Rattle.books_schema.specs.Bringing.{as_brought, older_tables_in, AreOlderTyped, AreFillersTyped, AreOlderRows, IsOlderReady, IsOlder, HasRoom, row_of, AsksNone, Fills, IsWritten, AreItemsTyped, IsBrought}
pub use Rattle.books_schema.specs.Causes.{IsOfFault}
pub use Rattle.books_schema.specs.Creation.{IsVoid, Holds, first_rows}
pub use Rattle.books_schema.specs.Ending.{Ends}
pub use Rattle.books_schema.specs.Growing.{Makes, IsGrown, AreMade, grown, added_by, added_above}
pub use Rattle.books_schema.specs.Keeping.{KeepsRows}
pub use Rattle.books_schema.specs.Layouts.{PlainIndex, is_of, table_at, BeginsWithTables, table_of, key_of}
pub use Rattle.books_schema.specs.Older.{plan, number, older_tables, lacking_tables, older_with, KeepsOlderRows, HasOurs, older_keys, last_tree, our_indexes, is_index_of_books, is_ours, same_named, AreOurs, lacks, HasFewer, drop_found, Drops, IsOlderSchema}
pub use Rattle.books_schema.specs.Opening.{HasSchema, IsReadyAs, Tells, TellTables, IsClosed, HasDayIn, AreReadTyped, ComesTo}
pub use Rattle.books_schema.specs.Orderly.{IsInOrder}
pub use Rattle.books_schema.specs.Settling.{HasDayAt, HasRow, IsNumbered, Numbers, HasDay}
pub use Rattle.books_schema.specs.declared.dropping.TheConstants.{DROP_STAGED_BY_GTIN, DROP_RESERVED_BY_GTIN, DROP_SHIPLINES_OF_LOT, DROP_ORDERS_BY_STATE}
pub use Rattle.books_schema.specs.declared.layouts.TableLayout.{TableLayout}
pub use Rattle.books_schema.specs.declared.layouts.TheConstants.{CREATE_LEAST, CREATE_URGENTS, CREATE_META, CREATE_ITEMS, CREATE_BINS, CREATE_LOTS, CREATE_RECALLS, CREATE_STOCK, CREATE_ORDERS, CREATE_LINES, CREATE_STAGED, CREATE_RESERVED, CREATE_SHIPMENTS, CREATE_SHIPLINES, CREATE_CARDS, CREATE_REPEATS}
pub use Rattle.books_schema.specs.declared.older.OlderBooks.{OlderBooks}
pub use Rattle.books_schema.specs.declared.older.OlderBooks.TheVariants.{First, Second}
pub use Rattle.books_schema.specs.declared.ready_connection.Found.{Found}
pub use Rattle.books_schema.specs.declared.ready_connection.Found.TheVariants.{Newest, Older}
pub use Rattle.books_schema.specs.declared.ready_connection.TheConstants.{NEVER_RUN}
pub use Rattle.books_schema.specs.declared.settling.TheConstants.{THIRD}
pub use Rattle.books_schema.specs.declared.steps.Step.{Step}
