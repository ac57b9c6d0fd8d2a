-- What the proofs of this crate say of what it stands on: each word from where it is defined.
pub use Rattle.std.specs.List.{AllByRecursion}
pub use Rattle.std.specs.Prelude.{nat_eq, if◌then◌else◌, ◌↔◌, bytes_eq, Some, option_map, nat_le}
pub use Rattle.std.proofs.Common.{◌≡◌, ◌<◌, ℕ, true, false, ◌&&◌, List, [], ◌∷◌, codes, map, Result, refl, sym, ap, ap₂, ◌∙◌, subst, arith, Equal, Bool, not, filter, inl, inr, find, None, pos, IsTrue, ◌≢◌, drop, length, int_cmp, negsuc}
pub use Rattle.std.proofs.lemmas.Bool.{and_parts, cases_Bool, true≢false}
pub use Rattle.std.proofs.lemmas.Bool.Decides.{nat_tests}
pub use Rattle.std.proofs.lemmas.Int.{ints}
pub use Rattle.sqlite.specs.Command.TheVariants.{Select}
pub use Rattle.sqlite.specs.Effect.{Database}
pub use Rattle.sqlite.specs.Held.{state}
pub use Rattle.sqlite.specs.Listing.{reads_listing}
pub use Rattle.sqlite.specs.Order.{Row, column}
pub use Rattle.sqlite.specs.Schema.{Schema}
pub use Rattle.sqlite.specs.State.{State, Shown}
pub use Rattle.sqlite.specs.Term.{Term, col}
pub use Rattle.sqlite.specs.Tree.{Trees, with_tree}
pub use Rattle.sqlite.specs.declared.types.Value.TheVariants.{Null, Text, Int}
pub use Rattle.sqlite_rules.specs.Lists.{Has}
pub use Rattle.sqlite_trees.specs.Tree.{rowid}
pub use Rattle.sqlite_trees.specs.View.{is_int}
pub use Rattle.sqlite_value.specs.Order.{value_cmp, bytes}
pub use Rattle.sqlite_value.proofs.OrderLemmas.{value_cmp-Int}
pub use Rattle.sqlite.proofs.Callers.{IsPlain, command_of, reads_as, runs_as, never_commits}
pub use Rattle.sqlite.proofs.StateLemmas.{survives_weaker}
pub use Rattle.sqlite.specs.Cast.{cast_all}
pub use Rattle.sqlite.specs.declared.types.Value.{Value}
pub use Rattle.sqlite.specs.Collation.TheVariants.{Binary}
pub use Rattle.sqlite_keyed.proofs.ListLemmas.{map-map, all-slice_get, all_map, all-filter, all_both}
pub use Rattle.sqlite_rules.proofs.ListLemmas.{all_has}
pub use Rattle.sqlite_rules.specs.Edit.{id_in}
pub use Rattle.sqlite_schema.specs.Rules.{are_typed, are_present, is_of, passes as passes_rule}
pub use Rattle.sqlite_schema.specs.declared.schema.Constraint.{Constraint}
pub use Rattle.sqlite_schema.specs.declared.schema.Constraint.TheVariants.{Datatype, NotNull}
pub use Rattle.sqlite_sql.specs.Ops.{is_true, from_truth, is_null}
pub use Rattle.sqlite_sql.specs.declared.ops.BinaryOp.TheVariants.{Compare}
pub use Rattle.sqlite_sql.specs.declared.ops.CompareOp.TheVariants.{Le, Ge}
pub use Rattle.values.specs.Values.{is_gtin, is_lot_text, QTY_MAX, is_name}
pub use Rattle.values.specs.declared.lot.LotId.{LotId}
pub use Rattle.commands.specs.declared.limits.TheConstants.{ACTS_MAX, SCHEMA_VERSION}
pub use Rattle.commands.specs.declared.rows.CardRow.{CardRow}
pub use Rattle.commands.specs.declared.rows.MetaRow.{MetaRow}
pub use Rattle.table_words.specs.Calls.{Counts}
pub use Rattle.table_words.specs.Cells.{is_number, typed, is_the_number, is_word, is_count}
pub use Rattle.table_words.specs.Changed.{Changed}
pub use Rattle.table_words.specs.Found.{AreRows}
pub use Rattle.table_words.specs.Schema.{schema_with, cards_table, meta_table, the_tables, lines_table}
pub use Rattle.table_words.specs.Steps.{IsReady, Goes}
pub use Rattle.table_words.specs.Typed.{same_lot_id, tables_in, AreTyped, is_meta_at, meta_in, has_meta, meta_read, MetaKey, same_meta, meta_key, meta_rows_rows, is_meta, meta_at, with_meta, the_rules, Rule, Keeps, AreTypedAt}
pub use Rattle.table_words.proofs.CallLemmas.{on_ok_if, if_ok, if_err, query_same}
pub use Rattle.table_words.proofs.CellLemmas.{and_true, same_word, counted, same_lots, itself_lot, same_number, itself_number, typed-filter, same_the_number, equals_number, both_typed, shown_typed}
pub use Rattle.table_words.proofs.KeyLemmas.{itself_both, AtMostOne, one_by_rowid, few, IsSame, are_rows}
pub use Rattle.table_words.proofs.ListLemmas.{IsRows-filter, filter_same_on, none_counted_pass, rewritten, IsRows-rewritten}
pub use Rattle.table_words.proofs.Plans.{same, scan, alone}
pub use Rattle.table_words.proofs.ScanLemmas.{passes, show, scanned}
pub use Rattle.table_words.proofs.StepLemmas.{sets_off_nothing, goes, typed_put, front}
pub use Rattle.table_words.proofs.WriteLemmas.{deletes, only_shown, updates, cast_number}
pub use Rattle.keyed_rows.specs.AskedLaws.{key_found}
pub use Rattle.keyed_rows.specs.Asks.{tests_of}
pub use Rattle.keyed_rows.specs.Described.{Described, IsLawful, found, rule_of, sound}
pub use Rattle.keyed_rows.specs.Handed.{Hands, HandsOver}
pub use Rattle.keyed_rows.specs.declared.each_fault.EachFault.{EachFault}
pub use Rattle.keyed_rows.proofs.Keys.{number_rises, number_ties}
pub use Rattle.keyed_rows.proofs.Laws.{apart, rows_of, typed_rows, changes}
pub use Rattle.keyed_rows.proofs.OrderedScans.{by_column, stored, are_shown, stored_good, in_key_order}
pub use Rattle.keyed_rows.proofs.Over.{rest_shown, over}
pub use Rattle.keyed_rows.proofs.Rising.{one_order}
pub use Rattle.keyed_rows.proofs.Writing.{ran_writes}
pub use Rattle.tables.specs.ByKey.{AreCardLines}
pub use Rattle.tables.specs.Cards.{cards, cards_laws}
pub use Rattle.tables.specs.Dropping.{without_rows, DropsBy}
pub use Rattle.tables.specs.Meta.{meta, meta_laws, change_meta, change_meta_laws}
pub use Rattle.tables.specs.Staged.{staged, staged_laws, staged_of_order, staged_of_order_laws, stage_drop_is, without_stage}
pub use Rattle.tables.specs.declared.goods_texts.TheConstants.{META_ROWS, CHANGE_META}
pub use Rattle.tables.specs.declared.history_texts.TheConstants.{CARDS_BY_ACT}
pub use Rattle.tables.specs.declared.order_texts.TheConstants.{DROP_STAGE, FILL_LINES}
pub use Rattle.tables.specs.Filling.{filled_rows, FillsBy}
pub use Rattle.tables.specs.Lines.{lines, lines_laws, lines_fill_is, filled_tests, filled_columns, filled_line, lines_filled}
