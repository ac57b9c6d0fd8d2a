-- What the definitions of this crate say of what it stands on: each word from where it is defined.
pub use Rattle.sqlite.specs.Effect.{Database, value_rows}
pub use Rattle.sqlite.specs.Given.{IsPlain}
pub use Rattle.sqlite.specs.Listing.{understood, reads_listing}
pub use Rattle.sqlite.specs.State.{State, Shown, Begins, IsUnchanged, IsRolledBack, HasCleanDisk, Survives, KeepsCommit}
pub use Rattle.sqlite.specs.Term.{Term, col, lit}
pub use Rattle.sqlite.specs.Tree.{Trees, with_tree}
pub use Rattle.sqlite_trees.specs.Tree.{rowid}
pub use Rattle.sqlite_value.specs.Order.{Row, column, bytes, value_cmp}
pub use Rattle.sqlite_schema.specs.declared.schema.Column.{Column}
pub use Rattle.sqlite_value.specs.declared.value.Value.TheVariants.{Text, Null}
pub use Rattle.sqlite_keyed.proofs.ListLemmas.{all_of, all_weaker, all-slice_get}
pub use Rattle.commands.specs.Tables.{Tables}
pub use Rattle.table_words.specs.Calls.{Reads, ShowsForeign, Counts}
pub use Rattle.table_words.specs.Cells.{is_the_text, is_word, typed}
pub use Rattle.table_words.specs.Found.{AreRows}
pub use Rattle.table_words.specs.Schema.{the_tables, schema_with, plain_table}
pub use Rattle.table_words.specs.Steps.{IsReady, ChangesNone, Goes}
pub use Rattle.table_words.specs.Stored.{Columns, Mapping, is_stored_row, stored_row}
pub use Rattle.table_words.specs.Typed.{tables_in, Rule, the_rules, AreTyped}
pub use Rattle.table_words.specs.declared.chain.TheConstants.{COLUMNS_MAX}
pub use Rattle.table_words.specs.declared.error.TableFault.{TableFault}
pub use Rattle.table_words.specs.declared.error.TableFault.TheVariants.{Store, Foreign}
pub use Rattle.table_words.proofs.KeyLemmas.{AtMostOne, IsSame, are_rows}
pub use Rattle.table_words.proofs.Plans.{tests_from, by_rowid, scan, alone}
pub use Rattle.table_words.proofs.ScanLemmas.{passes, in_order, show}
