-- What the definitions of this crate say of what it stands on: each word from where it is defined.
pub use Rattle.sqlite.specs.Compile.{table_defined_by, index_defined_by}
pub use Rattle.sqlite.specs.Effect.{Database, IsDatabase}
pub use Rattle.sqlite.specs.Held.{Held, state}
pub use Rattle.sqlite.specs.Listing.{understood}
pub use Rattle.sqlite.specs.Schema.{Schema}
pub use Rattle.sqlite.specs.State.{State, HasCleanDisk, Shows, IsRolledBack}
pub use Rattle.sqlite.specs.Table.{Table}
pub use Rattle.sqlite.specs.Tree.{Trees}
pub use Rattle.sqlite_schema.specs.Names.{same_name, index_named}
pub use Rattle.sqlite_trees.specs.View.{IsClean, doubt}
pub use Rattle.sqlite.specs.declared.error.Error.{Error}
pub use Rattle.sqlite_schema.specs.declared.command.Command.{Command}
pub use Rattle.sqlite_schema.specs.declared.command.Command.TheVariants.{CreateIndex, Nothing, DropIndex}
pub use Rattle.sqlite_schema.specs.declared.schema.Index.{Index}
pub use Rattle.sqlite_trees.specs.declared.store.Store.{Ghosts}
pub use Rattle.sqlite.proofs.Callers.{IsPlain, command_of, statement_of}
pub use Rattle.commands.specs.declared.rows.MetaRow.{MetaRow}
pub use Rattle.table_words.specs.Found.{AreRows, no_two}
pub use Rattle.table_words.specs.Schema.{items_table, schema_0, the_tables, schema_with, column, id_table, keyed_table, refers_to_none, first_tables, second_tables, least_table, urgents_table, HasTables}
pub use Rattle.table_words.specs.Steps.{IsReady}
pub use Rattle.table_words.specs.Typed.{Tables, tables_in, meta_at, item_mapping, same_item, item_key, ItemKey, Rule, first_rules, second_rules, Keeps, AreTyped, no_rows, with_meta, with_bin, is_meta_at, meta_rows_rows, AreTypedAt}
