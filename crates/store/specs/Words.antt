-- What the definitions of this crate say of what it stands on: each word from where it is defined.
pub use Rattle.sqlite.specs.Held.{state, Held}
pub use Rattle.sqlite.specs.State.{State, HasCleanDisk, KeepsCommit, Survives}
pub use Rattle.sqlite.specs.Tree.{Trees}
pub use Rattle.sqlite_trees.specs.declared.store.Store.{Ghosts}
pub use Rattle.values.specs.Values.{same_text}
pub use Rattle.commands.specs.Tables.{Tables}
pub use Rattle.commands.specs.declared.command.Command.{Command}
pub use Rattle.commands.specs.declared.key.Key.{Key}
pub use Rattle.commands.specs.declared.refusal.Refusal.{Refusal}
pub use Rattle.commands.specs.declared.rows.RepeatRow.{RepeatRow}
pub use Rattle.machine.specs.Acts.{Act}
pub use Rattle.machine.specs.Once.{Outcome, IsHistory, is_key_of, bearer, outcome, acts_after, tallied, FileOutcome, Taken, RefusedRow, file_outcome, acts_after_file}
pub use Rattle.machine.specs.Standing.{day_after_command, today}
pub use Rattle.machine.specs.Tables.{repeat_row, tables_of}
pub use Rattle.table_words.specs.Steps.{IsReady, Goes}
pub use Rattle.table_words.specs.Typed.{tables_in, AreTypedAt}
pub use Rattle.table_words.specs.declared.error.TableFault.{TableFault}
pub use Rattle.tables.specs.Repeats.{repeats}
pub use Rattle.books_schema.specs.Opening.{TellTables, HasDayIn, IsReadyAs, AreReadTyped, KeepsRowsAs, ComesTo, IsClosed}
pub use Rattle.slices.specs.Books.{IsBooksOf}
pub use Rattle.slices.specs.declared.knowing.Known.{Known}
