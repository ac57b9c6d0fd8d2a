-- Why a connection was not opened.
use Rattle.std.specs.Prelude.{◌≡◌, ◌⊎◌, IsTrue}
use Rattle.sqlite_disk.specs.Disk.{MoreFaults}
use Rattle.books_schema.specs.Words.{Ghosts, IsClean, Held, state, State, Error}
use Rattle.sqlite.specs.declared.error.Error.TheVariants.{SqliteFailure}
use Rattle.sqlite.specs.declared.error.ErrorCode.TheVariants.{OutOfMemory}
use Rattle.table_words.specs.declared.error.TableFault.{TableFault}
use Rattle.table_words.specs.declared.error.TableFault.TheVariants.{Store, Foreign}
use Rattle.books_schema.specs.declared.ready_connection.Leftover.{Leftover}
use Rattle.books_schema.specs.declared.ready_connection.Leftover.TheVariants as left

-- memory did not suffice, or the disk has failed
abbrev pub IsOfFault : (old new : State) → Error → Type 0
IsOfFault old new error = (error ≡ SqliteFailure OutOfMemory) ⊎ MoreFaults old.faults new.faults

-- The tables are others, or memory did not suffice to compare them; where the store is left, memory did not suffice or the disk has
-- failed, if it had not shut the connection before.
abbrev pub HasCause : {S : Type 0} → Ghosts S → Held S → Leftover S → TableFault → Type 0
HasCause g old (left.Connection conn) fault = (fault ≡ Foreign) ⊎ (fault ≡ Store (SqliteFailure OutOfMemory))
HasCause g old (left.Store s) fault =
    IsClean (g.view s) → IsTrue (state g old).is_open → (fault ≡ Store (SqliteFailure OutOfMemory)) ⊎ MoreFaults (state g old).faults (g.faults s)
