-- What is left where the books of a line could not be made or opened, and what is told of it.
use Rattle.std.specs.Prelude.{◌≡◌, ◌≢◌, ◌⊎◌, ◌↔◌, ℤ, List, false}
use Rattle.service.specs.Words.{Ghosts, Held, state, HasCleanDisk, Opens, IsLive, Act, IsHistory, Fault, Store, Foreign}
use Rattle.table_words.specs.Schema.{schema_0}
use Rattle.books_schema.specs.declared.ready_connection.Leftover.{Leftover}
use Rattle.books_schema.specs.declared.ready_connection.Leftover.TheVariants.{Connection}
use Rattle.store.specs.Opening.{Found, HasSchema, IsOfNone, Tells, AreRowsAt, IsForeignWithin, IsCleanLeft, IsLeftOver, IsLeftUnfilled}
use Rattle.store.specs.declared.fault.Fault.{Fault as BooksFault}
use Rattle.store.specs.declared.fault.Fault.TheVariants as books

-- why there are none, as the line tells it
abbrev pub fault_of_books : BooksFault → Fault
fault_of_books books.Foreign = Foreign
fault_of_books books.Store = Store
fault_of_books (books.Refused why) = Store

-- why there are no books to work with
abbrev pub IsOfBooks : Fault → Type 0
IsOfBooks fault = (fault ≡ Store) ⊎ (fault ≡ Foreign)

module _ {S : Type 0} (g : Ghosts S) (old : Held S) where
  -- a disk that has returned what was written until now had done so before
  abbrev pub IsCleanBefore : Leftover S → Type 0
  IsCleanBefore left = IsCleanLeft g left → HasCleanDisk (state g old)

  -- no books were made: the tables are as they were, and a stop leaves them or the first tables of this day
  pub record IsUnmade (day : ℤ) (left : Leftover S) (fault : Fault) : Type 0 where
    pub kept : (left ≡ Connection old) ⊎ IsLeftUnfilled g old day left
    pub clean : IsCleanBefore left
    pub cause : IsOfBooks fault
    pub foreign : old.in_transaction ≡ false → (fault ≡ Foreign) ↔ ((state g old).now.schema ≢ schema_0)
    pub unchanged : fault ≡ Foreign → left ≡ Connection old

  -- the books were not opened: the tables have the rows that they had, and those of a history are never told as foreign
  pub record IsUnopened (left : Leftover S) (fault : Fault) : Type 0 where
    pub kept : IsLeftOver g old left
    pub clean : IsCleanBefore left
    pub cause : IsOfBooks fault
    pub foreign : IsCleanLeft g left → fault ≡ Foreign → IsOfNone (state g old).now.schema ⊎ IsForeignWithin (state g old)
    pub known : IsCleanLeft g left → (found : Found) → HasSchema found (state g old).now.schema → (first : ℤ) (acts : List Act) → IsHistory first acts
        → AreRowsAt found first acts (state g old).committed.trees → fault ≡ Store
    pub again : IsCleanLeft g left → Opens (state g old) → IsLive (state g old) → (found : Found) → Tells found (state g old).committed.trees
        → (first : ℤ) (acts : List Act) → IsHistory first acts → AreRowsAt found first acts (state g old).committed.trees → fault ≡ Store
    pub unchanged : IsOfNone (state g old).now.schema → left ≡ Connection old
