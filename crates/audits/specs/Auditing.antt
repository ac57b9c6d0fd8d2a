-- What an audit finds.
use Rattle.std.specs.Prelude.{◌≡◌, ◌⊎◌, ◌≤◌, ⊤, ℕ, false, List, length, reverse, Option, Some, None, Result, Ok, Err, ℤ}
use Rattle.sqlite.specs.Held.{Held, state}
use Rattle.sqlite.specs.Tree.{Trees}
use Rattle.sqlite.specs.State.{State, HasCleanDisk}
use Rattle.sqlite_trees.specs.declared.store.Store.{Ghosts}
use Rattle.sqlite_trees.specs.View.{doubt}
use Rattle.commands.specs.declared.rows.RepeatRow.{RepeatRow}
use Rattle.table_words.specs.Typed.{tables_in, Keeps}
use Rattle.books_schema.specs.Opening.{HasSchema, IsClosed}
use Rattle.books_schema.specs.declared.ready_connection.Found.{Found}
use Rattle.books_schema.specs.declared.ready_connection.Leftover.{Leftover}
use Rattle.books_schema.specs.declared.ready_connection.Leftover.TheVariants as left
use Rattle.machine.specs.Acts.{Act}
use Rattle.machine.specs.Once.{IsHistory}
use Rattle.machine.specs.Tables.{Tables, tables_of, repeat_row}
use Rattle.slices.specs.Books.{AreRowsOf, IsBooksOf}
use Rattle.store.specs.Opening.{AreRowsAt}
use Rattle.whole_tables.specs.declared.key.RowKey.{RowKey}
use Rattle.whole_tables.specs.Differing.{RowDiffers, rule_called}
use Rattle.texts.specs.declared.start.Start.{Start}
use Rattle.histories.specs.Start.{first_day, start_of}
use Rattle.replays.specs.Replaying.{Spell, BreakUnspelled, BreakRefused}
use Rattle.replays.specs.Spelled.{AreRepeats, IsUnnumbered}
use Rattle.replays.specs.Starting.{TellFirst}
use Rattle.replays.specs.declared.fault.NotReplayed.{NotReplayed}
use Rattle.replays.specs.declared.fault.NotReplayed.TheVariants as fault
use Rattle.store.specs.declared.fault.Fault.{Fault}
use Rattle.store.specs.declared.fault.Fault.TheVariants.{Store}
use Rattle.audits.specs.Beginning.{IsUntold}
use Rattle.audits.specs.Raising.{AreNewest, CannotBeRaised}
use Rattle.audits.specs.declared.finding.Unread.{Unread}
use Rattle.audits.specs.declared.finding.Unread.TheVariants as unread
use Rattle.audits.specs.declared.finding.Finding.{Finding}
use Rattle.audits.specs.declared.finding.Finding.TheVariants.{Sound, Differs, Untyped, Unnumbered, Unspelled, Refused}

-- the rows, the newest first, spell a history from this day, and the connection shows the books of it
pub record AreDone {S : Type 0} (g : Ghosts S) (day : ℤ) (rows : List RepeatRow) (conn : Held S) : Type 0 where
  pub acts : List Act
  pub spelled : Spell rows acts
  pub history : IsHistory day acts
  pub books : IsBooksOf day acts (state g conn).now

-- they break off; or memory did not suffice
abbrev pub AreNone : ℤ → List RepeatRow → NotReplayed → Type 0
AreNone day rows (fault.Unspelled act) = BreakUnspelled day rows act
AreNone day rows (fault.Refused act why) = BreakRefused day rows act why
AreNone day rows fault.Store = Unit {0}
AreNone day rows fault.Foreign = ⊥

-- what is found of tables that are compared with those of these acts, begun on this day, of which there are so many
abbrev pub IsHeld : ℤ → List Act → ℕ → Trees → Finding → Type 0
IsHeld day acts count trees (Sound n first) = (n ≡ count) × (first ≡ day) × AreRowsOf day acts trees
IsHeld day acts count trees (Differs row) = RowDiffers row (tables_in trees) (tables_of day acts)
IsHeld day acts count trees (Untyped name) = ¬ Keeps trees (rule_called name)
IsHeld day acts count trees (Unnumbered k) = ⊥
IsHeld day acts count trees (Unspelled act) = ⊥
IsHeld day acts count trees (Refused act why) = ⊥

-- what is told where tables were not read
abbrev pub told_unread : Unread → Result Finding Fault
told_unread (unread.Untyped name) = Ok (Untyped name)
told_unread unread.Store = Err Store

-- The claims

-- the days that are asked about: the given one, or where none is given, each
abbrev pub IsAsked : Option ℤ → ℤ → Type 0
IsAsked (Some given) day = day ≡ given
IsAsked None day = ⊤

-- the day that is taken: the given one, or the one that the tables of the acts tell
abbrev pub IsTaken : Option ℤ → ℤ → List Act → Type 0
IsTaken (Some given) day acts = day ≡ given
IsTaken None day acts = first_day (tables_of day acts) (start_of acts) ≡ Some day

-- the day that the acts of these rows are begun on, the newest first: the given one, or the one that they and the tables tell
abbrev pub IsBegunOn : Option ℤ → List RepeatRow → Tables → ℤ → Type 0
IsBegunOn (Some given) rows tables day = day ≡ given
IsBegunOn None rows tables day = (start : Option Start) × TellFirst (reverse rows) start × (first_day tables start ≡ Some day)

-- the stored rows are so of that many acts, begun on this day
pub record IsSound (AreOf : ℤ → List Act → Type 0) (given : Option ℤ) (count : ℕ) (day : ℤ) : Type 0 where
  pub acts : List Act
  pub history : IsHistory day acts
  pub rows : AreOf day acts
  pub number : length acts ≡ count
  pub taken : IsTaken given day acts

-- the stored rows are so of no acts, begun on a day that is asked about
abbrev pub AreOfNone : (ℤ → List Act → Type 0) → Option ℤ → Type 0
AreOfNone AreOf given = (day : ℤ) (acts : List Act) → IsAsked given day → IsHistory day acts → ¬ AreOf day acts

-- `repeats` spells acts, begun on that day, and this row is not the one that they give
pub record IsOther (given : Option ℤ) (row : RowKey) (tables : Tables) : Type 0 where
  pub rows : List RepeatRow
  pub repeats : AreRepeats rows tables
  pub day : ℤ
  pub begun : IsBegunOn given rows tables day
  pub acts : List Act
  pub spelled : Spell rows acts
  pub history : IsHistory day acts
  pub differs : RowDiffers row tables (tables_of day acts)

-- no day is given, and this row would tell it, but is not there: whatever acts have these rows of `repeats`, they give it
pub record IsMissing (given : Option ℤ) (row : RowKey) (tables : Tables) : Type 0 where
  pub none : given ≡ None
  pub rows : List RepeatRow
  pub repeats : AreRepeats rows tables
  pub start : Option Start
  pub told : TellFirst (reverse rows) start
  pub untold : IsUntold tables start row
  pub differs : (day : ℤ) (acts : List Act) → IsHistory day acts → ((k : List ℕ) → tables.repeat k ≡ repeat_row day acts k) → RowDiffers row tables (tables_of day acts)

-- the rows of `repeats` break off so, their acts begun on that day
pub record AreBroken (given : Option ℤ) (tables : Tables) (Break : ℤ → List RepeatRow → Type 0) : Type 0 where
  pub rows : List RepeatRow
  pub repeats : AreRepeats rows tables
  pub day : ℤ
  pub begun : IsBegunOn given rows tables day
  pub breaks : Break day rows

-- what a finding says of these tables, and of the stored rows that they come of
abbrev pub Says : (ℤ → List Act → Type 0) → Option ℤ → Trees → Finding → Type 0
Says AreOf given trees (Sound count day) = IsSound AreOf given count day
Says AreOf given trees (Differs row) = AreOfNone AreOf given × (IsOther given row (tables_in trees) ⊎ IsMissing given row (tables_in trees))
Says AreOf given trees (Untyped name) = AreOfNone AreOf given × ¬ Keeps trees (rule_called name)
Says AreOf given trees (Unnumbered k) = AreOfNone AreOf given × IsUnnumbered (tables_in trees).repeat k
Says AreOf given trees (Unspelled act) = AreOfNone AreOf given × AreBroken given (tables_in trees) (λ day rows. BreakUnspelled day rows act)
Says AreOf given trees (Refused act why) = AreOfNone AreOf given × AreBroken given (tables_in trees) (λ day rows. BreakRefused day rows act why)

-- the same of tables that are stored so
abbrev pub SaysIn : Trees → Option ℤ → Finding → Type 0
SaysIn trees given f = Says (λ day acts. AreRowsOf day acts trees) given trees f

-- what is found of stored tables of these books: those that are compared are the newest
pub record IsFound (found : Found) (given : Option ℤ) (trees : Trees) (f : Finding) : Type 0 where
  pub compared : Trees
  pub are : AreNewest found trees compared
  pub says : Says (λ day acts. AreRowsAt found day acts trees) given compared f

-- the schema is that of some books, and so is found of what is committed
pub record IsFinding (given : Option ℤ) (old : State) (f : Finding) : Type 0 where
  pub found : Found
  pub schema : HasSchema found old.now.schema
  pub finding : IsFound found given old.committed.trees f

-- Books as `Books::open` takes them: the schema is that of some books, and the rows that are committed are those of a history
-- of so many acts, begun on this day
pub record AreSoundBooks (old : State) (count : ℕ) (first : ℤ) : Type 0 where
  pub found : Found
  pub schema : HasSchema found old.now.schema
  pub acts : List Act
  pub history : IsHistory first acts
  pub number : length acts ≡ count
  pub rows : AreRowsAt found first acts old.committed.trees

-- What is not found

-- the schema is an older one, and the tables cannot be brought up
pub record AreNotRaised (old : State) : Type 0 where
  pub found : Found
  pub schema : HasSchema found old.now.schema
  pub foreign : CannotBeRaised found old.committed.trees

-- What is left

module _ {S : Type 0} (g : Ghosts S) (old : Held S) where
  -- a connection that was found open, outside a transaction: nothing was committed
  pub record IsUntouched (new : Held S) : Type 0 where
    pub outside : new.in_transaction ≡ false
    pub crash : HasCleanDisk (state g new) → (db : Trees) → (state g new).may_leave db → db ≡ (state g old).committed.trees
    pub clean : doubt (state g old).is_clean ≤ doubt (state g new).is_clean
    pub shield : (state g old).IsShielded → (state g new).IsShielded

  -- the connection as it was, or one that was found open, or its store
  abbrev pub IsLeftAlone : Leftover S → Type 0
  IsLeftAlone (left.Connection conn) = (conn ≡ old) ⊎ IsUntouched conn
  IsLeftAlone (left.Store s) = IsClosed g old s
