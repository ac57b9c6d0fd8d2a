-- What it is to do acts again.
use Rattle.std.specs.Prelude.{◌≡◌, ℕ, false, List, [], ◌∷◌, ◌++◌, Option, Some, None, Result, Ok, Err, ℤ, IsTrue}
use Rattle.sqlite_trees.specs.declared.store.Store.{Ghosts}
use Rattle.sqlite.specs.Held.{state}
use Rattle.commands.specs.Spelling.{key_text, spelling}
use Rattle.commands.specs.declared.refusal.Refusal.{Refusal}
use Rattle.commands.specs.declared.refusal.Refusal.TheVariants.{KeyUsed}
use Rattle.commands.specs.declared.rows.RepeatRow.{RepeatRow}
use Rattle.machine.specs.Acts.{Act}
use Rattle.machine.specs.Once as once
use Rattle.machine.specs.Once.{Outcome, outcome, is_key_of, IsSoundRequest, IsHistory}
use Rattle.store.specs.Books.{HoldsBooks}
use Rattle.store.specs.Connected.{Connected}
use Rattle.replays.specs.declared.fault.NotReplayed.{NotReplayed}
use Rattle.replays.specs.declared.fault.NotReplayed.TheVariants.{Unspelled, Refused, Store, Foreign}

-- the disk has not shut the connection
abbrev pub IsOpen : {S : Type 0} → Ghosts S → Connected S → Type 0
IsOpen g books = IsTrue (state g books.conn).is_open

-- why an act is not done again, if it is not: its key came before, or it is refused
abbrev pub cause : Outcome → Option Refusal
cause (once.Accepted text) = None
cause (once.Repeated text) = Some KeyUsed
cause (once.Refused why) = Some why

-- the books are those of the act of this number too, which goes on with the history, and open; or it has a key of the other
-- kind, or is refused; or memory did not suffice
abbrev pub IsReplayed : {S : Type 0} → Ghosts S → ℤ → List Act → Act → ℕ → Result (Unit {0}) NotReplayed → Connected S → Type 0
IsReplayed g first before act number (Ok done) books = IsHistory first (act ∷ before) × IsOpen g books × HoldsBooks g first (act ∷ before) books
IsReplayed g first before act number (Err (Unspelled n)) books = (n ≡ number) × (is_key_of act.key act.command ≡ false)
IsReplayed g first before act number (Err (Refused n why)) books = (n ≡ number) × IsTrue (is_key_of act.key act.command) × (cause (outcome first before act) ≡ Some why)
IsReplayed g first before act number (Err Store) books = Unit {0}
IsReplayed g first before act number (Err Foreign) books = ⊥

-- Rows of `repeats`, of which the number, the key and the command are looked at

-- the row has the key of the act, and spells its command
pub record IsRowOf (row : RepeatRow) (act : Act) : Type 0 where
  pub key : row.k ≡ key_text act.key
  pub command : row.spell ≡ spelling act.command

-- each row is that of the act at its place
abbrev pub Spell : List RepeatRow → List Act → Type 0
Spell [] [] = Unit {0}
Spell (row ∷ rows) (act ∷ acts) = IsRowOf row act × Spell rows acts
Spell [] (act ∷ acts) = ⊥
Spell (row ∷ rows) [] = ⊥

-- the row is of no act: its key or its spelling is none, or the key is of the other kind
abbrev pub IsOfNoAct : RepeatRow → Type 0
IsOfNoAct row = (act : Act) → IsRowOf row act → ¬ IsSoundRequest act

-- the row is of an act that is not done again after these, for this cause
pub record IsOfRefused (first : ℤ) (before : List Act) (row : RepeatRow) (why : Refusal) : Type 0 where
  pub act : Act
  pub is : IsRowOf row act
  pub sound : IsSoundRequest act
  pub refused : cause (outcome first before act) ≡ Some why

-- the books are those of an act more, which the row is of; or it is of none, or of one that is refused; or memory did not suffice
abbrev pub IsRowReplayed : {S : Type 0} → Ghosts S → ℤ → List Act → RepeatRow → Result (Unit {0}) NotReplayed → Connected S → Type 0
IsRowReplayed g first before row (Ok done) books = (act : Act) × IsRowOf row act × IsHistory first (act ∷ before) × IsOpen g books × HoldsBooks g first (act ∷ before) books
IsRowReplayed g first before row (Err (Unspelled n)) books = (n ≡ row.act) × IsOfNoAct row
IsRowReplayed g first before row (Err (Refused n why)) books = (n ≡ row.act) × IsOfRefused first before row why
IsRowReplayed g first before row (Err Store) books = Unit {0}
IsRowReplayed g first before row (Err Foreign) books = ⊥

-- of rows, the newest first, that of this number is the first of which this is so: those before it spell a history
pub record BreakOff (first : ℤ) (rows : List RepeatRow) (number : ℕ) (Ends : List Act → RepeatRow → Type 0) : Type 0 where
  pub later : List RepeatRow
  pub row : RepeatRow
  pub earlier : List RepeatRow
  pub parts : rows ≡ later ++ row ∷ earlier
  pub act : row.act ≡ number
  pub before : List Act
  pub spelled : Spell earlier before
  pub history : IsHistory first before
  pub ends : Ends before row

-- one is of no act
abbrev pub BreakUnspelled : ℤ → List RepeatRow → ℕ → Type 0
BreakUnspelled first rows n = BreakOff first rows n (λ before row. IsOfNoAct row)

-- one is of an act that is refused
abbrev pub BreakRefused : ℤ → List RepeatRow → ℕ → Refusal → Type 0
BreakRefused first rows n why = BreakOff first rows n (λ before row. IsOfRefused first before row why)

-- all rows, the newest act first
abbrev pub AreRowsReplayed : {S : Type 0} → Ghosts S → ℤ → List RepeatRow → Result (Unit {0}) NotReplayed → Connected S → Type 0
AreRowsReplayed g first rows (Ok done) books = (acts : List Act) × Spell rows acts × IsHistory first acts × HoldsBooks g first acts books
AreRowsReplayed g first rows (Err (Unspelled n)) books = BreakUnspelled first rows n
AreRowsReplayed g first rows (Err (Refused n why)) books = BreakRefused first rows n why
AreRowsReplayed g first rows (Err Store) books = Unit {0}
AreRowsReplayed g first rows (Err Foreign) books = ⊥
