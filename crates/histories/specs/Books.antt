-- The rows of a history's tables.
use Rattle.std.specs.Prelude.{◌≡◌, ◌≢◌, ◌⊎◌, ◌+◌, ℕ, ℤ, List, [], ◌∷◌, IsTrue}
use Rattle.sqlite.specs.Tree.{Trees}
use Rattle.commands.specs.Sound.{is_sound}
use Rattle.commands.specs.Spelling.{key_text, spelling}
use Rattle.commands.specs.declared.command.Command.{Command}
use Rattle.commands.specs.declared.rows.RepeatRow.{RepeatRow}
use Rattle.table_words.specs.Typed.{tables_in, AreTyped}
use Rattle.tables.specs.Repeats.{repeats}
use Rattle.whole_tables.specs.Whole.{typed_rows_of}
use Rattle.machine.specs.Acts.{Act, next_number}
use Rattle.machine.specs.Replies.{reply}
use Rattle.machine.specs.Tables.{tables_of}

-- the stored rows are those of the acts
pub record HasRowsOf (first : ℤ) (acts : List Act) (trees : Trees) : Type 0 where
  pub tables : tables_in trees ≡ tables_of first acts
  pub typed : AreTyped trees

-- the row of an act in `repeats`
abbrev pub row_of : ℤ → Act → List Act → RepeatRow
row_of first act before = record { k = key_text act.key; act = next_number before; spell = spelling act.command; reply = reply first act before }

-- the numbers of the rows go on behind this one, one by one
abbrev pub GoOnFrom : ℕ → List RepeatRow → Type 0
GoOnFrom number [] = Unit {0}
GoOnFrom number (row ∷ rows) = (row.act ≡ number + 1) × GoOnFrom (number + 1) rows

-- the rows of the acts are stored in the order of the acts
abbrev pub AreInTurn : Trees → Type 0
AreInTurn trees = GoOnFrom 0 (typed_rows_of repeats trees)

-- no command is spelled so
abbrev pub IsNoSpelling : List ℕ → Type 0
IsNoSpelling spell = (command : Command) → IsTrue (is_sound command) → spell ≢ spelling command

-- the row is not that of the act behind so many: it has another number, or spells no command
abbrev pub IsOutOfTurn : ℕ → RepeatRow → Type 0
IsOutOfTurn done row = (row.act ≢ done + 1) ⊎ IsNoSpelling row.spell
