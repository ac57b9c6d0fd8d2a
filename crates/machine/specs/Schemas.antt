-- Which commands the books of a schema have in them.
use Rattle.std.specs.Prelude.{◌≡◌, ℕ, Bool, true, nat_le, List, ℤ}
use Rattle.std.specs.List.{list_all}
use Rattle.commands.specs.Schemas.{without_least, with_least, without_urgents}
use Rattle.machine.specs.Words.{Command, Least, Urgent}
use Rattle.machine.specs.Acts.{Act}
use Rattle.machine.specs.Tables.{tables_of}

-- the schema that brought the command
abbrev pub schema_of : Command → ℕ
schema_of (Least l) = 2
schema_of (Urgent o) = 3
schema_of _ = 1

-- no command is of a newer schema
abbrev pub are_of_schema : ℕ → List Act → Bool
are_of_schema n acts = list_all (λ act. nat_le (schema_of act.command) n) acts

-- the tables of books of schema 1, brought to the newest schema, are those of the same acts
abbrev pub FirstBooksGoOn : Type 0
FirstBooksGoOn = (first : ℤ) (acts : List Act) → are_of_schema 1 acts ≡ true → with_least (without_least (without_urgents (tables_of first acts))) ≡ tables_of first acts

-- and so are those of schema 2, whose new table has no rows
abbrev pub SecondBooksGoOn : Type 0
SecondBooksGoOn = (first : ℤ) (acts : List Act) → are_of_schema 2 acts ≡ true → without_urgents (tables_of first acts) ≡ tables_of first acts
