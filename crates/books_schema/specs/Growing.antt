-- Adding tables behind those that are there.
use Rattle.std.specs.Prelude.{◌≡◌, ⊤, ℕ, true, false, List, [], ◌∷◌, ◌++◌, Ok, if◌then◌else◌, nat_lt}
use Rattle.std.specs.List.{AllByRecursion}
use Rattle.books_schema.specs.Words.{Trees, IsDatabase, Schema, Table, table_defined_by, understood, IsPlain, command_of, statement_of, State}
use Rattle.sqlite.specs.Command.TheVariants.{CreateTable}
use Rattle.sqlite.specs.Change.{created}
use Rattle.sqlite.specs.Does.{lacks_sequence}
use Rattle.books_schema.specs.Layouts.{table_at}
use Rattle.books_schema.specs.declared.layouts.TableLayout.{TableLayout}
use Rattle.books_schema.specs.declared.steps.Step.{Step}

-- the text makes the table
abbrev pub Makes : Schema → List ℕ → Table → Type 0
Makes schema text table =
    (command_of (understood schema text) ≡ CreateTable) × (statement_of text (understood schema text) ≡ text) × (table_defined_by text ≡ Ok table) × (lacks_sequence (created schema table) ≡ false)
    × IsPlain (understood schema text)

-- the text of each of these layouts in turn makes its table
abbrev pub AreMade : Schema → List TableLayout → Type 0
AreMade schema [] = ⊤
AreMade schema (layout ∷ layouts) = Makes schema layout.text.now (table_at 0 layout) × AreMade (created schema (table_at 0 layout)) layouts

-- the schema with these tables behind its own
abbrev pub grown : Schema → List TableLayout → Schema
grown schema [] = schema
grown schema (layout ∷ layouts) = grown (created schema (table_at 0 layout)) layouts

-- the tables of the step, if it is above this number
abbrev pub added_by : ℕ → Step → List TableLayout
added_by above step = if nat_lt above step.version then step.tables.now else []

-- the tables of all steps above this number
abbrev pub added_above : ℕ → List Step → List TableLayout
added_above above [] = []
added_above above (step ∷ steps) = added_by above step ++ added_above above steps

-- So far the schema is this one: the tables of the first one have the rows that they had, those that were added are empty, and
-- the transaction goes on.
pub record IsGrown (base : Trees) (first schema : Schema) (s : State) : Type 0 where
  pub added : List Table
  pub split : schema.tables ≡ first.tables ++ added
  pub schema_is : s.now.schema ≡ schema
  pub sound : IsDatabase s.now
  pub kept : AllByRecursion (λ t. s.now.trees t.tree ≡ base t.tree) first.tables
  pub empty : AllByRecursion (λ t. s.now.trees t.tree ≡ []) added
  pub inside : s.in_transaction ≡ true
