-- Rows that stay as they were.
use Rattle.std.specs.Prelude.{◌≡◌}
use Rattle.std.specs.List.{AllByRecursion}
use Rattle.books_schema.specs.Words.{Trees, the_tables}

-- each table of the books has the rows that it had
abbrev pub KeepsRows : Trees → Trees → Type 0
KeepsRows old new = AllByRecursion (λ t. new t.tree ≡ old t.tree) the_tables
