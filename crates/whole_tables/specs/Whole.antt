-- All rows of a table.
use Rattle.std.specs.Prelude.{◌≡◌, ℕ, true, false, List, [], map}
use Rattle.whole_tables.specs.Words.{Row, Trees, Schema, Select, IsPlain, understood, reads_listing, command_of, Tables, AreRows, typed, schema_with, scan, alone, by_rowid, Described}

-- the rows are all that the table has, each once
abbrev pub AreAll : {X K : Type 0} → Described X K → Tables → List X → Type 0
AreAll d t rows = AreRows d.same d.key (λ k. true) (d.look t) rows

-- those that are stored
abbrev pub rows_of : {X K : Type 0} → Described X K → Trees → List Row
rows_of d trees = trees d.layout.tree

-- and the typed ones among them, the oldest first
abbrev pub typed_rows_of : {X K : Type 0} → Described X K → Trees → List X
typed_rows_of d trees = typed d.is d.reads (trees d.layout.tree)

-- the text asks for all columns of all rows, the oldest first
abbrev pub WholeIs : {X K : Type 0} → Described X K → List ℕ → Type 0
WholeIs d text =
    (rest : Schema) → (command_of (understood (schema_with rest) text) ≡ Select (alone (scan d.layout.tree [] d.shown by_rowid)) (map (λ c. c.name) d.layout.columns)) × (reads_listing (schema_with rest) text ≡ false) × IsPlain (understood (schema_with rest) text)
