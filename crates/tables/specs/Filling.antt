-- Rows of a table that are changed together: those whose keys pass a test.
use Rattle.std.specs.Prelude.{◌≡◌, if◌then◌else◌, ◌∷◌, option_map}
use Rattle.tables.specs.Words.{ℕ, Bool, List, [], Term, col, Schema, Update, IsPlain, command_of, Tables, schema_with, scan, alone, Described}
use Rattle.sqlite.specs.Listing.{understood}

-- each row with one of these keys becomes another
abbrev pub filled_rows : {X K : Type 0} → Described X K → (K → Bool) → (X → X) → Tables → Tables
filled_rows d among fill t = d.set (λ k. if among k then option_map fill (d.look t k) else d.look t k) t

-- the text gives the rows that pass the tests these columns, whatever tables there are beside those of the books
abbrev pub FillsBy : {X K : Type 0} → Described X K → (tests columns : List Term) → List ℕ → Type 0
FillsBy d tests columns text =
    (rest : Schema) → (command_of (understood (schema_with rest) text) ≡ Update d.place (alone (scan d.layout.tree tests (col 1 0 ∷ col 1 0 ∷ columns) []))) × IsPlain (understood (schema_with rest) text)
