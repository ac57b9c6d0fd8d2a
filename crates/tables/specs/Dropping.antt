-- Rows of a table that go together: those whose keys pass a test.
use Rattle.std.specs.Prelude.{◌≡◌, if◌then◌else◌, ◌∷◌}
use Rattle.tables.specs.Words.{ℕ, Bool, List, [], None, Term, col, Schema, Delete, IsPlain, command_of, Tables, schema_with, scan, alone, Described}
use Rattle.sqlite.specs.Listing.{understood}

-- the rows with these keys go
abbrev pub without_rows : {X K : Type 0} → Described X K → (K → Bool) → Tables → Tables
without_rows d gone t = d.set (λ k. if gone k then None else d.look t k) t

-- the text drops the rows that pass the tests, whatever tables there are beside those of the books
abbrev pub DropsBy : {X K : Type 0} → Described X K → List Term → List ℕ → Type 0
DropsBy d tests text = (rest : Schema) → (command_of (understood (schema_with rest) text) ≡ Delete d.place (alone (scan d.layout.tree tests (col 1 0 ∷ []) []))) × IsPlain (understood (schema_with rest) text)
