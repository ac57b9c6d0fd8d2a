-- A statement that adds five rows of a table.
use Rattle.std.specs.Prelude.{◌≡◌, ℕ, zero, suc, ◌+◌, ◌/◌, Bool, true, nat_le, length, List, [], ◌∷◌, ◌++◌, map, flat_map}
use Rattle.sqlite_value.specs.declared.value.Value.TheVariants.{Null}
use Rattle.sqlite.specs.Term.{Term, lit}
use Rattle.sqlite.specs.Schema.{Schema}
use Rattle.sqlite.specs.Effect.{value_rows}
use Rattle.sqlite.specs.Command.TheVariants.{Insert}
use Rattle.sqlite.specs.Source.TheVariants.{Values}
use Rattle.sqlite.specs.Given.{IsPlain}
use Rattle.sqlite.specs.Listing.{understood}
use Rattle.sqlite.proofs.Callers.{command_of}
use Rattle.sqlite_schema.specs.declared.schema.Column.{Column}
use Rattle.table_words.specs.Schema.{schema_with}
use Rattle.table_words.specs.Stored.{Columns}
use Rattle.table_words.specs.declared.chain.TheConstants.{COLUMNS_MAX}
use Rattle.keyed_rows.specs.Described.{Described}
use Rattle.keyed_rows.specs.Mapped.{cols_from}

-- the terms of so many rows, whose columns are parameters, one row after another
abbrev pub rows_from : List Column → ℕ → ℕ → List Term
rows_from columns at zero = []
rows_from columns at (suc rows) = (lit Null ∷ cols_from 0 columns at) ++ rows_from columns (at + length columns) rows

abbrev pub many_terms : {X K : Type 0} → Described X K → List Term
many_terms d = rows_from d.layout.columns 0 5

-- what holds of the statement
pub record AddsMany {X K : Type 0} (d : Described X K) (text : List ℕ) : Type 0 where
  -- it inserts the rows that the terms tell, whatever tables there are beside those of the books
  pub is : (rest : Schema) → (command_of (understood (schema_with rest) text) ≡ Insert d.place (Values (many_terms d) (length d.add_terms))) × IsPlain (understood (schema_with rest) text)
  -- these are five rows before their rowids are chosen
  pub many : (a b c e f : X) → let five : List X = a ∷ b ∷ c ∷ e ∷ f ∷ [] in
      value_rows (flat_map d.cells five ++ []) (length d.add_terms) (length (many_terms d) / length d.add_terms) (many_terms d) ≡ map d.source five

-- the columns of a row are what the table stores of it
pub record AreColumnsOf {X K P : Type 0} (c : Columns P) (count : ℕ) (d : Described X K) (within : X → Bool) (columns_of : X → P) : Type 0 where
  pub few : nat_le count COLUMNS_MAX ≡ true
  pub cells : (s : X) → c.cells (columns_of s) ≡ d.cells s
  pub fits : (s : X) → c.fits (columns_of s) ≡ within s
  pub has : (s : X) → c.has 0 (d.cells s) ≡ d.has (d.cells s)
