-- The tables of the books, and the schemas that have them.
use Rattle.std.specs.Prelude.{◌≡◌, Bool, true, false, not, ◌||◌, ◌+◌, [], ◌∷◌, ◌++◌, length, Option, None, Some, List, ℕ, nat_lt, nat_eq, codes}
use Rattle.std.specs.List.{list_all, starts_with}
use Rattle.sqlite.specs.Collation.TheVariants.{Binary}
use Rattle.sqlite.specs.declared.types.Value.TheVariants.{Null}
use Rattle.sqlite.specs.Kind.{Kind}
use Rattle.sqlite.specs.Kind.TheVariants.{Integer, Text}
use Rattle.sqlite_schema.specs.declared.schema.Column.{Column}
use Rattle.sqlite.specs.Table.{Table}
use Rattle.sqlite_schema.specs.declared.schema.Index.{Index}
use Rattle.sqlite.specs.Schema.{Schema}
use Rattle.sqlite_value.specs.declared.keys.Order.{Order}
use Rattle.sqlite_value.specs.Keys.{plain}

abbrev pub column : List ℕ → Kind → Column
column name kind = record { name = name; kind = kind; is_strict = true; not_null = true; default = Null; collation = Binary }

abbrev pub text_column : List ℕ → Column
text_column name = column name Text

abbrev pub number_column : List ℕ → Column
number_column name = column name Integer

-- a STRICT table whose columns are NOT NULL, and nothing more
abbrev pub plain_table : ℕ → List ℕ → List Column → Option ℕ → List ℕ → List (List ℕ) → List Order → Table
plain_table tree name columns key places uniques orders = record {
  name = name;
  tree = tree;
  columns = columns;
  key = key;
  primary = places;
  uniques = uniques;
  orders = orders;
  checks = [];
  references = [];
  computed = [];
  stamps = record { places = []; terms = []; formats = [] };
  is_counted = false;
}

-- its PRIMARY KEY is not the rowid
abbrev pub keyed_table : ℕ → List ℕ → List Column → List ℕ → Table
keyed_table tree name columns places = plain_table tree name columns None places (places ∷ []) (plain ∷ [])

-- its PRIMARY KEY is the first column, which is the rowid
abbrev pub id_table : ℕ → List ℕ → List Column → Table
id_table tree name columns = plain_table tree name columns (Some 0) (0 ∷ []) [] []

-- The tables, each with its tree; those between them are the indexes of their keys.

abbrev pub meta_table : Table
meta_table = id_table 0 (codes "meta") (number_column (codes "id") ∷ text_column (codes "mark") ∷ number_column (codes "version") ∷ number_column (codes "day") ∷ number_column (codes "acts") ∷ number_column (codes "shipments") ∷ [])

abbrev pub items_table : Table
items_table = keyed_table 1 (codes "items") (text_column (codes "gtin") ∷ text_column (codes "name") ∷ []) (1 ∷ [])

abbrev pub bins_table : Table
bins_table = keyed_table 3 (codes "bins") (text_column (codes "name") ∷ text_column (codes "kind") ∷ []) (1 ∷ [])

abbrev pub lots_table : Table
lots_table = keyed_table 5 (codes "lots") (text_column (codes "gtin") ∷ text_column (codes "lot") ∷ number_column (codes "expiry") ∷ number_column (codes "came") ∷ number_column (codes "held") ∷ []) (1 ∷ 2 ∷ [])

abbrev pub recalls_table : Table
recalls_table = keyed_table 7 (codes "recalls") (text_column (codes "gtin") ∷ text_column (codes "lot") ∷ number_column (codes "act") ∷ []) (1 ∷ 2 ∷ [])

abbrev pub stock_table : Table
stock_table = keyed_table 9 (codes "stock") (text_column (codes "gtin") ∷ text_column (codes "lot") ∷ text_column (codes "bin") ∷ number_column (codes "qty") ∷ []) (1 ∷ 2 ∷ 3 ∷ [])

abbrev pub orders_table : Table
orders_table = keyed_table 11 (codes "orders") (text_column (codes "ord") ∷ number_column (codes "act") ∷ text_column (codes "customer") ∷ text_column (codes "state") ∷ []) (1 ∷ [])

abbrev pub lines_table : Table
lines_table = keyed_table 13 (codes "lines") (text_column (codes "ord") ∷ text_column (codes "gtin") ∷ number_column (codes "ordered") ∷ number_column (codes "shipped") ∷ []) (1 ∷ 2 ∷ [])

abbrev pub staged_table : Table
staged_table = keyed_table 15 (codes "staged") (text_column (codes "ord") ∷ text_column (codes "gtin") ∷ text_column (codes "lot") ∷ number_column (codes "qty") ∷ []) (1 ∷ 2 ∷ 3 ∷ [])

abbrev pub reserved_table : Table
reserved_table = keyed_table 17 (codes "reserved") (text_column (codes "ord") ∷ text_column (codes "gtin") ∷ text_column (codes "lot") ∷ number_column (codes "qty") ∷ []) (1 ∷ 2 ∷ 3 ∷ [])

abbrev pub shipments_table : Table
shipments_table = id_table 19 (codes "shipments") (number_column (codes "number") ∷ number_column (codes "act") ∷ number_column (codes "day") ∷ text_column (codes "ord") ∷ [])

abbrev pub shiplines_table : Table
shiplines_table = keyed_table 20 (codes "shiplines") (number_column (codes "number") ∷ text_column (codes "gtin") ∷ text_column (codes "lot") ∷ number_column (codes "qty") ∷ []) (1 ∷ 2 ∷ 3 ∷ [])

abbrev pub cards_table : Table
cards_table = keyed_table 22 (codes "cards") (text_column (codes "gtin") ∷ text_column (codes "lot") ∷ number_column (codes "act") ∷ number_column (codes "day") ∷ text_column (codes "kind") ∷ text_column (codes "note") ∷ number_column (codes "qty") ∷ number_column (codes "rest") ∷ []) (1 ∷ 2 ∷ 3 ∷ [])

abbrev pub repeats_table : Table
repeats_table = keyed_table 24 (codes "repeats") (text_column (codes "k") ∷ number_column (codes "act") ∷ text_column (codes "spell") ∷ text_column (codes "reply") ∷ []) (1 ∷ [])

abbrev pub least_table : Table
least_table = keyed_table 26 (codes "least") (text_column (codes "gtin") ∷ number_column (codes "days") ∷ []) (1 ∷ [])

abbrev pub urgents_table : Table
urgents_table = keyed_table 28 (codes "urgents") (text_column (codes "ord") ∷ number_column (codes "act") ∷ []) (1 ∷ [])

-- the schema with nothing in it
abbrev pub schema_0 : Schema
schema_0 = record { tables = []; indexes = []; views = [] }

-- ---- the schemas that books may have

-- the tables of schema 1, in their order
abbrev pub first_tables : List Table
first_tables =
    meta_table
    ∷ items_table
    ∷ bins_table
    ∷ lots_table
    ∷ recalls_table
    ∷ stock_table
    ∷ orders_table
    ∷ lines_table
    ∷ staged_table
    ∷ reserved_table
    ∷ shipments_table
    ∷ shiplines_table
    ∷ cards_table
    ∷ repeats_table
    ∷ []

-- those of schema 2
abbrev pub second_tables : List Table
second_tables = first_tables ++ least_table ∷ []

-- the tables of the books, in their order
abbrev pub the_tables : List Table
the_tables = second_tables ++ urgents_table ∷ []

-- the tables of the books, and then those of the rest, with its indexes and views
abbrev pub schema_with : Schema → Schema
schema_with rest = record rest { tables = the_tables ++ rest.tables }

abbrev pub is_nil : {X : Type 0} → List X → Bool
is_nil [] = true
is_nil (x ∷ xs) = false

-- the table has no foreign key
abbrev pub refers_to_none : Table → Bool
refers_to_none t = is_nil t.references

-- the last tree of these tables and of their keys
abbrev pub last_tree_of : List Table → ℕ
last_tree_of [] = 0
last_tree_of (t ∷ []) = t.tree + length t.uniques
last_tree_of (t ∷ next ∷ more) = last_tree_of (next ∷ more)

-- the index is not UNIQUE, or is that of a table beside those of the books, or of a key
abbrev pub is_harmless : Index → Bool
is_harmless i = not i.is_unique || (nat_lt (last_tree_of the_tables) i.table || starts_with nat_eq i.name (codes "sqlite_autoindex_"))

-- The schema has the tables of the books. Others may follow that refer to none, and there may be any views, and any
-- indexes that refuse no row of the books.
pub record HasTables (schema : Schema) : Type 0 where
  pub rest : Schema
  pub is : schema ≡ schema_with rest
  pub apart : list_all refers_to_none rest.tables ≡ true
  pub harmless : list_all is_harmless rest.indexes ≡ true
