-- A table of the books as one description, and the laws that it keeps.
use Rattle.std.specs.Prelude.{◌≡◌, ℕ, Bool, true, false, ◌++◌, ◌/◌, if◌then◌else◌, length, List, [], ◌∷◌, filter, map, find, slice_get, Option, Some, None, IsTrue}
use Rattle.keyed_rows.specs.Words.{Term, col, Column, Database, value_rows, IsPlain, understood, reads_listing, Trees, with_tree, rowid, Tables, the_tables, schema_with, plain_table, typed, tables_in, Rule, the_rules, IsReady, scan, alone, passes, show, AtMostOne, IsSame}
use Rattle.sqlite.specs.Order.{Row}
use Rattle.sqlite.specs.Table.{Table}
use Rattle.sqlite_value.specs.declared.keys.Order.{Order}
use Rattle.sqlite_value.specs.Keys.{plain}
use Rattle.sqlite.specs.Schema.{Schema}
use Rattle.sqlite.specs.Command.TheVariants.{Insert, Update, Delete, Select}
use Rattle.sqlite.specs.Source.TheVariants.{Values}
use Rattle.sqlite.specs.Query.{IsAnswer}
use Rattle.sqlite.specs.Program.{overlay}
use Rattle.sqlite_value.specs.declared.keys.Key.{Key}
use Rattle.sqlite.specs.Rowids.TheVariants.{Chosen}
use Rattle.sqlite.specs.Cast.{cast_all}
use Rattle.sqlite.proofs.Callers.{command_of}
use Rattle.sqlite_rules.specs.Cast.{cast_row}
use Rattle.sqlite_rules.specs.Edit.{with_rowid}
use Rattle.sqlite_trees.specs.View.{is_int}

-- how a table is laid out
pub record Layout : Type 0 where
  pub tree : ℕ
  pub name : List ℕ
  pub columns : List Column
  pub id : Option ℕ
  pub primary : List ℕ
  pub uniques : List (List ℕ)
  pub orders : List Order

abbrev pub laid : Layout → Table
laid l = plain_table l.tree l.name l.columns l.id l.primary l.uniques l.orders

-- its PRIMARY KEY is not the rowid
abbrev pub keyed : ℕ → List ℕ → List Column → List ℕ → Layout
keyed tree name columns places = record { tree = tree; name = name; columns = columns; id = None; primary = places; uniques = places ∷ []; orders = plain ∷ [] }

-- its PRIMARY KEY is the first column, which is the rowid
abbrev pub by_id : ℕ → List ℕ → List Column → Layout
by_id tree name columns = record { tree = tree; name = name; columns = columns; id = Some 0; primary = 0 ∷ []; uniques = []; orders = [] }

-- what there is to say of a table whose rows are of X, under keys of K
pub record Described (X K : Type 0) : Type 0 where
  -- where it stands in the schema, and how it is laid out
  pub place : ℕ
  pub layout : Layout
  -- whether a stored row reads as a typed one, and what it reads as
  pub is : Row → Bool
  pub reads : Row → X
  -- its key, and which keys are the same
  pub key : X → K
  pub same : K → K → Bool
  -- what a SELECT of all columns shows of a row, whether that reads as a typed one, and what it reads as
  pub shown : List Term
  pub has : Row → Bool
  pub seen : Row → X
  -- the values of the columns, and of those of the key
  pub cells : X → Row
  pub key_cells : K → Row
  -- whether a row's numbers are within the bounds of their columns
  pub fits : X → Bool
  -- its rows in the books, by key
  pub look : Tables → K → Option X
  pub set : (K → Option X) → Tables → Tables
  -- the tests that find a key, as each statement has them
  pub tests : List Term
  -- the statement that adds a row: its text, and the row before a rowid is chosen
  pub add : List ℕ
  pub add_terms : List Term
  pub source : X → Row

-- the statement that changes a row: its text, and what is stored after the rowid
pub record Change (X : Type 0) : Type 0 where
  pub text : List ℕ
  pub terms : List Term
  pub values : X → Row

-- which of its rows are typed
abbrev pub rule_of : {X K : Type 0} → Described X K → Rule
rule_of d = record { tree = d.layout.tree; is = d.is }

-- the row takes the place of one with its key
abbrev pub with_row : {X K : Type 0} → Described X K → X → Tables → Tables
with_row d s t = d.set (λ k. if d.same k (d.key s) then Some s else d.look t k) t

abbrev pub without_row : {X K : Type 0} → Described X K → K → Tables → Tables
without_row d at t = d.set (λ k. if d.same k at then None else d.look t k) t

-- the rows by key, as they are stored
abbrev pub found : {X K : Type 0} → Described X K → List Row → K → Option X
found d rows k = find (λ s. d.same k (d.key s)) (typed d.is d.reads rows)

-- the row that is stored is typed, and reads as this one
abbrev pub Stores : {X K : Type 0} → Described X K → X → Row → Type 0
Stores d s r = (d.is r ≡ true) × (d.reads r ≡ s)

-- its values read as a row
abbrev pub sound : {X K : Type 0} → Described X K → X → Bool
sound d s = d.has (d.cells s)

-- what the texts of its statements mean, whatever tables there are beside those of the books
abbrev pub ChangeIs : {X K : Type 0} → Described X K → Change X → Type 0
ChangeIs d c = (rest : Schema) → (command_of (understood (schema_with rest) c.text) ≡ Update d.place (alone (scan d.layout.tree d.tests (col 1 0 ∷ col 1 0 ∷ c.terms) []))) × IsPlain (understood (schema_with rest) c.text)

abbrev pub AddIs : {X K : Type 0} → Described X K → Type 0
AddIs d = (rest : Schema) → (command_of (understood (schema_with rest) d.add) ≡ Insert d.place (Values d.add_terms (length d.add_terms))) × IsPlain (understood (schema_with rest) d.add)

abbrev pub DropIs : {X K : Type 0} → Described X K → List ℕ → Type 0
DropIs d text = (rest : Schema) → (command_of (understood (schema_with rest) text) ≡ Delete d.place (alone (scan d.layout.tree d.tests (col 1 0 ∷ []) []))) × IsPlain (understood (schema_with rest) text)

-- what holds of a description
pub record IsLawful {X K : Type 0} (d : Described X K) : Type 0 where
  pub placed_first : slice_get the_tables d.place ≡ Some (laid d.layout)
  pub placed : (rest : Schema) → slice_get (schema_with rest).tables d.place ≡ Some (laid d.layout)
  -- keys
  pub itself : (k : K) → d.same k k ≡ true
  pub one_key : IsSame d.same
  pub one_row : (db : Database) → IsReady db → (params : Row) → AtMostOne (passes params d.tests) (db.trees d.layout.tree)
  pub at_key : (k : K) (r : Row) → d.is r ≡ true → passes (d.key_cells k) d.tests r ≡ d.same k (d.key (d.reads r))
  pub own_key : (s : X) (r : Row) → passes (d.cells s) d.tests r ≡ passes (d.key_cells (d.key s)) d.tests r
  -- the books
  pub looks : (trees : Trees) → d.look (tables_in trees) ≡ found d (trees d.layout.tree)
  pub sets : (trees : Trees) (rows : List Row) → tables_in (with_tree trees d.layout.tree rows) ≡ d.set (found d rows) (tables_in trees)
  pub same_set : (t : Tables) → d.set (d.look t) t ≡ t
  pub ruled : slice_get the_rules d.place ≡ Some (rule_of d)
  -- what is shown
  pub has_shown : (params r : Row) → d.has (show params d.shown r) ≡ d.is r
  pub seen_shown : (params r : Row) → d.seen (show params d.shown r) ≡ d.reads r
  -- the statement that adds a row
  pub add_is : AddIs d
  pub added : (s : X) → value_rows (d.cells s ++ []) (length d.add_terms) (length d.add_terms / length d.add_terms) d.add_terms ≡ d.source s ∷ []
  pub casts : (s : X) → cast_row (laid d.layout) (d.source s) ≡ d.source s
  pub comes : (s : X) (rows : List Row) → sound d s ≡ true → let r = with_rowid Chosen rows (d.source s) in IsTrue (is_int (rowid r)) × Stores d s r

-- what holds of the statement that changes a row
pub record IsChange {X K : Type 0} (d : Described X K) (c : Change X) : Type 0 where
  pub is : ChangeIs d c
  pub changed : (s : X) (r : Row) → show (d.cells s) c.terms r ≡ c.values s
  pub casts : (s : X) → cast_all d.layout.columns (c.values s) ≡ c.values s
  pub becomes : (s : X) (r : Row) → sound d s ≡ true → is_int (rowid r) ≡ true → passes (d.cells s) d.tests r ≡ true → Stores d s (rowid r ∷ c.values s)

-- a query of rows by what they are sought by
pub record Query (X K B : Type 0) : Type 0 where
  -- what may be sought: a number within its limit
  pub may : B → Bool
  -- its text, its parameters, and what it means
  pub text : List ℕ
  pub params : B → Row
  pub tests : List Term
  pub order : List (Term × Key)
  -- which typed rows are wanted, and which of those stored
  pub wanted : B → X → Bool
  pub stored : B → Row → Bool

-- the rows that are stored
abbrev pub stored_of : {X K B : Type 0} → Described X K → Query X K B → B → Trees → List Row
stored_of d q by trees = filter (q.stored by) (trees d.layout.tree)

abbrev pub QueryIs : {X K B : Type 0} → Described X K → Query X K B → Type 0
QueryIs d q =
    (rest : Schema) → (command_of (understood (schema_with rest) q.text) ≡ Select (alone (scan d.layout.tree q.tests d.shown q.order)) (map (λ c. c.name) d.layout.columns)) × (reads_listing (schema_with rest) q.text ≡ false) × IsPlain (understood (schema_with rest) q.text)

-- what holds of it, where `are_of` tells what the rows are
pub record IsSought {X K B : Type 0} (d : Described X K) (q : Query X K B) (are_of : B → Tables → List X → Type 0) : Type 0 where
  pub is : QueryIs d q
  pub at : (by : B) (r : Row) → d.is r ≡ true → passes (q.params by) q.tests r ≡ q.wanted by (d.reads r)
  pub at_stored : (by : B) (r : Row) → is_int (rowid r) ≡ true → passes (q.params by) q.tests r ≡ q.stored by r
  pub ordered : (db : Database) → IsReady db → (by : B) (rows : List Row) → IsAnswer (scan d.layout.tree q.tests d.shown q.order) (overlay db.trees []) (q.params by) rows
      → rows ≡ map (show (q.params by) d.shown) (filter (passes (q.params by) q.tests) (db.trees d.layout.tree))
  pub finds : (db : Database) → IsReady db → (by : B) (xs : List X) → xs ≡ filter (q.wanted by) (typed d.is d.reads (db.trees d.layout.tree)) → are_of by (tables_in db.trees) xs
