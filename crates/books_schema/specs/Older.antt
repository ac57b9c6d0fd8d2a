-- Books of the older schemas, and what is left of their schema without the indexes of the books.
use Rattle.std.specs.Prelude.{◌≡◌, ℕ, Bool, true, not, ◌&&◌, List, [], ◌∷◌, ◌++◌, codes, length, Option, Some, None, Ok, bytes_eq, nat_lt}
use Rattle.std.specs.List.{AllByRecursion, list_all, list_any, position_from}
use Rattle.books_schema.specs.Words.{IsDatabase, understood, Schema, State, Table, Trees, same_name, Index, Command, DropIndex, Nothing, no_two, first_tables, second_tables, least_table, urgents_table}
use Rattle.sqlite_resolve.specs.declared.compiled.Compiled.{Compiled}
use Rattle.books_schema.specs.Layouts.{key_at, PlainIndex, is_of}
use Rattle.books_schema.specs.declared.older.OlderBooks.{OlderBooks}
use Rattle.books_schema.specs.declared.older.OlderBooks.TheVariants.{First, Second}

-- their schema number
abbrev pub number : OlderBooks → ℕ
number First = 1
number Second = 2

-- the tables that they have, in their order
abbrev pub older_tables : OlderBooks → List Table
older_tables First = first_tables
older_tables Second = second_tables

-- those of the newest books that they lack
abbrev pub lacking_tables : OlderBooks → List Table
lacking_tables First = least_table ∷ urgents_table ∷ []
lacking_tables Second = urgents_table ∷ []

-- the indexes of the keys of the tables of schema 1
abbrev pub first_keys : List Index
first_keys =
    key_at (codes "sqlite_autoindex_items_1") 1 (1 ∷ [])
    ∷ key_at (codes "sqlite_autoindex_bins_1") 3 (1 ∷ [])
    ∷ key_at (codes "sqlite_autoindex_lots_1") 5 (1 ∷ 2 ∷ [])
    ∷ key_at (codes "sqlite_autoindex_recalls_1") 7 (1 ∷ 2 ∷ [])
    ∷ key_at (codes "sqlite_autoindex_stock_1") 9 (1 ∷ 2 ∷ 3 ∷ [])
    ∷ key_at (codes "sqlite_autoindex_orders_1") 11 (1 ∷ [])
    ∷ key_at (codes "sqlite_autoindex_lines_1") 13 (1 ∷ 2 ∷ [])
    ∷ key_at (codes "sqlite_autoindex_staged_1") 15 (1 ∷ 2 ∷ 3 ∷ [])
    ∷ key_at (codes "sqlite_autoindex_reserved_1") 17 (1 ∷ 2 ∷ 3 ∷ [])
    ∷ key_at (codes "sqlite_autoindex_shiplines_1") 20 (1 ∷ 2 ∷ 3 ∷ [])
    ∷ key_at (codes "sqlite_autoindex_cards_1") 22 (1 ∷ 2 ∷ 3 ∷ [])
    ∷ key_at (codes "sqlite_autoindex_repeats_1") 24 (1 ∷ [])
    ∷ []

-- those of the tables that they have
abbrev pub older_keys : OlderBooks → List Index
older_keys First = first_keys
older_keys Second = first_keys ++ key_at (codes "sqlite_autoindex_least_1") 26 (1 ∷ []) ∷ []

-- the last tree of these tables and keys
abbrev pub last_tree : OlderBooks → ℕ
last_tree First = 25
last_tree Second = 27

-- their schema with these indexes behind those of the keys, and nothing else
abbrev pub older_with : OlderBooks → List Index → Schema
older_with older ours = record { tables = older_tables older; indexes = older_keys older ++ ours; views = [] }

-- the indexes that earlier programs made beside those of the keys: none is made any more
abbrev pub our_indexes : List PlainIndex
our_indexes =
    (codes "staged_by_gtin", 15, 2 ∷ [])
    ∷ (codes "reserved_by_gtin", 17, 2 ∷ [])
    ∷ (codes "shiplines_of_lot", 20, 2 ∷ 3 ∷ 1 ∷ [])
    ∷ (codes "orders_by_state", 11, 4 ∷ [])
    ∷ []

-- whether the index is one of these, in whatever tree
abbrev pub is_index_of_books : Index → Bool
is_index_of_books i = list_any (λ l. is_of l i) our_indexes

-- and behind the tables
abbrev pub is_ours : OlderBooks → Index → Bool
is_ours older i = nat_lt (last_tree older) i.tree && is_index_of_books i

abbrev pub same_named : Index → Index → Bool
same_named i j = bytes_eq i.name j.name

-- they are indexes of the books, each once
pub record AreOurs (older : OlderBooks) (indexes : List Index) : Type 0 where
  pub each : list_all (is_ours older) indexes ≡ true
  pub once : no_two same_named indexes ≡ true

-- the indexes of the keys, and then those of the books that stand
pub record AreOlderIndexes (older : OlderBooks) (indexes : List Index) : Type 0 where
  pub ours : List Index
  pub is : indexes ≡ older_keys older ++ ours
  pub apart : AreOurs older ours

-- The schema is that of these books: their tables with any of the indexes of the books, and nothing of another's making.
pub record IsOlderSchema (older : OlderBooks) (schema : Schema) : Type 0 where
  pub ours : List Index
  pub is : schema ≡ older_with older ours
  pub apart : AreOurs older ours

-- the tables of these books have the rows that they had
abbrev pub KeepsOlderRows : OlderBooks → Trees → Trees → Type 0
KeepsOlderRows older old new = AllByRecursion (λ t. new t.tree ≡ old t.tree) (older_tables older)

-- The schema is that of these books with these indexes: the tables have the rows that they had, and the transaction goes on.
pub record HasOurs (older : OlderBooks) (base : Trees) (ours : List Index) (s : State) : Type 0 where
  pub schema_is : s.now.schema ≡ older_with older ours
  pub apart : AreOurs older ours
  pub sound : IsDatabase s.now
  pub kept : KeepsOlderRows older base s.now.trees
  pub inside : s.in_transaction ≡ true

-- no index has this name, but for the case of its letters
abbrev pub lacks : List ℕ → List Index → Bool
lacks name indexes = list_all (λ i. not (same_name i.name name)) indexes

-- the schema has fewer of these indexes, none of this name
pub record HasFewer (older : OlderBooks) (base : Trees) (ours : List Index) (name : List ℕ) (s : State) : Type 0 where
  pub left : List Index
  pub has : HasOurs older base left s
  pub gone : lacks name left ≡ true
  pub fewer : (other : List ℕ) → lacks other ours ≡ true → lacks other left ≡ true

-- a statement of this length with this command, and nothing more
abbrev pub plan : ℕ → Command → Compiled
plan size command = record { command = command; returning = None; names = []; formats = []; start = 0; end = size; tail = size }

-- the index that was found is dropped
abbrev pub drop_found : Option ℕ → Command
drop_found None = Nothing
drop_found (Some at) = DropIndex at

-- in any older books the text drops the index of this name, if there is one
pub record Drops (text name : List ℕ) : Type 0 where
  pub size : ℕ
  pub means : (older : OlderBooks) (ours : List Index) → understood (older_with older ours) text ≡ Ok (plan size (drop_found (position_from (λ i. same_name i.name name) (length (older_keys older)) ours)))
  pub named : (i : Index) → is_index_of_books i ≡ true → same_name i.name name ≡ true → i.name ≡ name
