-- Tables whose rows are mapped to columns.
use Rattle.std.specs.Prelude.{◌≡◌, ℕ, ◌+◌, Bool, true, nat_le, List, [], ◌∷◌, Option}
use Rattle.keyed_rows.specs.Words.{Null, Term, lit, col, Column, Tables, Columns, Mapping, is_stored_row, stored_row, COLUMNS_MAX, tests_from}
use Rattle.sqlite.specs.Order.{Row}
use Rattle.keyed_rows.specs.Described.{Described, Change, keyed}

-- what there is to say of a table beside the columns of its rows
pub record Plan (X K : Type 0) : Type 0 where
  -- where it stands in the schema, its tree, its name and its columns there
  pub place : ℕ
  pub tree : ℕ
  pub name : List ℕ
  pub columns : List Column
  -- its key, which keys are the same, the values of its columns, and the places of those
  pub key : X → K
  pub same : K → K → Bool
  pub key_cells : K → Row
  pub key_places : List ℕ
  -- its rows in the books, by key
  pub look : Tables → K → Option X
  pub set : (K → Option X) → Tables → Tables
  -- the statement that adds a row
  pub add : List ℕ

-- so many columns of a relation, from this place on
abbrev pub cols_from : ℕ → List Column → ℕ → List Term
cols_from relation [] at = []
cols_from relation (c ∷ cs) at = col relation at ∷ cols_from relation cs (at + 1)

abbrev pub planned : {X K P : Type 0} → Mapping X P → Plan X K → Described X K
planned m p = record {
  place = p.place;
  layout = keyed p.tree p.name p.columns p.key_places;
  is = is_stored_row m;
  reads = stored_row m;
  key = p.key;
  same = p.same;
  shown = cols_from 1 p.columns 1;
  has = m.columns.has 0;
  seen = λ v. m.of (m.columns.reads 0 v);
  cells = λ s. m.columns.cells (m.parts s);
  key_cells = p.key_cells;
  fits = λ s. m.columns.fits (m.parts s);
  look = p.look;
  set = p.set;
  tests = tests_from p.key_places 0;
  add = p.add;
  add_terms = lit Null ∷ cols_from 0 p.columns 0;
  source = λ s. Null ∷ m.columns.cells (m.parts s);
}

-- the statement that writes all columns of a row anew
abbrev pub whole_change : {X K : Type 0} → Described X K → List ℕ → Change X
whole_change d text = record { text = text; terms = cols_from 0 d.layout.columns 0; values = d.cells }

-- what a statement shows and takes of the table's rows is what so many columns say
pub record IsMapped {X K P : Type 0} (c : Columns P) (count : ℕ) (m : Mapping X P) (d : Described X K) : Type 0 where
  pub few : nat_le count COLUMNS_MAX ≡ true
  pub cells : (s : X) → d.cells s ≡ c.cells (m.parts s)
  pub has : (r : Row) → d.has r ≡ c.has 0 r
  pub seen : (r : Row) → d.seen r ≡ m.of (c.reads 0 r)
  pub back : (s : X) → m.of (m.parts s) ≡ s

-- the same of the columns of its key
pub record IsKeyed {X K P : Type 0} (c : Columns P) (count : ℕ) (d : Described X K) (keys : X → P) : Type 0 where
  pub few : nat_le count COLUMNS_MAX ≡ true
  pub fits : (s : X) → c.fits (keys s) ≡ true
  pub cells : (s : X) → c.cells (keys s) ≡ d.key_cells (d.key s)
