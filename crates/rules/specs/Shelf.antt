-- Rows of units in places of one kind, as bins or stages, and what postings make of them.
use Rattle.std.specs.Prelude.{◌+◌, ◌-◌, ◌==◌, if◌then◌else◌, ◌∷◌, ◌++◌}
use Rattle.rules.specs.Words.{ℕ, Bool, not, List, [], filter, find, flat_map, Option, Some, None, cons_option, list_any, LotId, StockRow, StagedRow, Place, InBin, Stage, Posting, LotBin, OrderLot, same_cell, same_share, capped}

-- A kind of places whose units are kept as rows: a row has a key and units, and a place has the key of a lot in it, or none
-- where it is of another kind.
pub record Shelf (K R : Type 0) : Type 0 where
  pub same : K → K → Bool
  pub key : R → K
  pub row : K → ℕ → R
  pub units : R → ℕ
  pub at : Place → LotId → Option K

abbrev pub bin_at : Place → LotId → Option LotBin
bin_at (InBin b) l = Some (l, b)
bin_at _ l = None

abbrev pub bins : Shelf LotBin StockRow
bins = record { same = same_cell; key = λ r. (r.lot, r.bin); row = λ k q. record { lot = k.0; bin = k.1; qty = q }; units = λ r. r.qty; at = bin_at }

abbrev pub stage_at : Place → LotId → Option OrderLot
stage_at (Stage o) l = Some (o, l)
stage_at _ l = None

abbrev pub stages : Shelf OrderLot StagedRow
stages = record { same = same_share; key = λ r. (r.order, r.lot); row = λ k q. record { order = k.0; lot = k.1; qty = q }; units = λ r. r.qty; at = stage_at }

module _ {K R : Type 0} (shelf : Shelf K R) where
  abbrev pub units_of : Option R → ℕ
  units_of None = 0
  units_of (Some r) = shelf.units r

  -- the units under a key
  abbrev pub units_at : K → List R → ℕ
  units_at k rows = units_of (find (λ r. shelf.same k (shelf.key r)) rows)

  -- a row of no units is not kept
  abbrev pub row_put : K → ℕ → List R
  row_put k q = if q == 0 then [] else shelf.row k q ∷ []

  -- the rows where so many units are under the key
  abbrev pub rows_with_units : K → ℕ → List R → List R
  rows_with_units k q rows = row_put k q ++ filter (λ r. not (shelf.same k (shelf.key r))) rows

  abbrev pub taken : Option K → ℕ → List R → List R
  taken None q rows = rows
  taken (Some k) q rows = rows_with_units k (units_at k rows - q) rows

  abbrev pub brought : Option K → ℕ → List R → List R
  brought None q rows = rows
  brought (Some k) q rows = rows_with_units k (capped (units_at k rows + q)) rows

  abbrev pub one_posted : Posting → List R → List R
  one_posted p rows = brought (shelf.at p.to p.lot) p.qty (taken (shelf.at p.from p.lot) p.qty rows)

  -- the rows after postings, of which the newest stands first
  abbrev pub rows_posted : List Posting → List R → List R
  rows_posted [] rows = rows
  rows_posted (p ∷ ps) rows = one_posted p (rows_posted ps rows)

  -- The keys that postings name, each once

  abbrev pub with_key : Option K → List K → List K
  with_key None ks = ks
  with_key (Some k) ks = if list_any (shelf.same k) ks then ks else k ∷ ks

  abbrev pub with_keys : Posting → List K → List K
  with_keys p ks = with_key (shelf.at p.from p.lot) (with_key (shelf.at p.to p.lot) ks)

  abbrev pub keys_posted : List Posting → List K → List K
  keys_posted [] ks = ks
  keys_posted (p ∷ ps) ks = with_keys p (keys_posted ps ks)

  -- A change: the rows put and dropped under the keys that postings name, each once

  abbrev pub rows_put : List K → List R → List R
  rows_put ks after = flat_map (λ k. row_put k (units_at k after)) ks

  abbrev pub row_gone : K → List R → List R → List R
  row_gone k before after = if units_at k after == 0 then cons_option (find (λ r. shelf.same k (shelf.key r)) before) [] else []

  abbrev pub rows_gone : List K → List R → List R → List R
  rows_gone ks before after = flat_map (λ k. row_gone k before after) ks
