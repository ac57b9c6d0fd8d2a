-- What is told of an item by rows that are indexed, and by those of the slice.
use Rattle.row_rules.proofs.Words.{◌≡◌, ℕ, List, ℤ, Demand, Supply, earliest_seen, demands_of, supplies_of, demands_told, supplies_told, replanned_between, item_demands, item_supplies, replanned_from, Rows, DemandRows, SupplyRows, DemandsIndexed, SuppliesIndexed, IndexedRows}

-- these are the rows of a slice that tell what is needed of items, and what there is of them
pub record AreDemandsOf (rows : Rows) (r : DemandRows) : Type 0 where
  pub orders : r.orders.now ≡ rows.orders
  pub lines : r.lines.now ≡ rows.lines
  pub staged : r.staged.now ≡ rows.staged
  pub urgents : r.urgents.now ≡ rows.urgents

pub record AreSuppliesOf (rows : Rows) (r : SupplyRows) : Type 0 where
  pub lots : r.lots.now ≡ rows.lots
  pub recalls : r.recalls.now ≡ rows.recalls
  pub bins : r.bins.now ≡ rows.bins
  pub stock : r.stock.now ≡ rows.stock
  pub least : r.least.now ≡ rows.least

-- what rows tell of an item
abbrev pub needed : List ℕ → DemandRows → List Demand
needed g r = item_demands g r.lines.now r.staged.now r.urgents.now r.orders.now

abbrev pub offered : List ℕ → ℤ → SupplyRows → List Supply
offered g day r = item_supplies g (earliest_seen day r.least.now g) r.recalls.now r.bins.now r.stock.now r.lots.now

pub needed_of : (g : List ℕ) (rows : Rows) (r : DemandRows) → AreDemandsOf rows r → needed g r ≡ item_demands g rows.lines rows.staged rows.urgents rows.orders
needed_of g rows r of = λ i. item_demands g (of.lines i) (of.staged i) (of.urgents i) (of.orders i)

pub offered_of : (g : List ℕ) (day : ℤ) (rows : Rows) (r : SupplyRows) → AreSuppliesOf rows r → offered g day r ≡ item_supplies g (earliest_seen day rows.least g) rows.recalls rows.bins rows.stock rows.lots
offered_of g day rows r of = λ i. item_supplies g (earliest_seen day (of.least i) g) (of.recalls i) (of.bins i) (of.stock i) (of.lots i)

-- and the same rows indexed
pub needed_told : (g : List ℕ) (m : DemandsIndexed) (r : DemandRows) → m ≡ demands_of r → demands_told g m ≡ needed g r
needed_told g m r e = λ i. demands_told g (e i)

pub offered_told : (g : List ℕ) (day : ℤ) (m : SuppliesIndexed) (r : SupplyRows) → m ≡ supplies_of day r → supplies_told g m ≡ offered g day r
offered_told g day m r e = λ i. supplies_told g (e i)

-- what changes between indexed rows
module _ (m n : IndexedRows) (was_day day : ℤ) (old new : DemandRows) (had has : SupplyRows) (m_demands : m.demands.now ≡ demands_of old) (m_supplies : m.supplies.now ≡ supplies_of was_day had)
    (n_demands : n.demands.now ≡ demands_of new) (n_supplies : n.supplies.now ≡ supplies_of day has) where
  pub between_is : (g : List ℕ) → replanned_between m n g ≡ replanned_from g old.orders.now had.lots.now (needed g old) (offered g was_day had) new.orders.now has.lots.now (needed g new) (offered g day has)
  between_is g = λ i. replanned_from g (m_demands i).orders.now (m_supplies i).lots (demands_told g (m_demands i)) (supplies_told g (m_supplies i)) (n_demands i).orders.now (n_supplies i).lots (demands_told g (n_demands i)) (supplies_told g (n_supplies i))
