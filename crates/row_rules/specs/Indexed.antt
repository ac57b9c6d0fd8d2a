-- Rows indexed by their texts: what they tell of an item.
use Rattle.std.specs.Prelude.{ℕ, List, ℤ}
use Rattle.row_rules.specs.Words.{Demand, Supply}
use Rattle.row_rules.specs.Status.{earliest_seen}
use Rattle.row_rules.specs.Replanning.{item_demands, item_supplies}
use Rattle.row_rules.specs.declared.indexed.DemandsIndexed.{DemandsIndexed}
use Rattle.row_rules.specs.declared.indexed.SuppliesIndexed.{SuppliesIndexed}
use Rattle.row_rules.specs.declared.plans.DemandRows.{DemandRows}
use Rattle.row_rules.specs.declared.plans.SupplyRows.{SupplyRows}

-- these rows indexed
abbrev pub demands_of : DemandRows → DemandsIndexed
demands_of r = record { orders = r.orders; lines = r.lines.now; staged = r.staged.now; urgents = r.urgents.now }

abbrev pub supplies_of : ℤ → SupplyRows → SuppliesIndexed
supplies_of day r = record { day = day; recalls = r.recalls.now; bins = r.bins.now; stock = r.stock.now; lots = r.lots.now; least = r.least.now }

abbrev pub demands_told : List ℕ → DemandsIndexed → List Demand
demands_told g m = item_demands g m.lines m.staged m.urgents m.orders.now

abbrev pub supplies_told : List ℕ → SuppliesIndexed → List Supply
supplies_told g m = item_supplies g (earliest_seen m.day m.least g) m.recalls m.bins m.stock m.lots
