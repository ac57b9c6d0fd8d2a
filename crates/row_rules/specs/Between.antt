-- What changes of the reserved rows of an item between indexed rows.
use Rattle.std.specs.Prelude.{ℕ, List}
use Rattle.row_rules.specs.Indexed.{demands_told, supplies_told}
use Rattle.row_rules.specs.Replanning.{replanned_from}
use Rattle.row_rules.specs.declared.replanning.Replanned.{Replanned}
use Rattle.row_rules.specs.declared.replanning.IndexedRows.{IndexedRows}

-- what changes where these are the rows before and after an act
abbrev pub replanned_between : IndexedRows → IndexedRows → List ℕ → Replanned
replanned_between m n g =
    replanned_from g m.demands.now.orders.now m.supplies.now.lots (demands_told g m.demands.now) (supplies_told g m.supplies.now)
    n.demands.now.orders.now n.supplies.now.lots (demands_told g n.demands.now) (supplies_told g n.supplies.now)
