-- What the rows of an item tell, and what changes of its reserved rows where others stand in their place.
use Rattle.rules.specs.Words.{ℕ, List, ℤ, Demand, Supply, demands_seen, supplies_seen, item_replanned, Rows, Slice, Replanned}

abbrev pub demands_in : List ℕ → Rows → List Demand
demands_in g rows = demands_seen g rows.lines rows.staged rows.urgents rows.orders

-- with this as the earliest expiry that ships
abbrev pub supplies_in : List ℕ → ℤ → Rows → List Supply
supplies_in g from rows = supplies_seen g from rows.recalls rows.bins rows.stock rows.lots

-- on a day with these rows
abbrev pub replanned_to : Slice → ℤ → Rows → List ℕ → Replanned
replanned_to s day rows g = item_replanned s day rows.orders rows.lines rows.staged rows.lots rows.recalls rows.bins rows.stock rows.least rows.urgents g
