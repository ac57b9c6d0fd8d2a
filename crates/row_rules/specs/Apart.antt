-- Rows of a plan as keys of a set.
use Rattle.std.specs.Prelude.{◌≡◌, ℕ, List}
use Rattle.std.specs.List.{list_any}
use Rattle.std.specs.declared.cmp.Ordering.{Ordering}
use Rattle.std.specs.Ordering.{nat_cmp, ordering_then}
use Rattle.std.specs.BTreeSet.{BTreeSet, contains}
use Rattle.plan.specs.declared.Row.{Row}
use Rattle.row_rules.specs.Replanning.{same_row}

abbrev pub RowKey : Type 0
RowKey = ℕ × ℕ × ℕ

-- booking, lot and units
abbrev pub row_key : Row → RowKey
row_key r = (r.booking, r.lot, r.qty)

abbrev pub row_cmp : RowKey → RowKey → Ordering
row_cmp x y = ordering_then (ordering_then (nat_cmp x.0 y.0) (nat_cmp x.1 y.1)) (nat_cmp x.2 y.2)

-- the set has these rows
abbrev pub HasRows : BTreeSet RowKey → List Row → Type 0
HasRows set rows = (r : Row) → contains row_cmp set (row_key r) ≡ list_any (same_row r) rows
