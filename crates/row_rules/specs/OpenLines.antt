-- What open orders have ordered of an item and not got, line by line.
use Rattle.std.specs.Prelude.{ℕ, ◌-◌, Bool, ◌&&◌, if◌then◌else◌, List}
use Rattle.std.specs.List.{list_any}
use Rattle.row_rules.specs.Words.{same_text, total, OrderRow, LineRow, is_open_state}
use Rattle.row_rules.specs.Seen.{capped}

-- the rows have an open order of the name
abbrev pub is_open_among : List OrderRow → List ℕ → Bool
is_open_among orders o = list_any (λ r. same_text o r.order && is_open_state r.state) orders

-- ordered less shipped of the item, if the line's order is open
abbrev pub open_of_line : List ℕ → List OrderRow → LineRow → ℕ
open_of_line g orders l = if same_text g l.gtin && is_open_among orders l.order then l.ordered - l.shipped else 0

-- and of all lines
abbrev pub open_units_among : List ℕ → List OrderRow → List LineRow → ℕ
open_units_among g orders lines = capped (total (open_of_line g orders) lines)
