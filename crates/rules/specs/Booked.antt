-- What a line of an order reserves: it is booked last, behind what all other orders need of its item.
use Rattle.std.specs.Prelude.{◌≡◌, ◌-◌, ◌∷◌}
use Rattle.rules.specs.Words.{ℕ, List, [], OrderLine, OrderRow, ReservedRow, Demand, Row, reserved_for, capped, number_seen, staged_units, open_units_among, earliest_seen, plan_within, named_rows, SuppliesIndexed, Slice}
use Rattle.rules.specs.ItemTold.{supplies_in}

-- what open orders have ordered of the item and not got
abbrev pub open_units_seen : Slice → List ℕ → ℕ
open_units_seen s g = open_units_among g s.rows.orders s.rows.lines

-- what they still need: all but what is staged for them
abbrev pub needs_seen : Slice → List ℕ → ℕ
needs_seen s g = open_units_seen s g - capped (staged_units g s.rows.staged)

-- What is reserved for the last booking depends on the sum of the needs before it alone. So one demand stands for them, under
-- the number 0 that no act has.
abbrev pub demand_before : Slice → List ℕ → Demand
demand_before s g = record { booking = 0; need = needs_seen s g }

-- the demand of the line, under the number of the act that is decided
abbrev pub demand_booked : Slice → OrderLine → Demand
demand_booked s l = record { booking = number_seen s; need = l.qty }

abbrev pub plan_booked : Slice → OrderLine → List Row
plan_booked s l =
    plan_within (demand_before s l.gtin ∷ demand_booked s l ∷ []) (supplies_in l.gtin (earliest_seen s.meta.day s.rows.least l.gtin) s.rows)

-- the rows of the order, whose row is handed in, and no others
abbrev pub line_put : Slice → OrderRow → OrderLine → List ReservedRow
line_put s order l = named_rows (order ∷ []) s.rows.lots (plan_booked s l)

-- what the line is short of
abbrev pub line_short : Slice → OrderLine → ℕ
line_short s l = l.qty - reserved_for (number_seen s) (plan_booked s l)

-- the rows of the slice that tell supplies, indexed
pub record IsIndexOf (s : Slice) (m : SuppliesIndexed) : Type 0 where
  pub day : m.day ≡ s.meta.day
  pub lots : m.lots ≡ s.rows.lots
  pub recalls : m.recalls ≡ s.rows.recalls
  pub bins : m.bins ≡ s.rows.bins
  pub stock : m.stock ≡ s.rows.stock
  pub least : m.least ≡ s.rows.least
