-- The plan of an item as rows tell it, and the reserved rows that it changes.
use Rattle.std.specs.Prelude.{ℕ, ◌-◌, min, Bool, false, not, ◌&&◌, ◌||◌, ◌==◌, nat_lt, if◌then◌else◌, List, [], ◌∷◌, ◌++◌, map, filter, find, Option, Some, None, ℤ, int_lt}
use Rattle.std.specs.List.{list_any, cons_option}
use Rattle.row_rules.specs.Words.{same_text, LotId, total, placed, BinRow, LotRow, RecallRow, StockRow, OrderRow, UrgentRow, LineRow, StagedRow, ReservedRow, SUM_MAX, Demand, Supply, Row, plan_rows, is_lot, of_item, is_store_kind, is_open_state}
use Rattle.row_rules.specs.Seen.{capped}
use Rattle.row_rules.specs.Status.{may_ship}

-- the elements put into a list in its order, one after another
abbrev pub inserted : {X : Type 0} → (X → X → Bool) → List X → List X → List X
inserted earlier list [] = list
inserted earlier list (x ∷ xs) = inserted earlier (placed earlier x list) xs

-- Demands

-- the units of an item that are staged for an order
abbrev pub staged_seen : List ℕ → List ℕ → List StagedRow → ℕ
staged_seen g o rows = total (λ r. if same_text o r.order && of_item g r.lot then r.qty else 0) rows

abbrev pub line_need : Option LineRow → ℕ → ℕ
line_need None staged = 0
line_need (Some l) staged = l.ordered - staged - l.shipped

-- what an open order still needs of the item
abbrev pub need_seen : List ℕ → List LineRow → List StagedRow → OrderRow → ℕ
need_seen g lines staged o =
    if is_open_state o.state then line_need (find (λ l. same_text o.order l.order && same_text g l.gtin) lines) (capped (staged_seen g o.order staged)) else 0

abbrev pub demand_seen : List ℕ → List LineRow → List StagedRow → OrderRow → Demand
demand_seen g lines staged o = record { booking = o.act; need = need_seen g lines staged o }

abbrev pub is_earlier : Demand → Demand → Bool
is_earlier d e = nat_lt d.booking e.booking

-- one of the rows of urgent orders is the order's
abbrev pub is_urgent_seen : List UrgentRow → OrderRow → Bool
is_urgent_seen urgents o = list_any (λ u. same_text o.order u.order) urgents

abbrev pub is_normal_seen : List UrgentRow → OrderRow → Bool
is_normal_seen urgents o = not (is_urgent_seen urgents o)

-- the demands of orders, by number
abbrev pub demands_by_number : List ℕ → List LineRow → List StagedRow → List OrderRow → List Demand
demands_by_number g lines staged orders = inserted is_earlier [] (map (demand_seen g lines staged) orders)

-- those of the urgent orders, and then those of the others
abbrev pub demands_seen : List ℕ → List LineRow → List StagedRow → List UrgentRow → List OrderRow → List Demand
demands_seen g lines staged urgents orders =
    demands_by_number g lines staged (filter (is_urgent_seen urgents) orders) ++ demands_by_number g lines staged (filter (is_normal_seen urgents) orders)

-- Supplies

abbrev pub is_store_found : Option BinRow → Bool
is_store_found None = false
is_store_found (Some r) = is_store_kind r.kind

-- the units of a row, if it is of the lot and in a STORE bin
abbrev pub in_store_seen : List BinRow → LotId → StockRow → ℕ
in_store_seen bins l r = if is_lot l r.lot && is_store_found (find (λ b. same_text r.bin b.name) bins) then r.qty else 0

-- the units of a lot in STORE bins
abbrev pub store_seen : List BinRow → List StockRow → LotId → ℕ
store_seen bins stock l = total (in_store_seen bins l) stock

-- the lot is of the item, and may be shipped on the day
abbrev pub is_usable : List ℕ → ℤ → List RecallRow → LotRow → Bool
is_usable g day recalls k = of_item g k.lot && may_ship day recalls k

abbrev pub goes_first : LotRow → LotRow → Bool
goes_first k m = int_lt k.expiry m.expiry || (not (int_lt m.expiry k.expiry) && nat_lt k.came m.came)

abbrev pub usable_lots : List ℕ → ℤ → List RecallRow → List LotRow → List LotRow
usable_lots g day recalls lots = inserted goes_first [] (filter (is_usable g day recalls) lots)

abbrev pub supply_seen : List BinRow → List StockRow → LotRow → Supply
supply_seen bins stock k = record { lot = k.came; avail = capped (store_seen bins stock k.lot) }

-- the supplies of the item, by expiry and then by first receipt
abbrev pub supplies_seen : List ℕ → ℤ → List RecallRow → List BinRow → List StockRow → List LotRow → List Supply
supplies_seen g day recalls bins stock lots = map (supply_seen bins stock) (usable_lots g day recalls lots)

-- The plan

-- What lies beyond the limit of a list's sum is cut off: no more is served than the supplies of an item have, and these are
-- within the limit.
abbrev pub demands_within : ℕ → List Demand → List Demand
demands_within room [] = []
demands_within room (d ∷ ds) = record { booking = d.booking; need = min d.need room } ∷ demands_within (room - d.need) ds

abbrev pub supplies_within : ℕ → List Supply → List Supply
supplies_within room [] = []
supplies_within room (s ∷ ss) = record { lot = s.lot; avail = min s.avail room } ∷ supplies_within (room - s.avail) ss

abbrev pub plan_within : List Demand → List Supply → List Row
plan_within ds ss = plan_rows (demands_within SUM_MAX ds) (supplies_within SUM_MAX ss)

-- Reserved rows

abbrev pub named_row : Option OrderRow → Option LotRow → ℕ → Option ReservedRow
named_row None k q = None
named_row (Some o) None q = None
named_row (Some o) (Some k) q = Some (record { order = o.order; lot = k.lot; qty = q })

-- the plan's rows by the names of orders and lots
abbrev pub named_rows : List OrderRow → List LotRow → List Row → List ReservedRow
named_rows orders lots [] = []
named_rows orders lots (r ∷ rs) = cons_option (named_row (find (λ o. r.booking == o.act) orders) (find (λ k. r.lot == k.came) lots) r.qty) (named_rows orders lots rs)

abbrev pub is_share_of : ReservedRow → ReservedRow → Bool
is_share_of r n = same_text r.order n.order && is_lot r.lot n.lot

abbrev pub has_qty : Option ReservedRow → ℕ → Bool
has_qty None q = false
has_qty (Some r) q = r.qty == q

-- the new rows that are not there as they are
abbrev pub rows_to_put : List ReservedRow → List ReservedRow → List ReservedRow
rows_to_put olds news = filter (λ n. not (has_qty (find (is_share_of n) olds) n.qty)) news

-- the old rows of the item that are there no more
abbrev pub rows_to_drop : List ℕ → List ReservedRow → List ReservedRow → List ReservedRow
rows_to_drop g olds news = filter (λ r. of_item g r.lot && not (list_any (is_share_of r) news)) olds
