-- What is decided of units picked for an order, and of those put back, by the rows of the slice: the conditions judged, and the rows changed.
use Rattle.std.specs.Prelude.{◌≡◌, ◌-◌, ◌==◌, if◌then◌else◌, ◌∷◌}
use Rattle.rules.specs.Words.{ℕ, Bool, not, nat_lt, List, [], Option, find, same_text, UnknownItem, UnknownBin, UnknownLot, UnknownOrder, NoSuchLine, LotRecalled, LotExpired, TooFewDays, LotHeld, NotStoreBin, OrderClosed, NotInBin, OverReserved, OverStaged, Picking, Judgement, IsPicked, reserved_in, Row, sees_item, sees_bin, lot_seen, sees_recall, is_past_row, is_below_row, least_seen, sees_order, sees_open, sees_line, order_row_seen, sees_lot, sees_hold, stock_found, in_bin_seen, reserved_found, reserved_seen, reserved_put, reserved_gone, staged_found, on_stage_seen, is_store_found, Slice, Change, Replanned}
use Rattle.rules.specs.declared.posting.Place.TheVariants.{InBin, Stage}
use Rattle.rules.specs.declared.posting.Posting.{Posting}
use Rattle.rules.specs.Told.{told_once}
use Rattle.rules.specs.PostedChanges.{no_facts, stock_after, staged_after, replanned_by, changes_by}
use Rattle.rules.specs.declared.pick_seen.UnitsSeen.{UnitsSeen}
use Rattle.rules.specs.declared.pick_seen.PickSeen.{PickSeen}

-- Looking up

-- the rows of the units that a picking moves, and what it names
abbrev pub units_found : Slice → Picking → UnitsSeen
units_found s p = record {
  in_bin = stock_found s.rows.stock p.lot p.bin;
  staged = staged_found s.rows.staged p.order p.lot;
  reserved = reserved_found s.rows.reserved p.order p.lot;
}

abbrev pub named_found : Slice → Picking → PickSeen
named_found s p = record {
  item = sees_item s p.lot.gtin;
  bin = find (λ r. same_text p.bin r.name) s.rows.bins;
  lot = lot_seen s p.lot;
  order = order_row_seen s p.order;
  line = sees_line s p.order p.lot.gtin;
  units = units_found s p;
}

-- Judging

-- the bin is a STORE bin
abbrev pub sees_store : Slice → List ℕ → Bool
sees_store s b = is_store_found (find (λ r. same_text b r.name) s.rows.bins)

abbrev pub pick_seen : Slice → Picking → Judgement
pick_seen s p =
    (not (sees_item s p.lot.gtin), UnknownItem)
    ∷ (not (sees_bin s p.bin), UnknownBin)
    ∷ (not (sees_lot s p.lot), UnknownLot)
    ∷ (not (sees_order s p.order), UnknownOrder)
    ∷ (not (sees_line s p.order p.lot.gtin), NoSuchLine)
    ∷ (sees_recall s p.lot, LotRecalled)
    ∷ (is_past_row (lot_seen s p.lot) s.meta.day, LotExpired)
    ∷ (is_below_row (lot_seen s p.lot) s.meta.day (least_seen s.rows.least p.lot.gtin), TooFewDays)
    ∷ (sees_hold s p.lot, LotHeld)
    ∷ (not (sees_store s p.bin), NotStoreBin)
    ∷ (not (sees_open s p.order), OrderClosed)
    ∷ (nat_lt (in_bin_seen s p.bin p.lot) p.qty, NotInBin)
    ∷ (nat_lt (reserved_seen s p.order p.lot) p.qty, OverReserved) ∷ []

abbrev pub unpick_seen : Slice → Picking → Judgement
unpick_seen s p =
    (not (sees_item s p.lot.gtin), UnknownItem)
    ∷ (not (sees_bin s p.bin), UnknownBin)
    ∷ (not (sees_lot s p.lot), UnknownLot)
    ∷ (not (sees_order s p.order), UnknownOrder)
    ∷ (not (sees_line s p.order p.lot.gtin), NoSuchLine)
    ∷ (not (sees_open s p.order), OrderClosed)
    ∷ (nat_lt (on_stage_seen s p.order p.lot) p.qty, OverStaged) ∷ []

-- Units picked are taken from their own reservation, and disturb no other: this much is left of it.
abbrev pub reserved_left : Slice → Picking → ℕ
reserved_left s p = reserved_seen s p.order p.lot - p.qty

-- The rows of a plan that reserves so many units, all for one booking on one lot; and what is left of them by a plan from
-- which units are picked.
abbrev pub one_row : ℕ → ℕ → ℕ → List Row
one_row b l n = if not (n == 0) then record { booking = b; lot = l; qty = n } ∷ [] else []

abbrev pub IsLeftInPlan : ℕ → ℕ → ℕ → Type 0
IsLeftInPlan n q left = (b l : ℕ) (after : List Row) → IsPicked b l q (one_row b l n) after → reserved_in b l after ≡ left

abbrev pub own_lowered : Slice → Picking → Replanned
own_lowered s p = record { put = reserved_put p.order p.lot (reserved_left s p); dropped = reserved_gone s.rows.reserved p.order p.lot (reserved_left s p) }

-- Changing: units go from the bin onto the stage, or back.

abbrev pub pick_told : Picking → Option Posting
pick_told p = told_once p.lot (InBin p.bin) (Stage p.order) p.qty

abbrev pub unpick_told : Picking → Option Posting
unpick_told p = told_once p.lot (Stage p.order) (InBin p.bin) p.qty

abbrev pub pick_changes : Slice → Picking → Change
pick_changes s p = changes_by s (pick_told p) (stock_after s (pick_told p)) (staged_after s (pick_told p)) (own_lowered s p) (no_facts s)

-- where units are put back, the item is planned anew
abbrev pub unpick_changes : Slice → Picking → Change
unpick_changes s p =
    let stock = stock_after s (unpick_told p) in
    let staged = staged_after s (unpick_told p) in
    changes_by s (unpick_told p) stock staged (replanned_by s p.lot.gtin s.rows.lots stock staged) (no_facts s)
