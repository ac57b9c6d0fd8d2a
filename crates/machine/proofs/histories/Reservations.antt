-- No booking has more reserved than it needs, and no lot more than there is of it.
use Rattle.machine.proofs.Words.{ℕ, ◌+◌, ◌≤◌, Bool, true, false, List, [], ◌∷◌, arith, ◌==◌, if◌then◌else◌, plan_total as total, Stretch, overlap, plan_rows, reserved_in, reserved_for, reserved_on, demands_laid, supplies_laid, Demand, Supply, Row, counted_plan, reserved_on_sum, on_pieces, pieces_on}
use Rattle.machine.proofs.Numbers.{fewer_if_both, total_zero}

in_booking : (b l : ℕ) (rows : List Row) → reserved_in b l rows ≤ reserved_for b rows
in_booking b l [] = omega arith
in_booking b l (r ∷ rs) = omega (arith, fewer_if_both (r.booking == b) (r.lot == l) r.qty, in_booking b l rs)

-- what is wanted under a number, and what there is under one
abbrev pub wanted_under : ℕ → List Demand → ℕ
wanted_under b ds = total (λ d. if d.booking == b then d.need else 0) ds

abbrev pub there_under : ℕ → List Supply → ℕ
there_under l ss = total (λ s. if s.lot == l then s.avail else 0) ss

own_rows : (b x : ℕ) (ds : List Demand) (ss : List Supply)
    → total (λ d. total (λ s. if d.name == b then overlap d s else 0) (supplies_laid 0 ss)) (demands_laid x ds) ≤ wanted_under b ds
own_rows b x [] ss = omega arith
own_rows b x (d ∷ ds) ss =
    let laid : Stretch = record { name = d.booking; start = x; stop = x + d.need } in
    omega (arith, own (d.booking == b), own_rows b (x + d.need) ds ss)
  where
    own : (t : Bool) → total (λ s. if t then overlap (record { name = d.booking; start = x; stop = x + d.need }) s else 0) (supplies_laid 0 ss) ≤ (if t then d.need else 0)
    own true = omega (arith, on_pieces (λ s. s.lot) (λ s. s.avail) (record { name = d.booking; start = x; stop = x + d.need }) 0 ss)
    own false = omega (arith, total_zero (supplies_laid 0 ss))

pub served_within_need : (b : ℕ) (ds : List Demand) (ss : List Supply) → reserved_for b (plan_rows ds ss) ≤ wanted_under b ds
served_within_need b ds ss = omega (arith, counted_plan (λ r. r.booking == b) (demands_laid 0 ds) (supplies_laid 0 ss), own_rows b 0 ds ss)

pub reserved_within_need : (b l : ℕ) (ds : List Demand) (ss : List Supply) → reserved_in b l (plan_rows ds ss) ≤ wanted_under b ds
reserved_within_need b l ds ss = omega (arith, in_booking b l (plan_rows ds ss), served_within_need b ds ss)

on_supplies : (l y : ℕ) (ds : List Demand) (ss : List Supply)
    → total (λ s. total (λ d. if s.name == l then overlap d s else 0) (demands_laid 0 ds)) (supplies_laid y ss) ≤ there_under l ss
on_supplies l y ds [] = omega arith
on_supplies l y ds (s ∷ ss) = omega (arith, own (s.lot == l), on_supplies l (y + s.avail) ds ss)
  where
    own : (t : Bool) → total (λ d. if t then overlap d (record { name = s.lot; start = y; stop = y + s.avail }) else 0) (demands_laid 0 ds) ≤ (if t then s.avail else 0)
    own true = omega (arith, pieces_on (λ d. d.booking) (λ d. d.need) (record { name = s.lot; start = y; stop = y + s.avail }) 0 ds)
    own false = omega (arith, total_zero (demands_laid 0 ds))

pub reserved_within_supply : (l : ℕ) (ds : List Demand) (ss : List Supply) → reserved_on l (plan_rows ds ss) ≤ there_under l ss
reserved_within_supply l ds ss = omega (arith, reserved_on_sum l (demands_laid 0 ds) (supplies_laid 0 ss), on_supplies l 0 ds ss)
