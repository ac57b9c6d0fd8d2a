-- A plan in two parts: the rows of the first demands, and those of the demands behind them.
use Rattle.plan.proofs.Words.{◌≡◌, ℕ, ◌+◌, List, ◌∷◌, ◌++◌, take, drop, ap, sym, ◌∙◌, arith, take-append-drop, rows_of_demand, rows_from, supplies_laid, demand_total, plan_rows, Demand, Supply}
use Rattle.plan.proofs.Laying.{plan_rows-append}

pub plan_parted : (n : ℕ) (ds : List Demand) (ss : List Supply) → plan_rows ds ss ≡ plan_rows (take n ds) ss ++ rows_from (demand_total (take n ds)) (drop n ds) ss
plan_parted n ds ss = (λ i. plan_rows (sym (take-append-drop n ds) i) ss) ∙ plan_rows-append (take n ds) (drop n ds) ss

-- One demand stands for the first ones

abbrev pub one_for : ℕ → List Demand → Demand
one_for n ds = record { booking = 0; need = demand_total (take n ds) }

pub one_in_front : (n : ℕ) (ds : List Demand) (ss : List Supply)
    → plan_rows (one_for n ds ∷ drop n ds) ss
    ≡ rows_of_demand (supplies_laid 0 ss) (record { name = 0; start = 0; stop = demand_total (take n ds) }) ++ rows_from (demand_total (take n ds)) (drop n ds) ss
one_in_front n ds ss =
    let same : 0 + demand_total (take n ds) ≡ demand_total (take n ds) = omega arith in
    ap (λ x. rows_of_demand (supplies_laid 0 ss) (record { name = 0; start = 0; stop = x }) ++ rows_from x (drop n ds) ss) same
