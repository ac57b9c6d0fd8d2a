-- One demand in the place of the first ones of a cut.
use Rattle.row_rules.proofs.Words.{◌≡◌, ℕ, ◌≤◌, List, ap, sym, subst, ◌∙◌, arith, Demand, Supply, Row, plan_rows, demand_total, supply_total, AreSmall, SUM_MAX, HasFront, IsCut, one_total, one_kept, first_as_one}

-- the sums stay
pub one_small : (n : ℕ) (ds : List Demand) (ss : List Supply) (es : List Demand) → es ≡ first_as_one n ds → AreSmall ds ss → AreSmall es ss
one_small n ds ss es e h = record { demands = omega (arith, ap demand_total e, one_total n ds, h.demands); supplies = h.supplies }

-- the first row of demands stays where one demand stands for those that do
pub one_stays : (n : ℕ) (ds : List Demand) (ss : List Supply) (es : List Demand) (ts : List Supply) (was will : List Demand) (rows : List Row) → IsCut ds ss es ts n
    → was ≡ first_as_one n ds → will ≡ first_as_one n es → rows ≡ plan_rows was ss → HasFront 1 will ts rows
one_stays n ds ss es ts was will rows cut w e r =
    let told : rows ≡ plan_rows (first_as_one n ds) ss = r ∙ ap (λ fs. plan_rows fs ss) w in
    subst (λ all. HasFront 1 will ts all) (sym told) (subst (λ fs. HasFront 1 fs ts (plan_rows (first_as_one n ds) ss)) (sym e) (one_kept ds ss es ts n cut.front))

-- lists whose sums are within the limit
pub small_lists : (ds es : List Demand) (ss ts : List Supply) → ds ≡ es → ss ≡ ts → demand_total es ≤ SUM_MAX → supply_total ts ≤ SUM_MAX → AreSmall ds ss
small_lists ds es ss ts d s within more = record { demands = omega (arith, ap demand_total d, within); supplies = omega (arith, ap supply_total s, more) }
