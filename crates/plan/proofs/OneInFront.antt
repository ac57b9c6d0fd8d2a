-- Where one demand stands for the first ones, its rows stay where theirs do.
use Prim.Native.Nat.{zero}
use Rattle.plan.proofs.Words.{◌≡◌, ℕ, suc, ◌+◌, ◌≤◌, ◌<◌, List, [], ◌∷◌, take, drop, ap, sym, ◌∙◌, arith, take-append-drop, IsFirstChange, IsFront, HasFront, demand_total, supply_total, plan_rows, Demand, Supply}
use Rattle.plan.proofs.Sums.{total-append}
use Rattle.plan.proofs.Parting.{one_for}
use Rattle.plan.proofs.Fronts.{in_time_all, front_kept}

-- the sum stays
pub one_total : (n : ℕ) (ds : List Demand) → demand_total (one_for n ds ∷ drop n ds) ≡ demand_total ds
one_total n ds = sym (total-append (λ (d : Demand). d.need) (take n ds) (drop n ds)) ∙ ap demand_total (take-append-drop n ds)

module _ (ds : List Demand) (ss : List Supply) (es : List Demand) (ts : List Supply) (n : ℕ) (h : IsFront ds ss es ts n) where
  pub one_is_front : IsFront (one_for n ds ∷ drop n ds) ss (one_for n es ∷ drop n es) ts 1
  one_is_front = record {
    in_old = omega arith;
    in_new = omega arith;
    same = ap (λ (fs : List Demand). record { booking = 0; need = demand_total fs } ∷ []) h.same;
    in_time = first_in_time;
  }
    where
      first_in_time : (k : ℕ) → k < 1 → (place : ℕ) → IsFirstChange ss ts place → demand_total (take (k + 1) (one_for n ds ∷ drop n ds)) ≤ supply_total (take place ss)
      first_in_time zero lt place change = omega (arith, in_time_all ds ss es ts n h place change)
      first_in_time (suc k) lt place change = absurd (omega arith)

  pub one_kept : HasFront 1 (one_for n es ∷ drop n es) ts (plan_rows (one_for n ds ∷ drop n ds) ss)
  one_kept = front_kept (one_for n ds ∷ drop n ds) ss (one_for n es ∷ drop n es) ts 1 one_is_front
