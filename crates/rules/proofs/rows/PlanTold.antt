-- The rows of an item tell its plan.
use Rattle.rules.proofs.Words.{◌≡◌, ℕ, List, ◌∙◌, ℤ, same_plan, Act, least_expiry, demands, supplies, plan, IsHistory, plan_within, plan_of_cut, Rows, demands_in, supplies_in}
use Rattle.rules.proofs.rows.DemandsTold.{TellsDemands, rows_tell_demands}
use Rattle.rules.proofs.rows.SuppliesTold.{TellsSupplies, rows_tell_supplies, supplies_within_limit}

module _ (first : ℤ) (acts : List Act) (history : IsHistory first acts) (g : List ℕ) (read : Rows)
    (wanted : TellsDemands first acts g read) (offered : TellsSupplies first acts g read) where
  pub rows_tell_plan : plan_within (demands_in g read) (supplies_in g (least_expiry first acts g) read) ≡ plan first acts g
  rows_tell_plan =
      plan_of_cut (demands_in g read) (supplies_in g (least_expiry first acts g) read)
      (supplies_within_limit first acts history g read offered)
      ∙ same_plan (demands_in g read) (demands first acts g) (supplies_in g (least_expiry first acts g) read) (supplies first acts g)
      (rows_tell_demands first acts history g read wanted) (rows_tell_supplies first acts history g read offered)
