use Rattle.row_rules.specs.LookUps.{row_given}
use Rattle.row_rules.proofs.Naming.{IsNaming}
use Rattle.row_rules.proofs.plans.name_rows.Given as goal

abbrev pub invariant-loop-row : goal.invariant-loop-row
invariant-loop-row l = IsNaming (row_given (λ o. o.act) l.orders) (row_given (λ k. k.came) l.lots) l.rows l.row-index l.named.items
