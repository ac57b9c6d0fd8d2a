use Rattle.queries.proofs.Words.{◌≡◌, Some, None, ap, ◌∙◌, Option, same_Some, state, ShiplineRow, units_told, read_none, as_told}
use Rattle.queries.proofs.ShippedTold.{IsToldOf}
use Rattle.queries.proofs.shipped.told_of.Goals as goal

pub returns-in-Some-clause-read : goal.returns-in-Some-clause-read
returns-in-Some-clause-read g c =
    as_told c.read_shipped.ensures.read (λ t found h u tells. h ∙ ap (units_told t) (same_Some c.in-Some.line tells.0 (c.in-Some.ensures tells.0 tells.1 tells.2)) ∙ tells.3)

pub returns-in-None-clause-read : goal.returns-in-None-clause-read
returns-in-None-clause-read g c =
    read_none (λ t told. IsToldOf t c.args.card.now told) (state g.S.Store c.args.tx.now.conn.now) None
    (λ t u tells. absurd (let none : ◌≡◌ {A = Option ShiplineRow} None (Some tells.0) = c.in-None.ensures tells.0 tells.1 tells.2 in cc))
