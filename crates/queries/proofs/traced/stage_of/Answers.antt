use Rattle.queries.proofs.Words.{◌≡◌, Option, Some, None, sym, ap, ◌∙◌, same_Some, OrderRow}
use Rattle.overviews.specs.declared.trace.StagedUnits.{StagedUnits}
use Rattle.queries.proofs.traced.stage_of.Goals as goal

pub returns-in-Some : goal.returns-in-Some
returns-in-Some c u tells =
    let same : c.in-Some.order ≡ tells.0 = same_Some c.in-Some.order tells.0 (sym c.in-Some.is ∙ c.find.ensures ∙ tells.1) in
    ap (λ (o : OrderRow). let r : StagedUnits = record { customer = o.customer; order = c.args.row.now.order; qty = c.args.row.now.qty } in Some r) same ∙ ap Some (sym tells.2)

pub returns-in-None : goal.returns-in-None
returns-in-None c u tells = absurd (let none : ◌≡◌ {A = Option OrderRow} None (Some tells.0) = sym c.in-None.is ∙ c.find.ensures ∙ tells.1 in cc)
