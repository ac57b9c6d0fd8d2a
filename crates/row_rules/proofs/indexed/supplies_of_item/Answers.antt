use Rattle.row_rules.proofs.Words.{ap, ◌∙◌, Option, pos, ◌+ℤ◌, LeastRow, days_in, SUM_MAX, supplies_seen, supplies_within}
use Rattle.row_rules.proofs.Making.{same_items}
use Rattle.row_rules.proofs.indexed.supplies_of_item.Goals as goal

pub returns-clause-told : goal.returns-clause-told
returns-clause-told c =
    let m = c.args.indexed.now in
    let from = c.earliest_of-from.ensures ∙ ap (λ (row : Option LeastRow). m.day +ℤ pos (days_in row)) c.find.ensures in
    same_items c.cut_supplies.result _ _ c.cut_supplies.ensures.cut
    (ap (supplies_within SUM_MAX) (c.as_slice.ensures.value ∙ c.in_ok-supplies.ensures ∙ (λ i. supplies_seen c.args.gtin.now (from i) m.recalls m.bins m.stock m.lots)))
