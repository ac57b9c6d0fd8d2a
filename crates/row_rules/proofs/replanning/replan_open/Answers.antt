use Rattle.row_rules.proofs.Words.{◌∙◌, IfOk-weaker, replanned_from}
use Rattle.row_rules.proofs.Sides.{AreDemandsOf, AreSuppliesOf, needed_of, offered_of}
use Rattle.row_rules.proofs.BehindCut.{small_lists}
use Rattle.row_rules.proofs.replanning.replan_open.Goals as goal

pub replan_told-requires-clause-before : goal.replan_told-requires-clause-before
replan_told-requires-clause-before c = small_lists _ _ _ _ c.as_slice.ensures.value c.as_slice-2.ensures.value c.in_ok-wanted.ensures.small c.in_ok-offered.ensures.small

pub replan_told-requires-clause-after : goal.replan_told-requires-clause-after
replan_told-requires-clause-after c = small_lists _ _ _ _ c.as_slice-3.ensures.value c.as_slice-4.ensures.value c.in_ok-wants.ensures.small c.in_ok-offers.ensures.small

pub returns : goal.returns
returns c =
    let g = c.args.gtin.now in
    let s = c.args.slice.now in
    let r = c.args.rows.now in
    let o = c.item_rows-old.ensures in
    let demands : AreDemandsOf s.rows c.item_rows-old.result.demands = record { orders = o.orders; lines = o.lines; staged = o.staged; urgents = o.urgents } in
    let supplies : AreSuppliesOf s.rows c.item_rows-old.result.supplies = record { lots = o.lots; recalls = o.recalls; bins = o.bins; stock = o.stock; least = o.least } in
    let wanted = c.as_slice.ensures.value ∙ c.in_ok-wanted.ensures.told ∙ needed_of g s.rows c.item_rows-old.result.demands demands in
    let offered = c.as_slice-2.ensures.value ∙ c.in_ok-offered.ensures.told ∙ offered_of g s.meta.day s.rows c.item_rows-old.result.supplies supplies in
    let wants = c.as_slice-3.ensures.value ∙ c.in_ok-wants.ensures.told in
    let offers = c.as_slice-4.ensures.value ∙ c.in_ok-offers.ensures.told in
    IfOk-weaker c.replan_told.result _ _
    (λ x e. e ∙ (λ i. replanned_from g (o.orders i) (o.lots i) (wanted i) (offered i) r.demands.orders.now r.supplies.lots.now (wants i) (offers i))) c.replan_told.ensures
