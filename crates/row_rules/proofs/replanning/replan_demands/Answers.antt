use Rattle.row_rules.proofs.Words.{ℕ, List, ◌∙◌, flat_map, IfOk-weaker, replanned_from}
use Rattle.row_rules.proofs.Sides.{AreDemandsOf, AreSuppliesOf, needed, needed_of, offered_of, between_is}
use Rattle.row_rules.proofs.replanning.replan_demands.Goals as goal

pub returns-clause-put : goal.returns-clause-put
returns-clause-put c =
    let s = c.args.slice.now in
    let r = c.args.rows.now in
    let o = c.item_rows-old.ensures in
    let demands : AreDemandsOf s.rows c.item_rows-old.result.demands = record { orders = o.orders; lines = o.lines; staged = o.staged; urgents = o.urgents } in
    let supplies : AreSuppliesOf s.rows c.item_rows-old.result.supplies = record { lots = o.lots; recalls = o.recalls; bins = o.bins; stock = o.stock; least = o.least } in
    let old = c.item_rows-old.result in
    let m = c.both_indexed-before.ensures in
    let n = c.both_indexed-after.ensures in
    let same = λ (g : List ℕ).
    between_is c.both_indexed-before.result c.both_indexed-after.result s.meta.day s.meta.day old.demands r old.supplies old.supplies
    (m.demands ∙ c.in_ok-wanted.ensures) (m.supplies ∙ c.in_ok-offered.ensures) (n.demands ∙ c.in_ok-wants.ensures) (n.supplies ∙ c.in_ok-offered.ensures) g
    ∙ (λ i. replanned_from g (o.orders i) (o.lots i) (needed_of g s.rows old.demands demands i) (offered_of g s.meta.day s.rows old.supplies supplies i) r.orders.now (o.lots i) (needed g r) (offered_of g s.meta.day s.rows old.supplies supplies i)) in
    IfOk-weaker c.replan_each.result _ _ (λ x e. e ∙ (λ i. flat_map (λ g. (same g i).put) c.args.gtins.now)) c.replan_each.ensures.put

pub returns-clause-dropped : goal.returns-clause-dropped
returns-clause-dropped c =
    let s = c.args.slice.now in
    let r = c.args.rows.now in
    let o = c.item_rows-old.ensures in
    let demands : AreDemandsOf s.rows c.item_rows-old.result.demands = record { orders = o.orders; lines = o.lines; staged = o.staged; urgents = o.urgents } in
    let supplies : AreSuppliesOf s.rows c.item_rows-old.result.supplies = record { lots = o.lots; recalls = o.recalls; bins = o.bins; stock = o.stock; least = o.least } in
    let old = c.item_rows-old.result in
    let m = c.both_indexed-before.ensures in
    let n = c.both_indexed-after.ensures in
    let same = λ (g : List ℕ).
    between_is c.both_indexed-before.result c.both_indexed-after.result s.meta.day s.meta.day old.demands r old.supplies old.supplies
    (m.demands ∙ c.in_ok-wanted.ensures) (m.supplies ∙ c.in_ok-offered.ensures) (n.demands ∙ c.in_ok-wants.ensures) (n.supplies ∙ c.in_ok-offered.ensures) g
    ∙ (λ i. replanned_from g (o.orders i) (o.lots i) (needed_of g s.rows old.demands demands i) (offered_of g s.meta.day s.rows old.supplies supplies i) r.orders.now (o.lots i) (needed g r) (offered_of g s.meta.day s.rows old.supplies supplies i)) in
    IfOk-weaker c.replan_each.result _ _ (λ x e. e ∙ (λ i. flat_map (λ g. (same g i).dropped) c.args.gtins.now)) c.replan_each.ensures.dropped
