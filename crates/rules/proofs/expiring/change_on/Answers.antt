use Rattle.rules.proofs.Words.{◌≡◌, List, ap, ◌∙◌, Some, total, reply_text, Returned, StagedRow, capped, none_put, none_dropped, total_kept, is_out, units_out}
use Rattle.rules.proofs.expiring.change_on.Goals as goal

pub returns : goal.returns
returns c =
    let a = c.args in
    let s = a.slice.now in
    let gone = c.as_slice.ensures.value ∙ c.in_ok-staged.ensures in
    let units : c.sum_units-units.result ≡ units_out s a.day a.least.now =
    c.sum_units-units.ensures ∙ ap (λ (rows : List StagedRow). capped (total (λ r. r.qty) rows)) gone ∙ ap capped (total_kept (λ r. r.qty) (λ r. is_out s a.day a.least.now r.lot) s.rows.staged) in
    c.changed.ensures
    ∙ (λ i. record {
      meta = c.meta_on.ensures i;
      put = record none_put { stock = c.in_ok-stock.ensures i; reserved = c.in_ok-reserved.ensures.put i; least = a.asked };
      dropped = record none_dropped { staged = c.in_ok-staged.ensures i; reserved = c.in_ok-reserved.ensures.dropped i };
      text = reply_text (c.meta_on.ensures i).acts (Some (Returned (units i)));
    })
