use Rattle.audits.proofs.Words.{Some, sym, subst, ◌∙◌, state, tables_in, cards, cards_laws, AreAll, typed_are_all, Received, IsBegun}
use Rattle.audits.proofs.Beginning.{by_card}
use Rattle.audits.proofs.first_day.day_of_receipt.Goals as goal

pub returns-in-Ok-clause-begun : goal.returns-in-Ok-clause-begun
returns-in-Ok-clause-begun g c = λ clean ready.
    let o = state g.S.Store c.args.tx.now.conn.now in
    let m = state g.S.Store c.rows_by_halves.new.tx.conn.now in
    let finds = c.in-Ok.ensures.finds in
    let all = subst (AreAll cards (tables_in o.now.trees)) (sym (c.as_slice.ensures.value ∙ finds.rows clean ready)) (typed_are_all cards cards_laws o ready) in
    subst (IsBegun (Some (Received c.args.lot c.args.act)) o m) (sym c.card_day.ensures) (by_card o m (finds.same clean ready).0.now_is c.as_slice.result.now c.args.lot c.args.act all)
