use Rattle.house.proofs.Words.{◌∙◌, Ok, Err, delivered, state, as_before_itself}
use Rattle.house.proofs.Acting.{scanned, tells}
use Rattle.house.proofs.asking.scan.Goals as goal

pub returns-in-Ok-clause-acted : goal.returns-in-Ok-clause-acted
returns-in-Ok-clause-acted g c clean first acts history holds =
    let d = delivered c.args.delivery c.args.line c.args.bin c.args.qty in
    scanned g.S.Store first acts _ d c.args.label.now _ (Ok c.in-Ok.label) _ _ c.in-Ok.ensures.value (c.day-today.ensures.value ∙ holds.day)
    (c.act.ensures.acted clean first acts history holds)

pub returns-in-Err-clause-acted : goal.returns-in-Err-clause-acted
returns-in-Err-clause-acted g c clean first acts history holds =
    let d = delivered c.args.delivery c.args.line c.args.bin c.args.qty in
    scanned g.S.Store first acts _ d c.args.label.now _ (Err c.in-Err.fault) _ _ c.in-Err.ensures.value (c.day-today.ensures.value ∙ holds.day)
    (tells g.S.Store first acts _ _ _ c.label_answer.ensures history holds)

pub returns-in-Ok-clause-as_before : goal.returns-in-Ok-clause-as_before
returns-in-Ok-clause-as_before g c clean ne = c.act.ensures.as_before clean ne

pub returns-in-Err-clause-as_before : goal.returns-in-Err-clause-as_before
returns-in-Err-clause-as_before g c clean ne = as_before_itself (state g.S.Store c.args.books.now.conn)
