use Rattle.service.proofs.Words.{sym, subst, ap, ◌∙◌, arith, IsTrue, state, HasCleanDisk, IsHistoryPrinted, KeepsBooks, left_keeps}
use Rattle.service.proofs.ActsPrinted.{acts_back}
use Rattle.service.proofs.acts_text.print_acts.Goals as goal

pub returns-clause-clean : goal.returns-clause-clean
returns-clause-clean g c clean =
    let was : HasCleanDisk (state g.S.Store c.close-conn.result) = omega (arith, clean, c.print_history-lent.ensures.survives.clean) in
    subst (λ h. HasCleanDisk (state g.S.Store h)) c.close-conn.ensures.same was

pub returns-clause-printed : goal.returns-clause-printed
returns-clause-printed g c clean up first acts history holds =
    let w = c.print_history-lent in
    let keeps = subst (λ h. KeepsBooks first acts (state g.S.Store h)) (sym c.close-conn.ensures.same) holds.keeps in
    let books = keeps.books (subst (λ h. IsTrue (state g.S.Store h).is_open) (sym c.close-conn.ensures.same) up) in
    left_keeps first acts (state g.S.Store c.close-conn.result) (state g.S.Store w.new.conn) keeps (w.ensures.left clean books.ready)

pub returns-clause-told : goal.returns-clause-told
returns-clause-told g c clean up first acts history holds =
    let at = g.W.Write.contents in
    let w = c.print_history-lent in
    let keeps = subst (λ h. KeepsBooks first acts (state g.S.Store h)) (sym c.close-conn.ensures.same) holds.keeps in
    let books = keeps.books (subst (λ h. IsTrue (state g.S.Store h).is_open) (sym c.close-conn.ensures.same) up) in
    let printed = w.ensures.printed clean books.ready first acts history (record { tables = books.rows.tables; typed = books.rows.typed }) (c.day-today.ensures.value ∙ holds.day) in
    subst (IsHistoryPrinted first acts (at c.args.out.now) _) (sym c.line_result.ensures)
    (acts_back first acts _ w.result.0.out.ghost_name (at c.args.out.now) (at w.result.0.out.now) _ (λ e. ap at (c.out-1.given.1 e)) w.result.1 printed)
