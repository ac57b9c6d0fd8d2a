use Rattle.store.proofs.Words.{sym, subst, state, notice_shown, IsShownOn}
use Rattle.store.proofs.ShownWhole.{whole_shown}
use Rattle.store.proofs.notices.show_notice.Goals as goal

pub returns-clause-shown : goal.returns-clause-shown
returns-clause-shown g c clean first acts history held is_day =
    let shown = notice_shown first acts c.args.lot.now in
    let told = c.show.ensures.shown clean first acts history held is_day in
    subst (λ r. IsShownOn first acts shown r (state g.S.Store c.show.new.conn)) (sym c.told_whole.ensures) (whole_shown shown c.show.result told.0, told.1)
