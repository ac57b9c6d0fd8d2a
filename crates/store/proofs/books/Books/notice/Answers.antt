use Rattle.store.proofs.Words.{sym, subst, state, notice_shown, HoldsBooks, IsAsBefore}
use Rattle.store.proofs.BooksWhole.{idle_then, look_kept, shown_by_books}
use Rattle.store.proofs.books.Books.notice.Goals as goal

pub returns-clause-shown : goal.returns-clause-shown
returns-clause-shown g c clean first acts history holds =
    let was : HoldsBooks g.S.Store first acts (record { conn = c.self.inside.conn; day = c.self.inside.day }) = subst (HoldsBooks g.S.Store first acts) (sym c.self.view_is) holds in
    shown_by_books g.S.Store first acts (notice_shown first acts c.args.lot.now) c.show_notice.result (record { conn = c.show_notice.new.conn; day = c.self.inside.day }) (c.show_notice.ensures.shown clean first acts history was.keeps (sym was.day)) was.day

pub invariant_of-self : goal.invariant_of-self
invariant_of-self g c = (idle_then g.S.Store c.self.inside.conn c.show_notice.new.conn c.show_notice.ensures.survives c.show_notice.ensures.outside c.self.invariant.0, c.show_notice.ensures.known)

pub returns-clause-as_before : goal.returns-clause-as_before
returns-clause-as_before g c clean =
    subst (λ b. IsAsBefore (state g.S.Store b.conn) (state g.S.Store c.show_notice.new.conn)) c.self.view_is
    (look_kept g.S.Store c.self.inside.known c.self.inside.conn c.show_notice.new.conn c.show_notice.ensures.survives c.show_notice.ensures.stays c.self.invariant.1 clean).0

pub returns-clause-stays : goal.returns-clause-stays
returns-clause-stays g c clean = (c.show_notice.ensures.known clean).0
