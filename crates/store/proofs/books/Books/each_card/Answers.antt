use Rattle.store.proofs.Words.{subst, state, IsAsBefore}
use Rattle.store.proofs.BooksWhole.{whole_then, look_kept}
use Rattle.store.proofs.books.Books.each_card.Goals as goal

pub invariant_of-self : goal.invariant_of-self
invariant_of-self g c = whole_then g.S.Store c.self.inside.known c.self.inside.conn c.hand_card.new.conn c.hand_card.ensures.survives (c.hand_card.ensures.outside c.self.invariant.0.outside) c.hand_card.ensures.stays c.self.invariant

pub returns-clause-as_before : goal.returns-clause-as_before
returns-clause-as_before g c clean =
    subst (λ b. IsAsBefore (state g.S.Store b.conn) (state g.S.Store c.hand_card.new.conn)) c.self.view_is
    (look_kept g.S.Store c.self.inside.known c.self.inside.conn c.hand_card.new.conn c.hand_card.ensures.survives c.hand_card.ensures.stays c.self.invariant.1 clean).0

pub returns-clause-stays : goal.returns-clause-stays
returns-clause-stays g c clean = (look_kept g.S.Store c.self.inside.known c.self.inside.conn c.hand_card.new.conn c.hand_card.ensures.survives c.hand_card.ensures.stays c.self.invariant.1 clean).1
