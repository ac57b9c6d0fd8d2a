use Rattle.service.proofs.Words.{sym, subst, ◌∙◌, ap, state, HasCleanDisk, HoldsBooks, books_of, IsPortServed}
use Rattle.service.proofs.Serving.{keeps_served}
use Rattle.service.proofs.port.serve_books.Goals as goal

pub returns-clause-served : goal.returns-clause-served
returns-clause-served g c clean first acts history holds only =
    let s = g.S.Store in
    let keeps = g.K.Keeper.keeps in
    let leaves = g.K.Keeper.leaves in
    let at = c.close-2.ensures.same ∙ ap (λ b. b.conn) c.close.ensures in
    let end = c.serve_port-end in
    let after = books_of end.new.house in
    let old = g.L.Write.contents c.args.log.now in
    let new = g.L.Write.contents end.new.log in
    let served = end.ensures.served (subst (λ h. HasCleanDisk (state s h)) at clean) first acts history (subst (HoldsBooks s first acts) (sym c.new-house.ensures) holds) in
    keeps_served s keeps leaves first acts c.args.max c.args.books after c.close-2.result at only c.args.logged end.result old new c.args.keeper.now end.new.keeper
    (subst (λ b. IsPortServed s keeps leaves first acts c.args.max b after c.args.logged end.result old new c.args.keeper.now end.new.keeper) c.new-house.ensures served)

pub returns-clause-fails : goal.returns-clause-fails
returns-clause-fails g c = c.serve_port-end.ensures.fails
