use Rattle.service.proofs.Words.{ap, sym, subst, books_of, IfErr, GoesOnKept, MayStop}
use Rattle.service.proofs.Serving.{goes_on, may_stop, read_or_not, stays}
use Rattle.service.proofs.serve.serve_stream.Goals as goal

pub returns-clause-step : goal.returns-clause-step
returns-clause-step g c clean first acts history holds =
    let at = g.L.Write.contents in
    let keeps = g.K.Keeper.keeps in
    let leaves = g.K.Keeper.leaves in
    let was = books_of c.args.house.now in
    let books = books_of c.serve_one_kept-served.new.self in
    let old = at c.args.log.now in
    let new = at c.serve_one_kept-served.new.log in
    let before = c.args.keeper.now in
    let after = c.serve_one_kept-served.new.keeper in
    let end = c.serve_one_kept-served.result in
    let does = c.serve_one_kept-served.ensures in
    subst (λ e. GoesOnKept g.S.Store keeps leaves first acts was books e old new before after) (sym c.end_answer.ensures)
    (read_or_not end.answered
    (λ read. let s = does.served clean first acts history holds read in goes_on g.S.Store keeps leaves first acts was books old new before after end.kept end.logged _ _ _ s.0 s.1)
    (λ none. let kept = does.unread none in stays g.S.Store keeps leaves first acts was books old new before after end.kept end.logged kept.0 (ap at kept.2) kept.3 kept.4 kept.5))

pub returns-clause-fails : goal.returns-clause-fails
returns-clause-fails g c =
    let end = c.serve_one_kept-served in
    subst (λ r. IfErr r (λ e. MayStop g.K.Keeper.may_fail e)) (sym c.end_answer.ensures) (may_stop g.K.Keeper.may_fail end.result.kept end.result.logged end.ensures.fails)
