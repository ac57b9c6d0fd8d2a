use Rattle.service.proofs.Words.{refl, inl, Err, sym, subst, IfErr, books_of, Log, told_port, MayEnd}
use Rattle.service.proofs.Serving.{may_end, none_stopped, told_then}
use Rattle.service.proofs.port.serve_port.Goals as goal

pub returns-in-Ok-clause-served : goal.returns-in-Ok-clause-served
returns-in-Ok-clause-served g c clean first acts history holds = (c.serve_kept_if.result, c.end_of.ensures, c.serve_kept_if.ensures.served clean first acts history holds)

pub returns-in-Ok-clause-fails : goal.returns-in-Ok-clause-fails
returns-in-Ok-clause-fails g c = subst (λ e. IfErr e (MayEnd g.K.Keeper.may_fail)) (sym c.end_of.ensures) (may_end g.K.Keeper.may_fail c.serve_kept_if.result c.serve_kept_if.ensures.fails)

pub returns-in-Ok-clause-told : goal.returns-in-Ok-clause-told
returns-in-Ok-clause-told g c = told_then (g.W.Write.contents c.args.out.now) (g.W.Write.contents c.tell_port.new.out) (told_port c.args.port) c.end_of.result c.in-Ok.ensures

pub returns-in-Err-clause-served : goal.returns-in-Err-clause-served
returns-in-Err-clause-served g c clean first acts history holds =
    (Err Log, refl, none_stopped g.S.Store g.K.Keeper.keeps g.K.Keeper.leaves first acts c.args.max (books_of c.args.house.now) c.args.logged (g.L.Write.contents c.args.log.now) c.args.keeper.now history holds)

pub returns-in-Err-clause-fails : goal.returns-in-Err-clause-fails
returns-in-Err-clause-fails g c = inl refl

pub returns-in-Err-clause-told : goal.returns-in-Err-clause-told
returns-in-Err-clause-told g c = c.in-Err.ensures
