use Rattle.service.proofs.Words.{true, books_of}
use Rattle.service.proofs.Serving.{log_alone}
use Rattle.service.proofs.serve.serve_logged.Goals as goal

pub returns-in-Ok-clause-served : goal.returns-in-Ok-clause-served
returns-in-Ok-clause-served g c clean first acts history holds = (c.in-Ok.ensures.served clean first acts history holds).0

pub returns-in-Err-clause-served : goal.returns-in-Err-clause-served
returns-in-Err-clause-served g c clean first acts history holds =
    log_alone g.S.Store first acts c.args.max (books_of c.args.house.now) (books_of c.serve_kept.new.house) true c.in-Err.field-0 (g.L.Write.contents c.args.log.now) (g.L.Write.contents c.serve_kept.new.log) c.in-Err.ensures.fails
    (c.in-Err.ensures.served clean first acts history holds).0
