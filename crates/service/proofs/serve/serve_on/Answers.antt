use Rattle.service.proofs.serve.serve_on.Goals as goal

pub returns-clause-served : goal.returns-clause-served
returns-clause-served g c clean first acts history holds = (c.serve_logged.ensures.served clean first acts history holds).0
