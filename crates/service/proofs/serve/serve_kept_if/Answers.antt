use Rattle.std.proofs.Common.{refl}
use Rattle.service.proofs.serve.serve_kept_if.Goals as goal

pub returns-then-logged-clause-served : goal.returns-then-logged-clause-served
returns-then-logged-clause-served g c clean first acts history holds =
    let r = c.serve_kept.ensures.served clean first acts history holds in
    ((r.0.0, λ asked. r.0.1 refl), r.1)

pub returns-else-logged-clause-served : goal.returns-else-logged-clause-served
returns-else-logged-clause-served g c clean first acts history holds =
    let r = c.serve_kept-else-logged.ensures.served clean first acts history holds in
    ((r.0.0, λ asked. absurd cc), r.1)
