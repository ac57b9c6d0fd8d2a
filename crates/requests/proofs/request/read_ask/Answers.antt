use Rattle.requests.proofs.Words.{◌≡◌, ◌∙◌, ap, sym, true, bytes_eq, not-false, IfOk-weaker, IfErr-weaker, method_name, read_ask, read_route}
use Rattle.requests.proofs.Asked.{with_route}
use Rattle.requests.proofs.request.read_ask.Goals as goal

-- the method is the route's
by_route : (c : goal.After-read_route) → read_ask c.args.method.now c.args.target.now c.args.body.now ≡ read_route c.in_ok-route.route c.args.target.now c.args.body.now
by_route c =
    let spelled = c.as_bytes.ensures.value ∙ c.name.ensures.name ∙ ap method_name c.method_of-wanted.ensures in
    let same = ap (bytes_eq c.args.method.now) (sym spelled) ∙ not-false _ (sym c.ne.ensures ∙ c.if-ne.false) in
    with_route c.args.method.now c.args.target.now c.args.body.now c.in_ok-route.route true c.in_ok-route.ensures.ok same

pub returns-clause-ok : goal.returns-clause-ok
returns-clause-ok c = IfOk-weaker c.read_route.result _ _ (λ a h. by_route c ∙ h) c.read_route.ensures.ok

pub returns-clause-err : goal.returns-clause-err
returns-clause-err c = IfErr-weaker c.read_route.result _ _ (λ e h m. by_route c ∙ h m) c.read_route.ensures.err
