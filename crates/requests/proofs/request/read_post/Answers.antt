use Rattle.requests.proofs.Words.{◌∙◌, ap, sym, Some, None, Err, IfOk-weaker, IfErr-weaker, view}
use Rattle.requests.proofs.Asked.{with_json}
use Rattle.requests.proofs.request.read_post.Goals as goal

pub returns-clause-ok : goal.returns-clause-ok
returns-clause-ok c =
    IfOk-weaker c.body_of.result _ _
    (λ a h. with_json c.args.route c.args.body.now (view c.in_ok-value.value) (Some a) c.in_default.not-GoodsIn c.in_ok-value.ensures.ok h)
    c.body_of.ensures.ok

pub returns-clause-err : goal.returns-clause-err
returns-clause-err c =
    IfErr-weaker c.body_of.result _ _
    (λ e h m. with_json c.args.route c.args.body.now (view c.in_ok-value.value) None c.in_default.not-GoodsIn c.in_ok-value.ensures.ok (h m).1
    ∙ ap Err (sym (h m).0))
    c.body_of.ensures.err
