use Rattle.texts.proofs.Words.{◌≡◌, Some, ap, sym, ◌∙◌, IfOk-weaker, same_Some, spelling}
use Rattle.texts.proofs.Again.{spelled_again}
use Rattle.texts.proofs.spelled.parse.Goals as goal

pub returns-in-Some-clause-every : goal.returns-in-Some-clause-every
returns-in-Some-clause-every c = IfOk-weaker c.kept.result _ _ (λ found own. λ command sound is.
    let read : Some c.in-Some.command ≡ Some command = sym c.in-Some.is ∙ c.in_ok-command.ensures ∙ spelled_again c.args.text.now command sound is in
    let same = same_Some c.in-Some.command command read in
    own (is ∙ ap spelling (sym same)) ∙ read) c.kept.ensures.own

pub returns-in-None-clause-every : goal.returns-in-None-clause-every
returns-in-None-clause-every c = λ command sound is. sym c.in-None.is ∙ c.in_ok-command.ensures ∙ spelled_again c.args.text.now command sound is
