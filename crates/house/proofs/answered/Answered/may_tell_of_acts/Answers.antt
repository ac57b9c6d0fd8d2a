use Rattle.house.proofs.Words.{sym, ap, subst, ◌∙◌, status_of, bytes_of, TellsNoAct}
use Rattle.house.proofs.OkStatus.{begins_ok}
use Rattle.house.proofs.answered.Answered.may_tell_of_acts.Goals as goal

pub returns-in-Short-clause-yes : goal.returns-in-Short-clause-yes
returns-in-Short-clause-yes c is =
    ap (λ a. status_of (bytes_of a)) c.in-Short.is ∙ ap status_of (sym c.as_bytes.ensures) ∙ (begins_ok c.as_bytes.result.now c.starts_with.result c.starts_with.ensures.value).0 is

pub returns-in-Short-clause-no : goal.returns-in-Short-clause-no
returns-in-Short-clause-no c isnt =
    subst TellsNoAct (sym c.in-Short.is) (λ e. (begins_ok c.as_bytes.result.now c.starts_with.result c.starts_with.ensures.value).1 isnt (ap status_of c.as_bytes.ensures ∙ e))
