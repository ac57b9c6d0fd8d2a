use Rattle.store.proofs.Words.{ap, ◌∙◌, unwrap_or}
use Rattle.store.proofs.DayTold.{day_named}
use Rattle.store.proofs.day.day_after.Goals as goal

pub returns : goal.returns
returns c = c.unwrap_or.ensures ∙ ap (λ d. unwrap_or d c.args.day) c.names.ensures.day ∙ day_named c.args.command.now c.args.day
