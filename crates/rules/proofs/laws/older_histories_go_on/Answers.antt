use Rattle.rules.proofs.OlderLimits.{today_is_newest, limits_may_grow, older_histories_go_on}
use Rattle.rules.proofs.laws.older_histories_go_on.Goals as goal

pub returns : goal.returns
returns c = record { newest = today_is_newest; grow = limits_may_grow; older = older_histories_go_on }
