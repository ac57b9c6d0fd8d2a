use Rattle.requests.proofs.Words.{rules, table}
use Rattle.matchit.proofs.OnLiterals.{matchit_on_literals}
use Rattle.requests.proofs.routes.add_served.Goals as goal

pub returns : goal.returns
unfolding matchit_on_literals table
returns c = search rules
