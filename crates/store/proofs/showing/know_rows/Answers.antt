use Rattle.store.proofs.Words.{subst, Option, IsKnownOf, Known}
use Rattle.store.proofs.KnownShown.{holds_with}
use Rattle.store.proofs.showing.know_rows.Goals as goal

pub returns-in-Some : goal.returns-in-Some
returns-in-Some c t known knows = holds_with c.in-Some.known c.args.rows t (subst (λ (x : Option Known). IsKnownOf x t) c.in-Some.is known) knows
