use Rattle.slices.proofs.ReadSteps.{fails_first, so_told}
use Rattle.queries.proofs.CardRead.{in_act_order}
use Rattle.queries.proofs.shipped.read_card.Goals as goal

pub returns-in_err-cards-clause-read : goal.returns-in_err-cards-clause-read
returns-in_err-cards-clause-read g c = fails_first c.from_residual.ensures c.in_err-cards.ensures.read

pub returns-clause-read : goal.returns-clause-read
returns-clause-read g c = so_told c.in_ok-cards.ensures.read (λ t h. in_act_order c.args.lot.now t c.in_ok-cards.cards.items h c.sort.new.cards.items c.sort.ensures.permutation c.sort.ensures.sorted)
