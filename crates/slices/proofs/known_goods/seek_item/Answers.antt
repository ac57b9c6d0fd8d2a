use Rattle.slices.proofs.KnowingSteps.{known_among}
use Rattle.slices.proofs.known_goods.seek_item.Goals as goal

pub returns-clause-read : goal.returns-clause-read
returns-clause-read g c = known_among c.seek_known.ensures.read (λ t all. all.items) (λ t all one. record { items = one; least = all.least; bins = all.bins; recalls = all.recalls; followed = all.followed })
