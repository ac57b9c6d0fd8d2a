use Rattle.slices.proofs.KnowingSteps.{known_among}
use Rattle.slices.proofs.known_goods.seek_least_of.Goals as goal

pub returns-clause-read : goal.returns-clause-read
returns-clause-read g c = known_among c.seek_known.ensures.read (λ t all. all.least) (λ t all one. record { items = all.items; least = one; bins = all.bins; recalls = all.recalls; followed = all.followed })
