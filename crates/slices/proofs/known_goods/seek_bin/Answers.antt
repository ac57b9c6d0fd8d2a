use Rattle.slices.proofs.KnowingSteps.{known_among}
use Rattle.slices.proofs.known_goods.seek_bin.Goals as goal

pub returns-clause-read : goal.returns-clause-read
returns-clause-read g c = known_among c.seek_known.ensures.read (λ t all. all.bins) (λ t all one. record { items = all.items; least = all.least; bins = one; recalls = all.recalls; followed = all.followed })
