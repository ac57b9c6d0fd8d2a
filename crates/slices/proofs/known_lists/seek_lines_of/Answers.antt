use Rattle.slices.proofs.KnowingSteps.{known_among}
use Rattle.slices.proofs.known_lists.seek_lines_of.Goals as goal

pub returns-clause-read : goal.returns-clause-read
returns-clause-read g c = known_among c.seek_known.ensures.read (λ t all. all.followed.lines) (λ t all one. record { items = all.items; least = all.least; bins = all.bins; recalls = all.recalls; followed = record { lots = all.followed.lots; lots_of = all.followed.lots_of; orders = all.followed.orders; urgents = all.followed.urgents; lines = one; lines_at = all.followed.lines_at; stock = all.followed.stock; staged = all.followed.staged; staged_for = all.followed.staged_for; reserved = all.followed.reserved; reserved_for = all.followed.reserved_for; meta = all.followed.meta } })
