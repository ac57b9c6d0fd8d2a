use Rattle.slices.proofs.Words.{Vec, Global, state, ReservedRow, AreReservedOfOrder, IsRead, Learning}
use Rattle.slices.proofs.ReadSteps.{then_read, fails_first}
use Rattle.slices.proofs.KnowingSteps.{known_among}
use Rattle.slices.proofs.known_followed.seek_reserved_for.Goals as goal

pub returns-in_err-know_reserved-clause-read : goal.returns-in_err-know_reserved-clause-read
returns-in_err-know_reserved-clause-read g c = fails_first c.from_residual.ensures c.in_err-know_reserved.ensures.read

pub returns-clause-read : goal.returns-clause-read
returns-clause-read g c =
    let mid = c.know_reserved.new.rows in
    let new = record mid { followed = record mid.followed { reserved_for = c.seek_known.new.known } } in
    let two : IsRead {X = Vec ReservedRow Global} (Learning mid new (λ t found. AreReservedOfOrder c.args.order.now t found.items)) (state g.S.Store c.know_reserved.new.tx.conn.now) (state g.S.Store c.seek_known.new.tx.conn.now) c.seek_known.result =
    known_among c.seek_known.ensures.read (λ t all. all.followed.reserved_for) (λ t all one. record { items = all.items; least = all.least; bins = all.bins; recalls = all.recalls; followed = record { lots = all.followed.lots; lots_of = all.followed.lots_of; orders = all.followed.orders; urgents = all.followed.urgents; lines = all.followed.lines; lines_at = all.followed.lines_at; stock = all.followed.stock; staged = all.followed.staged; staged_for = all.followed.staged_for; reserved = all.followed.reserved; reserved_for = one; meta = all.followed.meta } }) in
    then_read c.in_ok-know_reserved.ensures.read two (λ t found knew told known. told (knew known).1)
