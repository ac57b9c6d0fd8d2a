use Rattle.queries.proofs.Words.{◌≡◌, List, subst, ◌∙◌, LotId, SqliteFailure, OutOfMemory, AreLotsOf, no_room_yet, known_as, lots_of_stock}
use Rattle.queries.proofs.shown_bin.read_lots_of.Goals as goal

pub returns-in_err-lots-clause-read : goal.returns-in_err-lots-clause-read
returns-in_err-lots-clause-read g c = no_room_yet (SqliteFailure OutOfMemory) c.from_residual.ensures

pub returns-clause-read : goal.returns-clause-read
returns-clause-read g c =
    let named : c.as_slice.result.now ≡ lots_of_stock c.args.stock.now = c.as_slice.ensures.value ∙ c.in_ok-lots.ensures in
    known_as c.seek_lots.ensures.read (λ t found h. subst (λ (ls : List LotId). AreLotsOf ls t found.items) named h)
