use Rattle.slices.proofs.Words.{Vec, Global, List, subst, ◌∙◌, LotId, LotRow, state, SqliteFailure, OutOfMemory, IsRead, AreLotsOf, Learning}
use Rattle.slices.proofs.ReadSteps.{no_room_yet}
use Rattle.slices.proofs.slices.read_lots.Goals as goal

pub returns-in_err-lots-clause-read : goal.returns-in_err-lots-clause-read
returns-in_err-lots-clause-read g c = no_room_yet (SqliteFailure OutOfMemory) c.from_residual.ensures

pub returns-clause-read : goal.returns-clause-read
returns-clause-read g c =
    let old = state g.S.Store c.args.tx.now.conn.now in
    let new = state g.S.Store c.seek_lots.new.tx.conn.now in
    subst (λ (l : List LotId). IsRead {X = Vec LotRow Global} (Learning c.args.rows.now c.seek_lots.new.rows (λ t found. AreLotsOf l t found.items)) old new c.seek_lots.result) (c.as_slice.ensures.value ∙ c.in_ok-lots.ensures) c.seek_lots.ensures.read
