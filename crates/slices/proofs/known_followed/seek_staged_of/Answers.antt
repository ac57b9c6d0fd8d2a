use Rattle.slices.proofs.Words.{◌≡◌, true, List, sym, subst, bytes_eq, StagedRow, SqliteFailure, OutOfMemory, same_lot_id, StagedKey, same_staged, staged_key, and_both, AreStagedOf, AreStagedOfOrder}
use Rattle.slices.proofs.ReadSteps.{has_read, so_told, fails_first, no_room_left}
use Rattle.slices.proofs.RowsAmong.{rows_among}
use Rattle.slices.proofs.KeysTold.{same_share_is}
use Rattle.slices.proofs.known_followed.seek_staged_of.Goals as goal

pub returns-in_err-stage-clause-read : goal.returns-in_err-stage-clause-read
returns-in_err-stage-clause-read g c = fails_first c.from_residual.ensures c.in_err-stage.ensures.read

pub returns-in_err-own-clause-read : goal.returns-in_err-own-clause-read
returns-in_err-own-clause-read g c = no_room_left (SqliteFailure OutOfMemory) (has_read c.in_ok-stage.ensures.read) c.from_residual-in_err-own.ensures

pub returns-clause-read : goal.returns-clause-read
returns-clause-read g c =
    let key : StagedKey = c.args.key.now in
    let within = λ (k : StagedKey) (e : same_staged key k ≡ true). (and_both (bytes_eq key.0 k.0) (same_lot_id key.1 k.1) e).0 in
    let own = c.in_ok-own.ensures in
    so_told c.in_ok-stage.ensures.read
    (λ t h known.
    let told = h known in
    let all : AreStagedOfOrder key.0 t c.as_slice.result.now = subst (λ (rows : List StagedRow). AreStagedOfOrder key.0 t rows) (sym c.as_slice.ensures.value) told.0 in (
      subst (λ (rows : List StagedRow). AreStagedOf key t rows) (sym own) (rows_among same_staged staged_key same_share_is (λ k. bytes_eq key.0 k.0) (λ k. same_staged key k) within (λ k. t.staged k.0 k.1) c.as_slice.result.now all),
      told.1,
    ))
