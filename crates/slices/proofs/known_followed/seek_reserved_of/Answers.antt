use Rattle.slices.proofs.Words.{◌≡◌, true, List, sym, subst, bytes_eq, ReservedRow, SqliteFailure, OutOfMemory, same_lot_id, ReservedKey, same_reserved, reserved_key, and_both, AreReservedOf, AreReservedOfOrder}
use Rattle.slices.proofs.ReadSteps.{has_read, so_told, fails_first, no_room_left}
use Rattle.slices.proofs.RowsAmong.{rows_among}
use Rattle.slices.proofs.KeysTold.{same_share_is}
use Rattle.slices.proofs.known_followed.seek_reserved_of.Goals as goal

pub returns-in_err-reserved-clause-read : goal.returns-in_err-reserved-clause-read
returns-in_err-reserved-clause-read g c = fails_first c.from_residual.ensures c.in_err-reserved.ensures.read

pub returns-in_err-own-clause-read : goal.returns-in_err-own-clause-read
returns-in_err-own-clause-read g c = no_room_left (SqliteFailure OutOfMemory) (has_read c.in_ok-reserved.ensures.read) c.from_residual-in_err-own.ensures

pub returns-clause-read : goal.returns-clause-read
returns-clause-read g c =
    let key : ReservedKey = c.args.key.now in
    let within = λ (k : ReservedKey) (e : same_reserved key k ≡ true). (and_both (bytes_eq key.0 k.0) (same_lot_id key.1 k.1) e).0 in
    let own = c.in_ok-own.ensures in
    so_told c.in_ok-reserved.ensures.read
    (λ t h known.
    let told = h known in
    let all : AreReservedOfOrder key.0 t c.as_slice.result.now = subst (λ (rows : List ReservedRow). AreReservedOfOrder key.0 t rows) (sym c.as_slice.ensures.value) told.0 in (
      subst (λ (rows : List ReservedRow). AreReservedOf key t rows) (sym own) (rows_among same_reserved reserved_key same_share_is (λ k. bytes_eq key.0 k.0) (λ k. same_reserved key k) within (λ k. t.reserved k.0 k.1) c.as_slice.result.now all),
      told.1,
    ))
