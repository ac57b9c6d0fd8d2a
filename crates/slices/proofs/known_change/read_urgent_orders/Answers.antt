use Rattle.slices.proofs.Words.{◌≡◌, ℕ, ◌++◌, List, [], subst, ap, ◌∙◌, LineRow, SqliteFailure, OutOfMemory, with_names, AreUrgents}
use Rattle.slices.proofs.ReadSteps.{has_read, fails_first, no_room_left, no_room_yet}
use Rattle.slices.proofs.KnowingSteps.{known_told}
use Rattle.slices.proofs.known_change.read_urgent_orders.Goals as goal

pub returns-in_err-names-clause-read : goal.returns-in_err-names-clause-read
returns-in_err-names-clause-read g c = no_room_yet (SqliteFailure OutOfMemory) c.from_residual.ensures

pub returns-in_err-urgents-clause-read : goal.returns-in_err-urgents-clause-read
returns-in_err-urgents-clause-read g c = fails_first c.from_residual-in_err-urgents.ensures c.in_err-urgents.ensures.read

pub returns-in_err-extend_from_slice-clause-read : goal.returns-in_err-extend_from_slice-clause-read
returns-in_err-extend_from_slice-clause-read g c = no_room_left (SqliteFailure OutOfMemory) (has_read c.in_ok-urgents.ensures.read) c.from_residual-in_err-extend_from_slice.ensures

pub returns-clause-read : goal.returns-clause-read
returns-clause-read g c =
    let read = c.in_ok-urgents.urgents.items in
    let names_are : c.as_slice.result.now ≡ with_names (λ (r : LineRow). r.order) c.args.lines.now [] = c.as_slice.ensures.value ∙ c.in_ok-names.ensures in
    known_told c.in_ok-urgents.ensures.read (λ t h. record { read = read; are_read = subst (λ (l : List (List ℕ)). AreUrgents l t read) names_are h; urgents = c.in_ok-extend_from_slice.ensures.items ∙ ap (λ l. read ++ l) c.as_slice-2.ensures })
