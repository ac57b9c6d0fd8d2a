use Rattle.slices.proofs.Words.{◌≡◌, ℕ, ◌++◌, List, subst, ap, ◌∙◌, SqliteFailure, OutOfMemory, opened_by, AreAllLines}
use Rattle.slices.proofs.ReadSteps.{has_read, fails_first, no_room_left, no_room_yet}
use Rattle.slices.proofs.KnowingSteps.{known_told}
use Rattle.slices.proofs.known_change.read_opened_lines.Goals as goal

pub returns-in_err-names-clause-read : goal.returns-in_err-names-clause-read
returns-in_err-names-clause-read g c = no_room_yet (SqliteFailure OutOfMemory) c.from_residual.ensures

pub returns-in_err-lines-clause-read : goal.returns-in_err-lines-clause-read
returns-in_err-lines-clause-read g c = fails_first c.from_residual-in_err-lines.ensures c.in_err-lines.ensures.read

pub returns-in_err-extend_from_slice-clause-read : goal.returns-in_err-extend_from_slice-clause-read
returns-in_err-extend_from_slice-clause-read g c = no_room_left (SqliteFailure OutOfMemory) (has_read c.in_ok-lines.ensures.read) c.from_residual-in_err-extend_from_slice.ensures

pub returns-clause-read : goal.returns-clause-read
returns-clause-read g c =
    let read = c.in_ok-lines.lines.items in
    let names_are : c.as_slice.result.now ≡ opened_by c.args.put.now = c.as_slice.ensures.value ∙ c.in_ok-names.ensures in
    known_told c.in_ok-lines.ensures.read (λ t h. record { read = read; are_read = subst (λ (l : List (List ℕ)). AreAllLines l t read) names_are h; lines = c.in_ok-extend_from_slice.ensures.items ∙ ap (λ l. read ++ l) c.as_slice-2.ensures })
