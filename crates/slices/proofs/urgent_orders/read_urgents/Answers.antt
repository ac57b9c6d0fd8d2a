use Rattle.slices.proofs.Words.{◌≡◌, ℕ, List, subst, ap, ◌∙◌, SqliteFailure, OutOfMemory, names_among, names_at, AreUrgents}
use Rattle.slices.proofs.ReadSteps.{no_room_yet}
use Rattle.slices.proofs.KnowingSteps.{known_as}
use Rattle.slices.proofs.urgent_orders.read_urgents.Goals as goal

pub returns-in_err-may_be-clause-read : goal.returns-in_err-may_be-clause-read
returns-in_err-may_be-clause-read g c = no_room_yet (SqliteFailure OutOfMemory) c.from_residual.ensures

pub returns-in_err-names-clause-read : goal.returns-in_err-names-clause-read
returns-in_err-names-clause-read g c = no_room_yet (SqliteFailure OutOfMemory) c.from_residual-in_err-names.ensures

pub returns-clause-read : goal.returns-clause-read
returns-clause-read g c =
    let names_are : c.as_slice-2.result.now ≡ names_among (names_at c.args.known.now c.args.gtins.now) c.args.orders.now =
    c.as_slice-2.ensures.value ∙ c.in_ok-names.ensures ∙ ap (λ l. names_among l c.args.orders.now) (c.as_slice.ensures.value ∙ c.in_ok-may_be.ensures) in
    known_as c.seek_urgents.ensures.read (λ t rows h. subst (λ (l : List (List ℕ)). AreUrgents l t rows.items) names_are h)
