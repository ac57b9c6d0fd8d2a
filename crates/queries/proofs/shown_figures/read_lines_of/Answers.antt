use Rattle.queries.proofs.Words.{◌≡◌, ℕ, List, map, subst, ◌∙◌, SqliteFailure, OutOfMemory, order_key, AreAllLines, no_room_yet, known_as}
use Rattle.queries.proofs.shown_figures.read_lines_of.Goals as goal

pub returns-in_err-names-clause-read : goal.returns-in_err-names-clause-read
returns-in_err-names-clause-read g c = no_room_yet (SqliteFailure OutOfMemory) c.from_residual.ensures

pub returns-clause-read : goal.returns-clause-read
returns-clause-read g c =
    let names_are : c.as_slice.result.now ≡ map order_key c.args.orders.now = c.as_slice.ensures.value ∙ c.in_ok-names.ensures in
    known_as c.seek_lines.ensures.read (λ t rows h. subst (λ (l : List (List ℕ)). AreAllLines l t rows.items) names_are h)
