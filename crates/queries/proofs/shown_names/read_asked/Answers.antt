use Rattle.queries.proofs.Words.{◌≡◌, ℕ, List, subst, ◌∙◌, SqliteFailure, OutOfMemory, AreLeast, no_room_yet, known_as, gtins_of}
use Rattle.queries.proofs.shown_names.read_asked.Goals as goal

pub returns-in_err-gtins-clause-read : goal.returns-in_err-gtins-clause-read
returns-in_err-gtins-clause-read g c = no_room_yet (SqliteFailure OutOfMemory) c.from_residual.ensures

pub returns-clause-read : goal.returns-clause-read
returns-clause-read g c =
    let gtins_are : c.as_slice.result.now ≡ gtins_of c.args.items.now = c.as_slice.ensures.value ∙ c.in_ok-gtins.ensures in
    known_as c.seek_least.ensures.read (λ t rows h. subst (λ (l : List (List ℕ)). AreLeast l t rows.items) gtins_are h)
