use Rattle.queries.proofs.Words.{◌≡◌, ℕ, List, [], subst, ◌∙◌, LineRow, SqliteFailure, OutOfMemory, AreItemRows, with_names, no_room_yet, known_as}
use Rattle.queries.proofs.shown_picks.read_line_items.Goals as goal

pub returns-in_err-gtins-clause-read : goal.returns-in_err-gtins-clause-read
returns-in_err-gtins-clause-read g c = no_room_yet (SqliteFailure OutOfMemory) c.from_residual.ensures

pub returns-clause-read : goal.returns-clause-read
returns-clause-read g c =
    let named : c.as_slice.result.now ≡ with_names {X = LineRow} (λ r. r.gtin) c.args.lines.now [] = c.as_slice.ensures.value ∙ c.in_ok-gtins.ensures in
    known_as c.seek_items.ensures.read (λ t found h. subst (λ (l : List (List ℕ)). AreItemRows l t found.items) named h)
