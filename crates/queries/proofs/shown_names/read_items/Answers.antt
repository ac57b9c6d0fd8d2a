use Rattle.queries.proofs.Words.{ap, ◌∙◌, SqliteFailure, OutOfMemory, items_and_more, has_read, fails_first, no_room_left, so_told}
use Rattle.queries.proofs.shown_names.read_items.Goals as goal

pub returns-in_err-items-clause-read : goal.returns-in_err-items-clause-read
returns-in_err-items-clause-read g c = fails_first c.from_residual.ensures c.in_err-items.ensures.read

pub returns-in_err-page-clause-read : goal.returns-in_err-page-clause-read
returns-in_err-page-clause-read g c = no_room_left (SqliteFailure OutOfMemory) (has_read c.in_ok-items.ensures.read) c.from_residual-in_err-page.ensures

pub returns-clause-read : goal.returns-clause-read
returns-clause-read g c =
    so_told c.in_ok-items.ensures.read
    (λ t h. record {
      items = c.in_ok-items.items.items;
      read = h;
      is = c.in_ok-page.ensures.seen ∙ ap (items_and_more c.args.seen) c.as_slice.ensures.value;
    })
