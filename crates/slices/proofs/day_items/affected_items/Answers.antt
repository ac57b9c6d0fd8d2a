use Rattle.slices.proofs.Words.{◌∙◌, SqliteFailure, OutOfMemory, items_of_lots, with_staged}
use Rattle.slices.proofs.ReadSteps.{has_read, read_on, and_then, so_told, fails_first, fails_later, no_room_left}
use Rattle.slices.proofs.day_items.affected_items.Goals as goal

pub returns-in_err-meta-clause-read : goal.returns-in_err-meta-clause-read
returns-in_err-meta-clause-read g c = fails_first c.from_residual.ensures c.in_err-meta.ensures.read

pub returns-in_err-ending-clause-read : goal.returns-in_err-ending-clause-read
returns-in_err-ending-clause-read g c = fails_later (has_read c.in_ok-meta.ensures.read) c.from_residual-in_err-ending.ensures c.in_err-ending.ensures.read

pub returns-in_err-staged-clause-read : goal.returns-in_err-staged-clause-read
returns-in_err-staged-clause-read g c = fails_later (read_on (has_read c.in_ok-meta.ensures.read) c.in_ok-ending.ensures.read) c.from_residual-in_err-staged.ensures c.in_err-staged.ensures.read

pub returns-in_err-items_affected-clause-read : goal.returns-in_err-items_affected-clause-read
returns-in_err-items_affected-clause-read g c =
    no_room_left (SqliteFailure OutOfMemory) (read_on (read_on (has_read c.in_ok-meta.ensures.read) c.in_ok-ending.ensures.read) c.in_ok-staged.ensures.read) c.from_residual-in_err-items_affected.ensures

pub returns-clause-read : goal.returns-clause-read
returns-clause-read g c =
    let meta = c.in_ok-meta.meta in
    let ending = c.in_ok-ending.ending.items in
    let staged = c.in_ok-staged.staged.items in
    so_told (and_then (and_then c.in_ok-meta.ensures.read c.in_ok-ending.ensures.read) c.in_ok-staged.ensures.read)
    (λ t h. record {
      meta = meta;
      is_meta = h.0.0;
      ending = ending;
      are_ending = h.0.1;
      staged = staged;
      read = h.1;
      items = c.in_ok-items_affected.ensures ∙ (λ i. with_staged (c.as_slice-2.ensures.value i) (items_of_lots (c.as_slice.ensures.value i)));
    })
