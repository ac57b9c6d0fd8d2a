use Rattle.queries.proofs.Words.{◌≡◌, List, refl, ap, subst, ◌∙◌, LotRow, SqliteFailure, OutOfMemory, page, items_of_lots, lots_and_more, has_read, read_on, fails_first, fails_later, no_room_left, and_known, known_told, AreOfItems}
use Rattle.queries.proofs.shown_expiring.read_expiring.Goals as goal

pub returns-in_err-house-clause-read : goal.returns-in_err-house-clause-read
returns-in_err-house-clause-read g c = fails_first c.from_residual.ensures c.in_err-house.ensures.read

pub returns-in_err-page-clause-read : goal.returns-in_err-page-clause-read
returns-in_err-page-clause-read g c = no_room_left (SqliteFailure OutOfMemory) (has_read c.in_ok-house.ensures.read) c.from_residual-in_err-page.ensures

pub returns-in_err-items-clause-read : goal.returns-in_err-items-clause-read
returns-in_err-items-clause-read g c = fails_later (has_read c.in_ok-house.ensures.read) c.from_residual-in_err-items.ensures c.in_err-items.ensures.read

pub returns-in_err-meta-clause-read : goal.returns-in_err-meta-clause-read
returns-in_err-meta-clause-read g c = fails_later (read_on (has_read c.in_ok-house.ensures.read) c.in_ok-items.ensures.read) c.from_residual-in_err-meta.ensures c.in_err-meta.ensures.read

pub returns-clause-read : goal.returns-clause-read
returns-clause-read g c =
    let house = c.in_ok-house.house in
    let made = c.with_house.ensures in
    let paged : c.page_of.result.now ≡ page c.in_ok-page.page.items = c.page_of.ensures ∙ ap page c.as_slice-4.ensures.value in
    known_told (and_known (and_known c.in_ok-house.ensures.read c.in_ok-items.ensures.read) c.in_ok-meta.ensures.read)
    (λ t h. record {
      lots = house.lots.items;
      house = rw (made.same_stock, made.same_staged) h.0.0;
      is_page = c.in_ok-page.ensures.seen ∙ (λ i. lots_and_more c.args.day c.args.seen (c.as_slice-2.ensures.value i) (c.as_slice-3.ensures.value i) (c.as_slice.ensures.value i))
          ∙ rw (made.same_stock, made.same_staged) refl;
      of_items = rw (made.same_items, made.same_least, made.same_recalls, made.same_reserved) (subst (λ (l : List LotRow). AreOfItems (items_of_lots l) t c.in_ok-items.items.items.items c.in_ok-items.items.least.items c.in_ok-items.items.recalls.items c.in_ok-items.items.reserved.items) paged h.0.1);
      is_meta = h.1;
    })
