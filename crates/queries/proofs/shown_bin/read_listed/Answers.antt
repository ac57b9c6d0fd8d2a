use Rattle.queries.proofs.Words.{◌≡◌, List, refl, ap, subst, ◌∙◌, LotRow, SqliteFailure, OutOfMemory, page, items_of_lots, bin_and_more, has_read, read_on, fails_first, fails_later, no_room_left, and_known, known_told, AreOfGoods}
use Rattle.queries.proofs.shown_bin.read_listed.Goals as goal

pub returns-in_err-found-clause-read : goal.returns-in_err-found-clause-read
returns-in_err-found-clause-read g c = fails_first c.from_residual.ensures c.in_err-found.ensures.read

pub returns-in_err-page-clause-read : goal.returns-in_err-page-clause-read
returns-in_err-page-clause-read g c = no_room_left (SqliteFailure OutOfMemory) (has_read c.in_ok-found.ensures.read) c.from_residual-in_err-page.ensures

pub returns-in_err-goods-clause-read : goal.returns-in_err-goods-clause-read
returns-in_err-goods-clause-read g c = fails_later (has_read c.in_ok-found.ensures.read) c.from_residual-in_err-goods.ensures c.in_err-goods.ensures.read

pub returns-in_err-meta-clause-read : goal.returns-in_err-meta-clause-read
returns-in_err-meta-clause-read g c = fails_later (read_on (has_read c.in_ok-found.ensures.read) c.in_ok-goods.ensures.read) c.from_residual-in_err-meta.ensures c.in_err-meta.ensures.read

pub returns-clause-read : goal.returns-clause-read
returns-clause-read g c =
    let in_bin = c.in_ok-found.found in
    let made = c.with_stock.ensures in
    let goods = c.in_ok-goods.goods in
    let paged : c.page_of.result.now ≡ page c.in_ok-page.page.items = c.page_of.ensures ∙ ap page c.as_slice-3.ensures.value in
    known_told (and_known (and_known c.in_ok-found.ensures.read c.in_ok-goods.ensures.read) c.in_ok-meta.ensures.read)
    (λ t h. record {
      lots = in_bin.lots.items;
      in_bin = rw (made.same_stock) h.0.0;
      is_page = c.in_ok-page.ensures.seen ∙ (λ i. bin_and_more c.args.bin.now c.args.seen (c.as_slice-2.ensures.value i) (c.as_slice.ensures.value i)) ∙ rw (made.same_stock) refl;
      of_goods = rw (made.same_items, made.same_least, made.same_recalls) (subst (λ (l : List LotRow). AreOfGoods (items_of_lots l) t goods.items.items goods.least.items goods.recalls.items) paged h.0.1);
      is_meta = h.1;
    })
