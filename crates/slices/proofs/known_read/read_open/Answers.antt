use Rattle.slices.proofs.Words.{true, ◌&&◌, List, reverse, sym, subst, ◌∙◌, nat_cmp, slice_cmp, OrderRow, OrderKey, same_order, order_key, is_open_order, only_if, is_passed, AreOrdersOf, names_told, names_exact}
use Rattle.table_words.specs.Found as read
use Rattle.slices.proofs.ReadSteps.{fails_first, so_told}
use Rattle.slices.proofs.KeysTold.{same_text_is, same_text_refl}
use Rattle.slices.proofs.KnowsEach.{remembers_each, rows_alone}
use Rattle.slices.proofs.RowsTold.{rows_read, rows_passed}
use Rattle.slices.proofs.known_read.read_open.Goals as goal

pub returns-in_err-orders-clause-read : goal.returns-in_err-orders-clause-read
returns-in_err-orders-clause-read g c = fails_first c.from_residual.ensures c.in_err-orders.ensures.read

pub returns-clause-read : goal.returns-clause-read
returns-clause-read g c =
    let rows = c.as_slice.result.now in
    let old = c.args.rows.now.followed.orders.rows in
    let new = c.keep_each.new.known.rows in
    so_told c.in_ok-orders.ensures.read
    (λ t all known.
    let are : read.AreRows {K = OrderKey} same_order order_key (λ k. true) (λ k. only_if is_open_order (t.order k)) rows = subst (λ (l : List OrderRow). read.AreRows {K = OrderKey} same_order order_key (λ k. true) (λ k. only_if is_open_order (t.order k)) l) (sym c.as_slice.ensures.value) all in
    let open_rows = rows_passed {K = OrderKey} same_order order_key same_text_is same_text_refl is_open_order (λ k. true) (λ k. true) t.order rows (rows_read {K = OrderKey} same_order order_key same_text_is same_text_refl (λ k. true) (λ k. only_if is_open_order (t.order k)) rows are) in
    let orders = remembers_each (slice_cmp nat_cmp) reverse (λ x y e. names_exact x y (sym (names_told x y) ∙ e)) (λ by found. AreOrdersOf by t found) (λ (r : OrderRow). r.order) rows old new c.keep_each.ensures (rows_alone {K = OrderKey} same_order order_key same_text_is same_text_refl t.order (λ k. true && is_passed is_open_order (t.order k)) rows open_rows.own) known.followed.orders in (
      all,
      record { items = known.items; least = known.least; bins = known.bins; recalls = known.recalls; followed = record { lots = known.followed.lots; lots_of = known.followed.lots_of; orders = orders; urgents = known.followed.urgents; lines = known.followed.lines; lines_at = known.followed.lines_at; stock = known.followed.stock; staged = known.followed.staged; staged_for = known.followed.staged_for; reserved = known.followed.reserved; reserved_for = known.followed.reserved_for; meta = known.followed.meta } },
    ))
