use Rattle.slices.proofs.Words.{ℕ, List, subst, ◌∙◌, StagedRow, AreLotsOf, orders_named, held_lots, AreStaged, AreGoods, AreKnownOrders, AreUrgentsFor}
use Rattle.slices.proofs.ReadSteps.{has_read, read_on, fails_first, fails_later}
use Rattle.slices.proofs.KnowingSteps.{and_known, known_told}
use Rattle.slices.proofs.slices.read_planned.Goals as goal

pub returns-in_err-gtins-clause-read : goal.returns-in_err-gtins-clause-read
returns-in_err-gtins-clause-read g c = fails_first c.from_residual.ensures c.in_err-gtins.ensures.read

pub returns-in_err-staged-clause-read : goal.returns-in_err-staged-clause-read
returns-in_err-staged-clause-read g c = fails_later (has_read c.in_ok-gtins.ensures.read) c.from_residual-in_err-staged.ensures c.in_err-staged.ensures.read

pub returns-in_err-goods-clause-read : goal.returns-in_err-goods-clause-read
returns-in_err-goods-clause-read g c = fails_later (read_on (has_read c.in_ok-gtins.ensures.read) c.in_ok-staged.ensures.read) c.from_residual-in_err-goods.ensures c.in_err-goods.ensures.read

pub returns-in_err-ordered-clause-read : goal.returns-in_err-ordered-clause-read
returns-in_err-ordered-clause-read g c = fails_later (read_on (read_on (has_read c.in_ok-gtins.ensures.read) c.in_ok-staged.ensures.read) c.in_ok-goods.ensures.read) c.from_residual-in_err-ordered.ensures c.in_err-ordered.ensures.read

pub returns-clause-read : goal.returns-clause-read
returns-clause-read g c =
    let command = c.args.command.now in
    let known = c.args.known.now in
    let goods = c.in_ok-goods.goods in
    let ordered = c.in_ok-ordered.ordered in
    let made = c.rows_read.ensures in
    known_told (and_known (and_known (and_known c.in_ok-gtins.ensures.read c.in_ok-staged.ensures.read) c.in_ok-goods.ensures.read) c.in_ok-ordered.ensures.read)
    (λ t h. record {
      gtins = c.in_ok-gtins.gtins.items;
      touched = h.0.0.0;
      goods = rw (made.same_items, made.same_least, made.same_recalls, made.same_stock)
          (subst (λ (l : List (List ℕ)). AreGoods l t goods.items.items goods.least.items goods.recalls.items goods.stock.items) c.as_slice-2.ensures.value h.0.1.0);
      staged = rw made.same_staged (subst (λ (l : List (List ℕ)). AreStaged l t c.in_ok-staged.staged.items) c.as_slice.ensures.value h.0.0.1);
      lots = rw (made.same_stock, made.same_staged, made.same_lots) (subst (λ (l : List StagedRow). AreLotsOf (held_lots command goods.stock.items l) t goods.lots.items) c.as_slice-3.ensures.value h.0.1.1);
      bins = rw (made.same_stock, made.same_bins) h.0.1.2;
      ordered = rw (made.same_orders, made.same_lines)
          (subst (λ (l : List (List ℕ)). AreKnownOrders known.lines (orders_named command) l t ordered.orders.items ordered.lines.items) c.as_slice-4.ensures.value h.1.0);
      urgents = rw (made.same_orders, made.same_urgents)
          (subst (λ (l : List (List ℕ)). AreUrgentsFor known.urgent l ordered.orders.items t ordered.urgents.items) c.as_slice-4.ensures.value h.1.1);
      no_reserved = made.same_reserved ∙ c.new.ensures.items;
    })
