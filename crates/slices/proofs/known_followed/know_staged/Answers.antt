use Rattle.slices.proofs.Words.{true, List, reverse, sym, subst, nat_cmp, slice_cmp, StagedRow, same_staged, staged_key, AreStagedOfItem, AreStagedOfOrder, remembers_all}
use Rattle.table_words.specs.Found.{AreRows}
use Rattle.slices.proofs.ReadSteps.{fails_first, so_told}
use Rattle.slices.proofs.KnowsWhole.{rows_of_text}
use Rattle.slices.proofs.KeysTold.{same_share_is}
use Rattle.slices.proofs.known_followed.know_staged.Goals as goal

pub returns-in_err-found-clause-read : goal.returns-in_err-found-clause-read
returns-in_err-found-clause-read g c = fails_first c.from_residual.ensures c.in_err-found.ensures.read

pub returns-in_ok-found-clause-read : goal.returns-in_ok-found-clause-read
returns-in_ok-found-clause-read g c =
    let rows = c.as_slice-all.result.now in
    let old = c.args.rows.now.followed in
    so_told c.in_ok-found.ensures.read
    (λ t found known.
    let are : AreRows same_staged staged_key (λ k. true) (λ k. t.staged k.0 k.1) rows = subst (λ (l : List StagedRow). AreRows same_staged staged_key (λ k. true) (λ k. t.staged k.0 k.1) l) (sym c.as_slice-all.ensures.value) found in
    let by_item = remembers_all (slice_cmp nat_cmp) reverse (λ by found. AreStagedOfItem by t found) (λ (r : StagedRow). reverse r.lot.gtin) rows old.staged.rows c.keep_all.new.self.rows c.keep_all.ensures (rows_of_text same_staged staged_key same_share_is (λ k. k.1.gtin) (λ k. t.staged k.0 k.1) rows are) known.followed.staged in
    let by_order = remembers_all (slice_cmp nat_cmp) reverse (λ by found. AreStagedOfOrder by t found) (λ (r : StagedRow). reverse r.order) rows old.staged_for.rows c.keep_all-then-is_wanted.new.self.rows c.keep_all-then-is_wanted.ensures (rows_of_text same_staged staged_key same_share_is (λ k. k.0) (λ k. t.staged k.0 k.1) rows are) known.followed.staged_for in (
      tt,
      record { items = known.items; least = known.least; bins = known.bins; recalls = known.recalls; followed = record { lots = known.followed.lots; lots_of = known.followed.lots_of; orders = known.followed.orders; urgents = known.followed.urgents; lines = known.followed.lines; lines_at = known.followed.lines_at; stock = known.followed.stock; staged = by_item; staged_for = by_order; reserved = known.followed.reserved; reserved_for = known.followed.reserved_for; meta = known.followed.meta } },
    ))
