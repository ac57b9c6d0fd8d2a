use Rattle.slices.proofs.Words.{true, List, reverse, sym, subst, nat_cmp, slice_cmp, UrgentRow, OrderKey, same_order, urgent_key, AreUrgentsOf, same_text_is, remembers_all}
use Rattle.table_words.specs.Found.{AreRows}
use Rattle.slices.proofs.ReadSteps.{fails_first, so_told}
use Rattle.slices.proofs.KnowsWhole.{rows_of_text}
use Rattle.slices.proofs.known_lists.know_urgents.Goals as goal

pub returns-in_err-found-clause-read : goal.returns-in_err-found-clause-read
returns-in_err-found-clause-read g c = fails_first c.from_residual.ensures c.in_err-found.ensures.read

pub returns-in_ok-found-clause-read : goal.returns-in_ok-found-clause-read
returns-in_ok-found-clause-read g c =
    let rows = c.as_slice.result.now in
    so_told c.in_ok-found.ensures.read
    (λ t found known.
    let are : AreRows {K = OrderKey} same_order urgent_key (λ k. true) t.urgent rows = subst (λ (l : List UrgentRow). AreRows {K = OrderKey} same_order urgent_key (λ k. true) t.urgent l) (sym c.as_slice.ensures.value) found in
    (tt, remembers_all (slice_cmp nat_cmp) reverse (λ by found. AreUrgentsOf by t found) (λ (r : UrgentRow). reverse r.order) rows c.args.urgents.now.rows c.keep_all.new.self.rows c.keep_all.ensures (rows_of_text same_order urgent_key same_text_is (λ k. k) t.urgent rows are) known))
