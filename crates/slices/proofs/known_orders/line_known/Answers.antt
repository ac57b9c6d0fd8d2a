use Rattle.slices.proofs.Words.{◌≡◌, List, Option, sym, ap, subst, ◌∙◌, slice_get, IfSome, LineRow, state, LineKey, same_line, line_key, first_row, itself_both, itself_bytes, AreLineOf, Learning}
use Rattle.slices.proofs.ReadSteps.{read_none, fails_first}
use Rattle.slices.proofs.KnowingSteps.{known_told}
use Rattle.slices.proofs.known_orders.line_known.Goals as goal

pub returns-in-Some-clause-read : goal.returns-in-Some-clause-read
returns-in-Some-clause-read g c =
    let key : LineKey = (c.args.order.now, c.args.gtin.now) in
    let known = c.in-Some.known.now in
    let first_is : c.copied.result ≡ slice_get known 0 = c.copied.ensures ∙ c.first.ensures.value in
    read_none {X = Option LineRow} (Learning c.args.rows.now c.args.rows.now (λ t row. row ≡ t.line key.0 key.1)) (state g.S.Store c.args.tx.now.conn.now) c.copied.result
    (λ t knows.
    let are : AreLineOf key t known = subst (λ (x : Option (List LineRow)). IfSome x (AreLineOf key t)) (sym c.in-Some.ensures) (knows.followed.lines_at key) in
    (first_is ∙ first_row {K = LineKey} same_line line_key key (λ k. t.line k.0 k.1) known (itself_both _ _ (itself_bytes key.0) (itself_bytes key.1)) are, knows))

pub returns-in_err-found-clause-read : goal.returns-in_err-found-clause-read
returns-in_err-found-clause-read g c = fails_first c.from_residual.ensures c.in_err-found.ensures.read

pub returns-clause-read : goal.returns-clause-read
returns-clause-read g c =
    let key : LineKey = (c.args.order.now, c.args.gtin.now) in
    let found = c.in_ok-found.found.items in
    let first_is : c.copied-2.result ≡ slice_get found 0 = c.copied-2.ensures ∙ c.first-2.ensures.value ∙ ap (λ l. slice_get l 0) c.as_slice.ensures.value in
    known_told c.in_ok-found.ensures.read (λ t h. first_is ∙ first_row {K = LineKey} same_line line_key key (λ k. t.line k.0 k.1) found (itself_both _ _ (itself_bytes key.0) (itself_bytes key.1)) h)
