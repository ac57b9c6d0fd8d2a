use Rattle.books_schema.proofs.Words.{◌≡◌, sym, ap, subst, ◌∙◌, inl, inr, arith, not, IsTrue, Database, state, HasCleanDisk, Store, HasSchema, IsReadyAs}
use Rattle.books_schema.proofs.OpenLemmas.{found_committed, closed_left}
use Rattle.books_schema.proofs.ready_connection.ready.Goals as goal

pub returns-in-Ok-find_open-clause-ready : goal.returns-in-Ok-find_open-clause-ready
returns-in-Ok-find_open-clause-ready g c clean =
    let old = state g.S.Store c.args.conn in
    let same = (c.in-Ok-find_open.ensures.open clean).0 in
    let outside : IsTrue c.is_autocommit-outside.result = c.is_autocommit-outside.ensures.value ∙ ap not c.requires.outside in
    let settled : old.now ≡ old.committed = c.is_autocommit-outside.ensures.settled outside same.was_open in
    let found : HasSchema c.in-Ok.found old.now.schema = subst (HasSchema c.in-Ok.found) c.schema.ensures.value c.in-Ok.ensures.found in
    let ready = found_committed (g.S.Store.view c.args.conn.store) old.now (g.met.S.Orderly.in_order c.args.conn.store same.was_open)
    (c.schema.ensures.live same.was_open).0 (ap (λ (d : Database). d.trees) settled) c.in-Ok.found found in
    subst (λ (d : Database). IsReadyAs c.in-Ok.found d) (sym same.now_is) ready

pub returns-in-Ok-find_open-clause-opens : goal.returns-in-Ok-find_open-clause-opens
returns-in-Ok-find_open-clause-opens g c clean =
    let old = state g.S.Store c.args.conn in
    let same = (c.in-Ok-find_open.ensures.open clean).0 in
    let outside : IsTrue c.is_autocommit-outside.result = c.is_autocommit-outside.ensures.value ∙ ap not c.requires.outside in
    let settled : old.now ≡ old.committed = c.is_autocommit-outside.ensures.settled outside same.was_open in
    record { is_open = same.is_open; clean = same.now_is ∙ settled ∙ sym same.committed_is }

pub returns-in-Ok-find_open-clause-same : goal.returns-in-Ok-find_open-clause-same
returns-in-Ok-find_open-clause-same g c clean =
    let old = state g.S.Store c.args.conn in
    let same = (c.in-Ok-find_open.ensures.open clean).0 in
    let outside : IsTrue c.is_autocommit-outside.result = c.is_autocommit-outside.ensures.value ∙ ap not c.requires.outside in
    let settled : old.now ≡ old.committed = c.is_autocommit-outside.ensures.settled outside same.was_open in
    ap (λ (d : Database). d.trees) (same.now_is ∙ settled)

pub returns-in-Ok-find_open-clause-crash : goal.returns-in-Ok-find_open-clause-crash
returns-in-Ok-find_open-clause-crash g c clean db left =
    let same = (c.in-Ok-find_open.ensures.open clean).0 in
    g.met.S.Store.settled c.find_open.new.conn.store db same.is_open left ∙ ap (λ (d : Database). d.trees) same.committed_is

pub returns-in-Err-find_open-clause-left : goal.returns-in-Err-find_open-clause-left
returns-in-Err-find_open-clause-left g c =
    let tried = c.find_open.ensures in
    closed_left g.S.Store c.args.conn c.find_open.new.conn c.into_store.result tried.clean tried.shield tried.crash c.in-Err-find_open.ensures.failed c.into_store.ensures.undone c.into_store.ensures.quiet

pub returns-in-Err-find_open-clause-cause : goal.returns-in-Err-find_open-clause-cause
returns-in-Err-find_open-clause-cause g c clean up =
    let quiet = c.into_store.ensures.quiet in
    let was : HasCleanDisk (state g.S.Store c.find_open.new.conn) = omega (arith, clean, quiet.clean) in
    elim (c.in-Err-find_open.ensures.cause was up) [ inl memory ↦ inl (ap Store memory) | inr more ↦ inr (omega (arith, more, quiet.counts)) ]
