use Rattle.whole_tables.proofs.Words.{◌≡◌, true, sym, subst, AllByRecursion, IsPlain, state, understood, on_ok_if, if_ok, if_err, reads, typed_are, AreAll}
use Rattle.whole_tables.proofs.Wholes.{whole_query, whole_laws, all_kept}
use Rattle.whole_tables.proofs.entire.all_rows.Goals as goal

pub returns-clause-finds : goal.returns-clause-finds
returns-clause-finds g c =
    let d = g.T.Table.table in
    let laws = g.met.T.Table.laws in
    let text = g.T.Entire.whole in
    let is = g.met.T.Entire.whole_laws in
    let q = whole_query d text in
    let it = whole_laws d laws text is in
    let old = state g.S.Store c.args.tx.now.conn.now in
    let new = state g.S.Store c.query_rows.new.tx.conn.now in
    let r = c.query_rows.result in
    let stored = all_kept (old.now.trees d.layout.tree) in
    let h = rw c.whole_text.ensures at c.query_rows.ensures.queried in
    record {
      rows = λ clean ready. if_ok r _ _ (h.rows clean) (λ found s. reads d laws q (λ by. AreAll d) it tt old new s.rows ready s.shown found.items s.typed s.read_as);
      typed = λ clean ready. on_ok_if r _ (h.rows clean) (λ found s. subst (AllByRecursion (λ r. d.is r ≡ true)) stored ((typed_are d laws q (λ by. AreAll d) it tt old new s.rows ready s.shown).1 s.typed));
      foreign = λ clean ready. if_err r _ _ (h.foreign clean) (λ e shows is are. let s = shows is in s.untyped ((typed_are d laws q (λ by. AreAll d) it tt old new s.rows ready s.shown).0 (subst (AllByRecursion (λ r. d.is r ≡ true)) (sym stored) are)));
      same = λ clean ready. h.same clean (subst (λ s. IsPlain (understood s text)) (sym ready.has.is) (is ready.has.rest).2);
      refused = λ clean ready. h.refused clean (subst (λ s. IsPlain (understood s text)) (sym ready.has.is) (is ready.has.rest).2) ready;
      kept = λ clean ready. h.kept clean (subst (λ s. IsPlain (understood s text)) (sym ready.has.is) (is ready.has.rest).2);
      survives = h.survives;
    }
