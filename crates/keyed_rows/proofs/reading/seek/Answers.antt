use Rattle.keyed_rows.proofs.Words.{sym, subst, IsPlain, state, understood, on_ok_if, if_ok, if_err}
use Rattle.keyed_rows.proofs.Laws.{reads, typed_are}
use Rattle.keyed_rows.proofs.reading.seek.Goals as goal

pub returns-clause-finds : goal.returns-clause-finds
returns-clause-finds g c =
    let d = g.T.Table.table in
    let q = g.T.Sought.query in
    let laws = g.met.T.Table.laws in
    let it = g.met.T.Sought.query_laws in
    let old = state g.S.Store c.args.tx.now.conn.now in
    let new = state g.S.Store c.run_query.new.tx.conn.now in
    let r = c.run_query.result in
    let h = rw c.query_text.ensures at c.run_query.ensures.queried in
    record {
      rows = λ clean ready. if_ok r _ _ (h.rows clean) (λ found s. reads d laws q g.T.Sought.are_of it c.args.by.now old new s.rows ready s.shown found.items s.typed s.read_as);
      typed = λ clean ready. on_ok_if r _ (h.rows clean) (λ found s. (typed_are d laws q g.T.Sought.are_of it c.args.by.now old new s.rows ready s.shown).1 s.typed);
      foreign = λ clean ready. if_err r _ _ (h.foreign clean) (λ e shows is are. let s = shows is in s.untyped ((typed_are d laws q g.T.Sought.are_of it c.args.by.now old new s.rows ready s.shown).0 are));
      same = λ clean ready. h.same clean (subst (λ s. IsPlain (understood s q.text)) (sym ready.has.is) (it.is ready.has.rest).2);
      refused = λ clean ready. h.refused clean (subst (λ s. IsPlain (understood s q.text)) (sym ready.has.is) (it.is ready.has.rest).2) ready;
      kept = λ clean ready. h.kept clean (subst (λ s. IsPlain (understood s q.text)) (sym ready.has.is) (it.is ready.has.rest).2);
      survives = h.survives;
    }
