use Rattle.whole_tables.proofs.Words.{sym, subst, IsPlain, state, understood, on_ok_if, if_ok, if_err}
use Rattle.whole_tables.proofs.Halving.{half_typed, half_read}
use Rattle.whole_tables.proofs.halves.half_rows.Goals as goal

pub returns-clause-finds : goal.returns-clause-finds
returns-clause-finds g c =
    let d = g.T.Table.table in
    let laws = g.met.T.Table.laws in
    let text = g.T.Halved.half in
    let are = g.met.T.Halved.halves_laws in
    let part = c.args.part in
    let middle = c.args.middle.now in
    let old = state g.S.Store c.args.tx.now.conn.now in
    let new = state g.S.Store c.query_rows.new.tx.conn.now in
    let r = c.query_rows.result in
    let h = rw (c.half_text.ensures, c.of_signed.ensures.value) at c.query_rows.ensures.queried in
    record {
      rows = λ clean ready. if_ok r _ _ (h.rows clean) (λ found s. half_read d laws text are part middle old new ready s.rows s.shown found.items s.typed s.read_as);
      typed = λ clean ready. on_ok_if r _ (h.rows clean) (λ found s. (half_typed d laws text are part middle old new ready s.rows s.shown).1 s.typed);
      foreign = λ clean ready. if_err r _ _ (h.foreign clean) (λ e shows is all. let s = shows is in s.untyped ((half_typed d laws text are part middle old new ready s.rows s.shown).0 all));
      same = λ clean ready. h.same clean (subst (λ s. IsPlain (understood s (text part))) (sym ready.has.is) (are part ready.has.rest).2);
      survives = h.survives;
    }
