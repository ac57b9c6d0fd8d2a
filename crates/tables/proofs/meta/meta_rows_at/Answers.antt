use Rattle.tables.proofs.Words.{refl, sym, subst, state, on_ok_if, if_ok, if_err, query_same}
use Rattle.sqlite.specs.Given.{IsPlain}
use Rattle.sqlite.specs.Listing.{understood}
use Rattle.tables.proofs.MetaLemmas.{meta_rows_text, meta_rows_plain, meta_rows_reads, meta_rows_typed}
use Rattle.tables.proofs.meta.meta_rows_at.Goals as goal

pub returns-clause-rows : goal.returns-clause-rows
returns-clause-rows g c clean ready =
    if_ok c.query.result _ _ (rw c.of_number.ensures.value at (c.query.ensures.rows clean)) (λ found h.
    (meta_rows_reads g.row.VERSION (state g.S.Store c.args.tx.now.conn.now) (state g.S.Store c.query.new.tx.conn.now) 1 h.rows found.items ready h.shown h.typed h.read_as).found 1 refl)

pub returns-clause-typed : goal.returns-clause-typed
returns-clause-typed g c clean ready =
    on_ok_if c.query.result _ (rw c.of_number.ensures.value at (c.query.ensures.rows clean)) (λ found h.
    (meta_rows_typed g.row.VERSION (state g.S.Store c.args.tx.now.conn.now) (state g.S.Store c.query.new.tx.conn.now) 1 h.rows ready h.shown).1 h.typed)

pub returns-clause-foreign : goal.returns-clause-foreign
returns-clause-foreign g c clean ready =
    if_err c.query.result _ _ (rw c.of_number.ensures.value at (c.query.ensures.foreign clean)) (λ e shows is are.
    let h = shows is in h.untyped ((meta_rows_typed g.row.VERSION (state g.S.Store c.args.tx.now.conn.now) (state g.S.Store c.query.new.tx.conn.now) 1 h.rows ready h.shown).0 are))

pub returns-clause-same : goal.returns-clause-same
returns-clause-same g c clean ready = c.query.ensures.same clean (subst (λ s. IsPlain (understood s meta_rows_text)) (sym ready.has.is) (meta_rows_plain ready.has.rest))

-- a row that is none of such books was shown, and nothing changed
pub returns-clause-still : goal.returns-clause-still
returns-clause-still g c clean ready =
    let plain = subst (λ s. IsPlain (understood s meta_rows_text)) (sym ready.has.is) (meta_rows_plain ready.has.rest) in
    if_err c.query.result _ _ (c.query.ensures.foreign clean) (λ e shows is.
    let h = shows is in query_same meta_rows_text _ (state g.S.Store c.args.tx.now.conn.now) (state g.S.Store c.query.new.tx.conn.now) h.rows plain h.shown)

pub returns-clause-kept : goal.returns-clause-kept
returns-clause-kept g c clean ready = c.query.ensures.kept clean (subst (λ s. IsPlain (understood s meta_rows_text)) (sym ready.has.is) (meta_rows_plain ready.has.rest))

pub returns-clause-refused : goal.returns-clause-refused
returns-clause-refused g c clean ready = c.query.ensures.refused clean (subst (λ s. IsPlain (understood s meta_rows_text)) (sym ready.has.is) (meta_rows_plain ready.has.rest)) ready
