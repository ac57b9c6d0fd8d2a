use Rattle.changes.proofs.Words.{◌≡◌, true, Ok, sym, ap, subst, ◌∙◌, flat_map, AllByRecursion, list_all, state, Row, bound, SqliteFailure, OutOfMemory, Store, Writes, Ran, each_written, with_row, sound, same_error, writes_none, ran_writes}
use Rattle.changes.proofs.ManyAdded.{adds_many}
use Rattle.changes.proofs.Parts.{flat_mapped, all_mapped, tests_mapped}
use Rattle.changes.proofs.adding.add_five.Goals as goal

pub values_of_all-requires-clause-fit : goal.values_of_all-requires-clause-fit
values_of_all-requires-clause-fit g c =
    let law = g.met.T.AddedMany.columned in
    ap (list_all _) (c.as_slice.ensures.value ∙ c.in_ok-columns.ensures) ∙ tests_mapped _ _ g.T.Table.fits law.fits c.args.rows.now ∙ c.requires.fit

pub returns-in_err-columns-clause-writes : goal.returns-in_err-columns-clause-writes
returns-in_err-columns-clause-writes g c =
    let old = state g.S.Store c.args.tx.now.conn.now in
    same_error c.from_residual.result (Store (SqliteFailure OutOfMemory)) c.from_residual.ensures (λ r. Writes (each_written (with_row g.T.Table.table) c.args.rows.now) old old r) (writes_none _ old (Store (SqliteFailure OutOfMemory)) (λ e. cc))

pub returns-in_err-params-clause-writes : goal.returns-in_err-params-clause-writes
returns-in_err-params-clause-writes g c =
    let old = state g.S.Store c.args.tx.now.conn.now in
    same_error c.from_residual-in_err-params.result (Store (SqliteFailure OutOfMemory)) c.from_residual-in_err-params.ensures (λ r. Writes (each_written (with_row g.T.Table.table) c.args.rows.now) old old r)
    (writes_none _ old (Store (SqliteFailure OutOfMemory)) (λ e. cc))

pub returns-in-Ok-clause-writes : goal.returns-in-Ok-clause-writes
returns-in-Ok-clause-writes g c =
    let d = g.T.Table.table in
    let rows = c.args.rows.now in
    let law = g.met.T.AddedMany.columned in
    let old = c.args.tx.now.conn.now in
    let new = c.count.new.tx.conn.now in
    let text = g.T.AddedMany.many in
    let columns = c.as_slice.ensures.value ∙ c.in_ok-columns.ensures in
    let params = ap bound c.as_slice-2.ensures.value ∙ c.in_ok-params.ensures.values ∙ ap (flat_map _) columns ∙ flat_mapped _ _ d.cells law.cells rows in
    let good : AllByRecursion (λ s. sound d s ≡ true) rows = all_mapped _ _ (λ s. sound d s ≡ true) (λ s h. sym (law.has s) ∙ ap (g.T.Columns.Chain.columns.has 0) (sym (law.cells s)) ∙ h) rows (subst (AllByRecursion _) columns c.in_ok-params.ensures.rule) in
    let ran : Ran g.S.Store text (flat_map d.cells rows) old new (Ok c.in-Ok.field-0) = subst (λ (p : Row). Ran g.S.Store text p old new (Ok c.in-Ok.field-0)) params (rw c.many_text.ensures at c.in-Ok.ensures.ran) in
    (ran_writes g.S.Store text (flat_map d.cells rows) old new c.in-Ok.field-0 tt (λ _. each_written (with_row d) rows) ran
    (λ ready counts. adds_many d g.met.T.Table.laws text g.met.T.AddedMany.many_laws rows c.requires.five good (state g.S.Store old) (state g.S.Store new) c.in-Ok.field-0 ready counts)).writes
