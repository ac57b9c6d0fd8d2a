use Rattle.books_schema.proofs.Words.{◌≡◌, IfErr, ◌∙◌, ap, map, state, items_table, Foreign, same_error, row_of, AreItemsTyped}
use Rattle.books_schema.proofs.BringLemmas.{all_stored, all_read}
use Rattle.books_schema.proofs.migration.asking_none.Goals as goal

pub returns-clause-rows : goal.returns-clause-rows
returns-clause-rows g c clean ready =
    let old = state g.S.Store c.args.tx.now.conn.now in
    let typed = all_read (old.now.trees items_table.tree) (c.in_ok-items.ensures.finds.typed clean ready) in
    (typed, c.in_ok-items.items.items, c.in_ok-items.ensures.finds.rows clean ready, c.in_ok-least_rows.ensures ∙ ap (map row_of) c.as_slice.ensures.value)

pub returns-in_err-items-clause-foreign : goal.returns-in_err-items-clause-foreign
returns-in_err-items-clause-foreign g c clean ready =
    let old = state g.S.Store c.args.tx.now.conn.now in
    same_error c.from_residual.result c.in_err-items.field-0.0 c.from_residual.ensures (λ r. IfErr r (λ e. e ≡ Foreign → ¬ AreItemsTyped old.now.trees)) (λ is typed.
    c.in_err-items.ensures.finds.foreign clean ready is (all_stored (old.now.trees items_table.tree) typed))
