use Rattle.tables.proofs.Words.{bytes_eq, [], ◌∷◌, Text, state, tests_of, key_found, ran_writes, DROP_STAGE, staged, staged_laws, staged_of_order, staged_of_order_laws, stage_drop_is, without_stage}
use Rattle.tables.proofs.DroppedRows.{drops_rows}
use Rattle.tables.proofs.staged.empty_stage.Goals as goal

pub returns-in-Ok-clause-writes : goal.returns-in-Ok-clause-writes
returns-in-Ok-clause-writes g c =
    let name = c.args.order.now in
    let old = c.args.tx.now.conn.now in
    let new = c.count.new.tx.conn.now in
    (ran_writes g.S.Store DROP_STAGE.now (Text name ∷ []) old new c.in-Ok.field-0 tt (λ _. without_stage name) (rw c.value.ensures.value at c.in-Ok.ensures.ran)
    (λ ready counts. drops_rows staged staged_laws (tests_of staged_of_order.columns) (λ k. bytes_eq name k.0) (Text name ∷ []) (key_found staged staged_of_order.columns staged_of_order_laws.texts name) DROP_STAGE.now stage_drop_is (state g.S.Store old) (state g.S.Store new) c.in-Ok.field-0 ready counts)).writes
