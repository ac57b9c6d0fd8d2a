use Rattle.tables.proofs.Words.{[], ◌∷◌, pos, Text, Int, QTY_MAX, state, ran_writes, lines_filled, FILL_LINES}
use Rattle.tables.proofs.FilledLines.{fills_lines}
use Rattle.tables.proofs.lines.fill_lines.Goals as goal

pub returns-in-Ok-clause-writes : goal.returns-in-Ok-clause-writes
returns-in-Ok-clause-writes g c =
    let name = c.args.order.now in
    let old = c.args.tx.now.conn.now in
    let new = c.run_with.new.tx.conn.now in
    (ran_writes g.S.Store FILL_LINES.now (Text name ∷ Int (pos QTY_MAX) ∷ []) old new c.in-Ok.field-0 tt (λ _. lines_filled name) c.in-Ok.ensures.ran
    (λ ready counts. fills_lines name (state g.S.Store old) (state g.S.Store new) c.in-Ok.field-0 ready counts)).writes
