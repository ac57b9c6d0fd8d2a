use Rattle.rows_in_memory.proofs.order_rows.has_line.Goals as goal

pub returns : goal.returns
returns c = c.has.ensures
