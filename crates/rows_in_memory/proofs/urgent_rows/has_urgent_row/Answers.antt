use Rattle.rows_in_memory.proofs.urgent_rows.has_urgent_row.Goals as goal

pub returns : goal.returns
returns c = c.has.ensures
