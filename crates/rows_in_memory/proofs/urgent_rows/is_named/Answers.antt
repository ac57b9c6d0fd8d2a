use Rattle.rows_in_memory.proofs.urgent_rows.is_named.Goals as goal

pub returns : goal.returns
returns c = c.has.ensures
