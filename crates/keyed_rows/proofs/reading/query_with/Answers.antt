use Rattle.keyed_rows.proofs.reading.query_with.Goals as goal

pub returns-clause-queried : goal.returns-clause-queried
returns-clause-queried g c = rw (c.count.ensures, c.values.ensures) at c.query_rows.ensures.queried
