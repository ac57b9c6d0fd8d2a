use Rattle.keyed_rows.proofs.reading.query_rows.Goals as goal

pub returns-clause-queried : goal.returns-clause-queried
returns-clause-queried g c =
    let one = c.query.ensures in
    record { rows = one.rows; foreign = one.foreign; same = one.same; refused = one.refused; kept = one.kept; survives = one.survives }
