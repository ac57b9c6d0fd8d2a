use Rattle.keyed_rows.proofs.running.run_with.Goals as goal

pub returns-clause-ran : goal.returns-clause-ran
returns-clause-ran g c = rw (c.count.ensures, c.values.ensures) at c.count-2.ensures.ran
