use Rattle.rules.proofs.returning.staged_among.Goals as goal

pub returns : goal.returns
returns c = c.units.ensures
