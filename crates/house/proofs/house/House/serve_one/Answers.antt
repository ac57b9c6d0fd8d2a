use Rattle.house.proofs.house.House.serve_one.Goals as goal

pub returns-clause-served : goal.returns-clause-served
returns-clause-served g c clean first acts history holds read = (c.serve_one_logged.ensures.served clean first acts history holds read).0

pub returns-clause-as_before : goal.returns-clause-as_before
returns-clause-as_before g c clean read = (c.serve_one_logged.ensures.as_before clean read).0
