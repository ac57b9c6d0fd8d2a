use Rattle.house.proofs.house.House.answer.Goals as goal

pub returns-clause-step : goal.returns-clause-step
returns-clause-step g c clean first acts history holds = c.answer_reading.ensures.step clean first acts history holds c.args.request.now c.read_request-reading.ensures

pub returns-clause-in_place : goal.returns-clause-in_place
returns-clause-in_place g c = c.answer_reading.ensures.in_place c.args.request.now c.read_request-reading.ensures

pub returns-clause-as_before : goal.returns-clause-as_before
returns-clause-as_before g c clean ne = c.answer_reading.ensures.as_before clean ne
