use Rattle.house.proofs.Words.{subst, IsReading, as_before_itself}
use Rattle.house.proofs.Stepping.{told_fault, asked, in_place}
use Rattle.house.proofs.house.House.answer_reading.Goals as goal

pub returns-in-Request-clause-step : goal.returns-in-Request-clause-step
returns-in-Request-clause-step g c clean first acts history holds text read =
    asked g.S.Store first acts history text _ _ c.in-Request.ask _ (subst (IsReading text) c.in-Request.is (read (λ p. cc))) (c.answer_ask.ensures.done clean first acts history holds)

pub returns-in-Request-clause-in_place : goal.returns-in-Request-clause-in_place
returns-in-Request-clause-in_place g c text read =
    in_place text c.in-Request.ask c.answer_ask.result (subst (IsReading text) c.in-Request.is (read (λ p. cc))) c.answer_ask.ensures.in_place

pub returns-in-Need-clause-step : goal.returns-in-Need-clause-step
returns-in-Need-clause-step g c clean first acts history holds text read =
    told_fault g.S.Store first acts history text _ c.args.reading.now c.in-Need.fault _ c.fault_answer.ensures holds read c.in-Need.is

pub returns-in-Request-clause-as_before : goal.returns-in-Request-clause-as_before
returns-in-Request-clause-as_before g c clean ne = c.answer_ask.ensures.as_before clean ne

pub returns-in-Need-clause-as_before : goal.returns-in-Need-clause-as_before
returns-in-Need-clause-as_before g c clean ne = as_before_itself _
