use Rattle.applies.proofs.Words.{refl, None, IfOk-weaker, CardDay}
use Rattle.applies.proofs.BegunDays.{card_told}
use Rattle.applies.proofs.begun.card_day.Goals as goal

pub returns-in-Err-Stopped-clause-day : goal.returns-in-Err-Stopped-clause-day
returns-in-Err-Stopped-clause-day g c clean first acts history holds =
    let start : CardDay = record { lot = c.args.lot; act = c.args.act; day = None } in
    let h = rw c.in-Err-Stopped.field-0-is at (c.in-Err-Stopped.ensures.handed clean first acts history holds) in
    (h.1, IfOk-weaker c.told_day.result _ _ (λ day is. card_told first acts c.args.lot start c.each_card.new.sink refl h.0 day is) c.told_day.ensures.day)
