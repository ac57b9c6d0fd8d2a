use Rattle.house.proofs.Words.{refl, OrderView, order_shown, Answer, Text, pick_list_text}
use Rattle.house.proofs.ShownTold.{shown_told}
use Rattle.house.proofs.showing.show_pick_list.Goals as goal

abbrev as_text : OrderView → Answer
as_text v = Text (pick_list_text v)

pub returns-clause-shown : goal.returns-clause-shown
returns-clause-shown g c clean first acts history holds =
    shown_told g.S.Store first acts history as_text (order_shown first acts c.args.order.now) _ _ c.order_rows-shown.ensures.survives clean pick_list_text (λ view. refl) c.order_rows-shown.result c.pick_list_of.result _ (c.order_rows-shown.ensures.shown clean first acts history holds) c.pick_list_of.ensures c.answer_shown.ensures.told
