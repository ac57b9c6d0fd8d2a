use Rattle.house.proofs.Words.{refl, ShortView, short_shown, Answer, Text, shortages_text}
use Rattle.house.proofs.ShownTold.{shown_told}
use Rattle.house.proofs.showing.show_shortages.Goals as goal

abbrev as_text : ShortView → Answer
as_text v = Text (shortages_text v)

pub returns-clause-shown : goal.returns-clause-shown
returns-clause-shown g c clean first acts history holds =
    shown_told g.S.Store first acts history as_text (short_shown first acts c.args.gtin.now) _ _ c.short_rows-shown.ensures.survives clean shortages_text (λ view. refl) c.short_rows-shown.result c.shortages_of.result _ (c.short_rows-shown.ensures.shown clean first acts history holds) c.shortages_of.ensures c.answer_shown.ensures.told
