use Rattle.house.proofs.Words.{◌++◌, ap, ◌∙◌, Text, shortages_text}
use Rattle.house.proofs.ShownTold.{text_written}
use Rattle.house.proofs.showing.shortages_of.Goals as goal

pub returns-in-Ok : goal.returns-in-Ok
returns-in-Ok c =
    text_written shortages_text c.args.shown c.in_ok-view.view (Text c.from_vec.result) c.in_ok-view.was (ap Text (c.from_vec.ensures ∙ c.in-Ok.ensures ∙ ap (λ l. l ++ shortages_text c.in_ok-view.view) c.new-text.ensures.items))
