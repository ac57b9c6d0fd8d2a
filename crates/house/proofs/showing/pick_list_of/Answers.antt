use Rattle.house.proofs.Words.{◌++◌, ap, ◌∙◌, Text, pick_list_text}
use Rattle.house.proofs.ShownTold.{text_written}
use Rattle.house.proofs.showing.pick_list_of.Goals as goal

pub returns-in-Ok : goal.returns-in-Ok
returns-in-Ok c =
    text_written pick_list_text c.args.shown c.in_ok-view.view (Text c.from_vec.result) c.in_ok-view.was (ap Text (c.from_vec.ensures ∙ c.in-Ok.ensures ∙ ap (λ l. l ++ pick_list_text c.in_ok-view.view) c.new-text.ensures.items))
