use Rattle.views.proofs.Words.{◌≡◌, rules, ap, ◌∙◌, answers_always, reverse, item_before}
use Rattle.views.proofs.NamesShown.{items_ranked, items_sorted}
use Rattle.views.proofs.item_names.by_gtin.Goals as goal

pub returns : goal.returns
returns c =
    let copied : c.in_ok-ordered.ordered.items ≡ c.args.items.now = search rules in
    items_sorted c.args.items.now _ _ (c.reverse.ensures.items ∙ ap reverse copied)
    (c.in_ok-sort_by.ensures.sorted item_before items_ranked (answers_always _ _ _ (λ f a r g h. search rules)))
    (c.sort_by.ensures.stable item_before items_ranked (answers_always _ _ _ (λ f a r g h. search rules)))
