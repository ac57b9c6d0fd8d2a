use Rattle.views.proofs.Words.{◌≡◌, ◌+◌, [], ap, ◌∙◌, filter, take, inserted, NAMES_MAX, is_behind, item_before, items_and_more}
use Rattle.views.proofs.NamesPage.{items_page_shown}
use Rattle.views.proofs.item_names.items_page.Goals as goal

pub returns-clause-shown : goal.returns-clause-shown
returns-clause-shown c =
    let a = c.args in
    let behind : c.as_slice.result.now ≡ filter (is_behind item_before a.seen) a.items.now = c.as_slice.ensures.value ∙ c.in_ok-behind.ensures in
    let page : c.truncate.new.self.items ≡ items_and_more a.seen a.items.now =
    c.truncate.ensures.items ∙ ap (take (NAMES_MAX + 1)) (c.in_ok-ordered.ensures ∙ ap (inserted item_before []) behind) in
    λ first acts last history is are. page ∙ items_page_shown first acts history last a.seen is a.items.now are
