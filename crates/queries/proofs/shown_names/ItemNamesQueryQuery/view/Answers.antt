use Rattle.queries.proofs.Words.{◌∙◌, item_names_view, item_names_shown, AreAsked, subst, sym}
use Rattle.queries.proofs.OpenRight.{view_told}
use Rattle.queries.proofs.NamesRight.{names_right}
use Rattle.queries.proofs.shown_names.ItemNamesQueryQuery.view.Goals as goal

pub returns : goal.returns
returns c first acts history is_day found =
    let behind = c.args.self.now.behind in
    let read = names_right first acts history behind c.args.found.0 c.args.found.1.0.items c.args.found.1.1.items found in
    view_told (item_names_shown acts behind) (item_names_view acts read.last) read.told c.item_names_view.result
    (c.item_names_view.ensures.shown first acts read.last history read.count (c.as_slice-2.ensures.value ∙ read.is_page) (subst (AreAsked acts read.last) (sym c.as_slice.ensures.value) read.asked))
