use Rattle.queries.proofs.Words.{◌∙◌, bin_view, bin_shown, known_bin}
use Rattle.queries.proofs.OpenRight.{view_told}
use Rattle.queries.proofs.BinRight.{bin_right}
use Rattle.queries.proofs.shown_bin.BinQueryQuery.view.Goals as goal

pub returns : goal.returns
returns c first acts history is_day found =
    let query = c.args.self.now in
    let bin = c.args.found.0 in
    let read = bin_right first acts query.bin query.behind bin c.args.found.1.0 c.args.found.1.1.0.items c.args.found.1.1.1 found.0 found.1 in
    view_told (bin_shown first acts query.bin query.behind) (bin_view first acts (known_bin bin) read.last) read.told c.bin_view-view.result
    (c.bin_view-view.ensures.shown first acts read.last history read.count is_day (c.as_slice.ensures.value ∙ read.is_page) read.of_page)
