use Rattle.wire.proofs.Words.{◌∙◌, bin_view_data}
use Rattle.wire.proofs.Adding.{written_is}
use Rattle.wire.proofs.bin.bin_json.Goals as goal

pub returns : goal.returns
returns c =
    written_is (bin_view_data c.args.shown.now) c.new-out.result c.put_bin_view.new.out c.into_inner.result.items c.new-out.ensures.tokens (c.new-out.ensures.before ∙ c.new.ensures.items) c.in_ok-put_bin_view.ensures c.into_inner.ensures.items
