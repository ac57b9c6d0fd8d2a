use Rattle.wire.proofs.Words.{◌∙◌, item_names_data}
use Rattle.wire.proofs.Adding.{written_is}
use Rattle.wire.proofs.item_names.item_names_json.Goals as goal

pub returns : goal.returns
returns c =
    written_is (item_names_data c.args.shown.now) c.new-out.result c.put_item_names.new.out c.into_inner.result.items c.new-out.ensures.tokens (c.new-out.ensures.before ∙ c.new.ensures.items) c.in_ok-put_item_names.ensures c.into_inner.ensures.items
