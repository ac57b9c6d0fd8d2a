use Rattle.wire.proofs.Words.{◌∙◌, picks_data}
use Rattle.wire.proofs.Adding.{written_is}
use Rattle.wire.proofs.picks.picks_json.Goals as goal

pub returns : goal.returns
returns c =
    written_is (picks_data c.args.shown.now) c.new-out.result c.put_picks.new.out c.into_inner.result.items c.new-out.ensures.tokens (c.new-out.ensures.before ∙ c.new.ensures.items) c.in_ok-put_picks.ensures c.into_inner.ensures.items
