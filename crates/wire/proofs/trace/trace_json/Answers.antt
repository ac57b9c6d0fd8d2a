use Rattle.wire.proofs.Words.{◌∙◌}
use Rattle.wire.specs.Traces.{trace_data}
use Rattle.wire.proofs.Adding.{written_is}
use Rattle.wire.proofs.trace.trace_json.Goals as goal

pub returns : goal.returns
returns c =
    written_is (trace_data c.args.shown.now) c.new-out.result c.put_trace.new.out c.into_inner.result.items c.new-out.ensures.tokens (c.new-out.ensures.before ∙ c.new.ensures.items) c.in_ok-put_trace.ensures c.into_inner.ensures.items
