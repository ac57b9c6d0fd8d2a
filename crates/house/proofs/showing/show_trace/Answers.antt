use Rattle.house.proofs.Words.{trace_shown, TraceAnswer, bytes_of}
use Rattle.house.proofs.ShownTold.{whole_told}
use Rattle.house.proofs.showing.show_trace.Goals as goal

pub returns-clause-shown : goal.returns-clause-shown
returns-clause-shown g c clean first acts history holds =
    whole_told g.S.Store first acts history TraceAnswer (trace_shown first acts c.args.lot.now) c.args.books.now c.show-shown.new.self c.show-shown.ensures.survives clean c.show-shown.result c.trace_of.result (bytes_of c.answer_shown.result)
    (c.show-shown.ensures.shown clean first acts history holds) c.trace_of.ensures c.answer_shown.ensures.told
