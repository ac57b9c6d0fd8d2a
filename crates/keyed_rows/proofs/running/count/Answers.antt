use Rattle.keyed_rows.proofs.Words.{Err, bound, state, was_inside, keeps, refuses}
use Rattle.keyed_rows.proofs.running.count.Goals as goal

pub returns-in-Ok-clause-ran : goal.returns-in-Ok-clause-ran
returns-in-Ok-clause-ran g c =
    let inside = was_inside (state g.S.Store c.args.tx.now.conn.now).in_transaction c.in-Ok.ensures.ended in
    record {
      ran = λ clean. record { inside = inside; executes = c.in-Ok.ensures.runs clean inside };
      refused = λ _ _. tt;
      outside = λ out. (c.in-Ok.ensures.ended out).1;
      kept = λ clean. keeps g.S.Store c.args.sql.now (bound c.args.params.now) c.args.tx.now.conn.now c.execute.new.self.conn.now c.execute.result c.execute.ensures.ended (c.execute.ensures.runs clean);
      survives = c.execute.ensures.survives;
      never_foreign = tt;
    }

pub returns-in-Err-clause-ran : goal.returns-in-Err-clause-ran
returns-in-Err-clause-ran g c = record {
  ran = λ _. tt;
  refused = λ clean. refuses g.S.Store c.args.sql.now (bound c.args.params.now) c.args.tx.now.conn.now c.execute.new.self.conn.now (Err c.in-Err.cause) c.in-Err.ensures.ended (c.in-Err.ensures.runs clean);
  outside = λ out. (c.execute.ensures.ended out).1;
  kept = λ clean. keeps g.S.Store c.args.sql.now (bound c.args.params.now) c.args.tx.now.conn.now c.execute.new.self.conn.now c.execute.result c.execute.ensures.ended (c.execute.ensures.runs clean);
  survives = c.execute.ensures.survives;
  never_foreign = λ e. cc;
}
