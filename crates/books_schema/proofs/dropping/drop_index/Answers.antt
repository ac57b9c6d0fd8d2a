use Rattle.books_schema.proofs.Words.{state, was_inside, keeps}
use Rattle.books_schema.proofs.DropLemmas.{drops_one}
use Rattle.books_schema.proofs.dropping.drop_index.Goals as goal

pub returns-in_err-execute-clause-kept : goal.returns-in_err-execute-clause-kept
returns-in_err-execute-clause-kept g c clean = keeps g.S.Store _ _ c.args.tx.now.conn.now c.execute.new.self.conn.now _ c.execute.ensures.ended (c.execute.ensures.runs clean)

pub returns-clause-kept : goal.returns-clause-kept
returns-clause-kept g c clean = keeps g.S.Store _ _ c.args.tx.now.conn.now c.execute.new.self.conn.now _ c.execute.ensures.ended (c.execute.ensures.runs clean)

pub returns-clause-done : goal.returns-clause-done
returns-clause-done g c clean older base name ours m has =
    let inside = was_inside _ c.in_ok-execute.ensures.ended in
    drops_one c.args.text.now name m older base ours (state g.S.Store c.args.tx.now.conn.now) (state g.S.Store c.execute.new.self.conn.now) _ has (c.in_ok-execute.ensures.runs clean inside)
