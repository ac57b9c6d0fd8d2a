use Rattle.histories.proofs.Words.{Appends-nil, beginning_of_none, cut_at, row_line}
use Rattle.histories.proofs.line.put_line.Goals as goal

pub returns-in_err-line-clause-written : goal.returns-in_err-line-clause-written
returns-in_err-line-clause-written g c =
    let old = g.W.Write.contents c.args.out.now in
    cut_at c.from_residual.result old old (row_line c.args.day c.args.row.now) c.from_residual.ensures.0 (beginning_of_none old old (row_line c.args.day c.args.row.now) (Appends-nil old))
