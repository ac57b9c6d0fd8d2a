use Rattle.line_work.proofs.Unaudited.{unaudited}
use Rattle.line_work.proofs.auditing.audit_books.Goals as goal

pub returns-in-Err-clause-failed : goal.returns-in-Err-clause-failed
returns-in-Err-clause-failed g c =
    let told = c.audit-left.ensures in
    unaudited g.S.Store c.args.conn c.audit-left.result.0 c.audit-left.result.1 c.in-Err.fault c.fault_of_books.result c.in-Err.is c.fault_of_books.ensures told.left told.foreign told.known
