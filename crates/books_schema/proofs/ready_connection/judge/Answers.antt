use Rattle.books_schema.proofs.Words.{First, Second, Newest, Older}
use Rattle.books_schema.proofs.ready_connection.judge.Goals as goal

pub returns-then-branch-clause-other : goal.returns-then-branch-clause-other
returns-then-branch-clause-other c none = none Newest (c.in_ok-has_tables.ensures.0 c.if-branch.true)

pub returns-then-branch-2-clause-other : goal.returns-then-branch-2-clause-other
returns-then-branch-2-clause-other c none = none (Older First) (c.in_ok-is_schema_of.ensures.0 c.if-branch-2.true)

pub returns-then-branch-3-clause-other : goal.returns-then-branch-3-clause-other
returns-then-branch-3-clause-other c none = none (Older Second) (c.in_ok-is_schema_of-2.ensures.0 c.if-branch-3.true)
