use Rattle.line_work.proofs.Rows.{name_length}
use Rattle.line_work.proofs.row_text.name_bytes.Goals as goal

pub returns-clause-size : goal.returns-clause-size
returns-clause-size c = name_length c.as_bytes.result.now c.as_bytes.ensures.rule
