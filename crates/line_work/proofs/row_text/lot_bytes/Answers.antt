use Rattle.line_work.proofs.Rows.{lot_length}
use Rattle.line_work.proofs.row_text.lot_bytes.Goals as goal

pub returns-clause-size : goal.returns-clause-size
returns-clause-size c = lot_length c.as_bytes.result.now c.as_bytes.ensures.rule
