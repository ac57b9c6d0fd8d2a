use Rattle.label.proofs.FaultOrder.{gtin_length}
use Rattle.line_work.proofs.row_text.gtin_bytes.Goals as goal

pub returns-clause-size : goal.returns-clause-size
returns-clause-size c = gtin_length c.as_bytes.result.now c.as_bytes.ensures.rule
