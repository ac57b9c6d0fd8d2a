use Rattle.house.proofs.Words.{ap, sym, ◌∙◌, told_file_answer}
use Rattle.house.proofs.filing.tally_block.Goals as goal

pub returns-in-Ok : goal.returns-in-Ok
returns-in-Ok c = c.tally_answer.ensures ∙ sym (ap told_file_answer c.in-Ok.is)

pub returns-in-Err : goal.returns-in-Err
returns-in-Err c = c.answer_row_fault.ensures ∙ sym (ap told_file_answer c.in-Err.is)
