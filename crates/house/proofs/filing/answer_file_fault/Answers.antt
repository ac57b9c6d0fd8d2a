use Rattle.house.proofs.Words.{ap, sym, ◌∙◌, cause_answer, cause_row_answer, file_fault_answer}
use Rattle.house.proofs.FileTold.{told_without_memory, told_by_cause}
use Rattle.house.proofs.filing.answer_file_fault.Goals as goal

pub returns-in-Row : goal.returns-in-Row
returns-in-Row c = c.cause_row_answer.ensures ∙ ap (λ t. cause_row_answer t c.in-Row.row) c.code.ensures.value ∙ sym (ap file_fault_answer c.in-Row.is)

pub returns-in-Reader : goal.returns-in-Reader
returns-in-Reader c = c.fault_answer.ensures ∙ told_without_memory c.args.fault c.in-Reader.is

pub returns-in-Header : goal.returns-in-Header
returns-in-Header c = c.cause_answer.ensures ∙ ap cause_answer c.code-in-Header.ensures.value ∙ told_by_cause c.args.fault c.in-Header.is
