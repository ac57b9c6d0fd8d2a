use Rattle.house.proofs.Words.{Err, ap, sym, ◌∙◌, RowFault, told_file_answer}
use Rattle.house.proofs.filing.answer_row_fault.Goals as goal

pub returns-in-Refused : goal.returns-in-Refused
returns-in-Refused c = c.row_conflict.ensures ∙ sym (ap (λ (f : RowFault). told_file_answer (Err f)) c.in-Refused.is)

pub returns-in-Store : goal.returns-in-Store
returns-in-Store c = c.fault_answer.ensures ∙ sym (ap (λ (f : RowFault). told_file_answer (Err f)) c.in-Store.is)

pub returns-in-Foreign : goal.returns-in-Foreign
returns-in-Foreign c = c.foreign_books.ensures ∙ sym (ap (λ (f : RowFault). told_file_answer (Err f)) c.in-Foreign.is)
