use Rattle.house.proofs.Words.{Err, ap, sym, ◌∙◌, Fault, told_answer}
use Rattle.house.proofs.asking.answer_act_fault.Goals as goal

pub returns-in-Refused : goal.returns-in-Refused
returns-in-Refused c = c.conflict.ensures ∙ sym (ap (λ (f : Fault). told_answer (Err f)) c.in-Refused.is)

pub returns-in-Store : goal.returns-in-Store
returns-in-Store c = c.fault_answer.ensures ∙ sym (ap (λ (f : Fault). told_answer (Err f)) c.in-Store.is)

pub returns-in-Foreign : goal.returns-in-Foreign
returns-in-Foreign c = c.foreign_books.ensures ∙ sym (ap (λ (f : Fault). told_answer (Err f)) c.in-Foreign.is)
