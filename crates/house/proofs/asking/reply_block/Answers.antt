use Rattle.house.proofs.Words.{ap, sym, ◌∙◌, told_answer}
use Rattle.house.proofs.asking.reply_block.Goals as goal

pub returns-in-Ok : goal.returns-in-Ok
returns-in-Ok c = c.reply_answer.ensures ∙ sym (ap told_answer c.in-Ok.is)

pub returns-in-Err : goal.returns-in-Err
returns-in-Err c = c.answer_act_fault.ensures ∙ sym (ap told_answer c.in-Err.is)
