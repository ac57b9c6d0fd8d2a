use Rattle.wire.proofs.Words.{ap, ◌∙◌, None, answer_text, json_type}
use Rattle.wire.proofs.short_answers.label_answer.Goals as goal

pub returns : goal.returns
returns c = c.write_short.ensures.bytes ∙ ap (λ t. answer_text 400 json_type None t) c.label_fault_text.ensures.text
