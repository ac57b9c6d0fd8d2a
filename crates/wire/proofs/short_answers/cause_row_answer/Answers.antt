use Rattle.wire.proofs.Words.{ap, ◌∙◌, None, answer_text, json_type}
use Rattle.wire.proofs.short_answers.cause_row_answer.Goals as goal

pub returns : goal.returns
returns c = c.write_short.ensures.bytes ∙ ap (λ t. answer_text 400 json_type None t) c.cause_row_text.ensures.text
