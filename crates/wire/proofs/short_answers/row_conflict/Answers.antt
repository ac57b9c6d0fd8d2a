use Rattle.wire.proofs.Words.{ap, ◌∙◌, None, answer_text, json_type}
use Rattle.wire.proofs.short_answers.row_conflict.Goals as goal

pub returns : goal.returns
returns c = c.write_short.ensures.bytes ∙ ap (λ t. answer_text 409 json_type None t) c.refusal_row_text.ensures.text
