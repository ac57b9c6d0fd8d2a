use Rattle.wire.proofs.Words.{ap, ◌∙◌, None, answer_text, json_type}
use Rattle.wire.proofs.short_answers.tally_answer.Goals as goal

pub returns : goal.returns
returns c = c.write_short.ensures.bytes ∙ ap (λ t. answer_text 200 json_type None t) c.tally_text.ensures.text
