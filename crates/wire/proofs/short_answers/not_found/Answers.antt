use Rattle.wire.proofs.Words.{ap, ◌∙◌, None, answer_text, json_type}
use Rattle.wire.proofs.short_answers.not_found.Goals as goal

pub returns : goal.returns
returns c = c.write_short.ensures.bytes ∙ ap (λ t. answer_text 404 json_type None t) c.refusal_text.ensures.text
