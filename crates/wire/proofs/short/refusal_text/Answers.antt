use Rattle.wire.proofs.Words.{◌∙◌, ap, compact_text, code_text, code_data}
use Rattle.wire.proofs.short.refusal_text.Goals as goal

pub returns-clause-text : goal.returns-clause-text
returns-clause-text c = c.code_text.ensures.text ∙ ap code_text c.code.ensures.code

pub returns-clause-json : goal.returns-clause-json
returns-clause-json c = c.code_text.ensures.json ∙ ap (λ s. compact_text (code_data s)) c.code.ensures.code
