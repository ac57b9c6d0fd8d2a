use Rattle.wire.proofs.Words.{◌∙◌, ap, compact_text, cause_text, cause_data}
use Rattle.wire.proofs.short.label_fault_text.Goals as goal

pub returns-clause-text : goal.returns-clause-text
returns-clause-text c = c.cause_text.ensures.text ∙ ap cause_text c.code.ensures

pub returns-clause-json : goal.returns-clause-json
returns-clause-json c = c.cause_text.ensures.json ∙ ap (λ s. compact_text (cause_data s)) c.code.ensures
