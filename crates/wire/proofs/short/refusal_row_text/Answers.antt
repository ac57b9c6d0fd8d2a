use Rattle.wire.proofs.Words.{◌∙◌, ap, compact_text, code_row_text, code_row_data}
use Rattle.wire.proofs.short.refusal_row_text.Goals as goal

pub returns-clause-text : goal.returns-clause-text
returns-clause-text c = c.code_row_text.ensures.text ∙ ap (λ s. code_row_text s c.args.row) c.code.ensures.code

pub returns-clause-json : goal.returns-clause-json
returns-clause-json c = c.code_row_text.ensures.json ∙ ap (λ s. compact_text (code_row_data s c.args.row)) c.code.ensures.code
