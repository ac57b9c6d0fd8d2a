use Rattle.std.proofs.Common.{◌∙◌, refl, append_assoc}
use Rattle.wire.proofs.ShortTexts.{cause_row_is_json}
use Rattle.wire.proofs.short.cause_row_text.Goals as goal

pub returns-clause-text : goal.returns-clause-text
returns-clause-text c =
    rw (c.of.ensures, c.push_all-4.ensures.text, c.push_decimal.ensures.text, c.from.ensures, c.push_all-3.ensures.text, c.push_all-2.ensures.text, c.as_bytes.ensures.value, c.push_all.ensures.text, c.new-text.ensures)
    (simp append_assoc refl)

pub returns-clause-json : goal.returns-clause-json
returns-clause-json c = returns-clause-text c ∙ cause_row_is_json c.args.cause.now c.args.row c.requires
