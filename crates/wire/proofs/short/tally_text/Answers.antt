use Rattle.std.proofs.Common.{◌∙◌, refl, append_assoc}
use Rattle.wire.proofs.ShortTexts.{tally_is_json}
use Rattle.wire.proofs.short.tally_text.Goals as goal

pub returns-clause-text : goal.returns-clause-text
returns-clause-text c =
    rw (c.of.ensures, c.push_all-3.ensures.text, c.push_decimal-2.ensures.text, c.from-2.ensures, c.push_all-2.ensures.text, c.push_decimal.ensures.text, c.from.ensures, c.push_all.ensures.text, c.new-text.ensures)
    (simp append_assoc refl)

pub returns-clause-json : goal.returns-clause-json
returns-clause-json c = returns-clause-text c ∙ tally_is_json c.args.accepted c.args.repeated
