use Rattle.label.proofs.Words.{◌∙◌, ap, length, ◌==◌, unwrap_or, position_or_len, prefix_len-le-length}
use Rattle.label.specs.declared.gs1.TheConstants.{SEPARATOR}
use Rattle.label.proofs.ElementLemmas.{first_or_all}
use Rattle.label.proofs.reader.lot_end.Goals as goal

pub returns-clause-first : goal.returns-clause-first
returns-clause-first c =
    c.unwrap_or.ensures ∙ ap (λ o. unwrap_or o (length c.args.text.now)) c.separator_at.ensures
    ∙ first_or_all (position_or_len (λ b. b == SEPARATOR) c.args.text.now) (length c.args.text.now) (prefix_len-le-length _ c.args.text.now)
