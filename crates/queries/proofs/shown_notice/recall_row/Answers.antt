use Rattle.queries.proofs.Words.{ap, ◌∙◌, find, RecallRow, is_lot, same_text_refl, fails_first, known_told}
use Rattle.queries.proofs.shown_notice.recall_row.Goals as goal

pub returns-in_err-recalls-clause-read : goal.returns-in_err-recalls-clause-read
returns-in_err-recalls-clause-read g c = fails_first c.from_residual.ensures c.in_err-recalls.ensures.read

pub returns-clause-read : goal.returns-clause-read
returns-clause-read g c =
    let l = c.args.lot.now in
    known_told c.in_ok-recalls.ensures.read (λ t h. c.find_row.ensures ∙ ap (find (λ (r : RecallRow). is_lot l r.lot)) c.as_slice.ensures.value ∙ h.found l (same_text_refl l.gtin))
