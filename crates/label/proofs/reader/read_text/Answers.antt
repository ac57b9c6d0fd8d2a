use Rattle.label.proofs.Words.{◌∙◌, ap, sym, and_then, body_read}
use Rattle.label.proofs.Agreement.{label_read_by_elements}
use Rattle.label.proofs.reader.read_text.Goals as goal

pub returns-in-Ok : goal.returns-in-Ok
returns-in-Ok c =
    c.read_elements.ensures ∙ sym (ap (λ r. and_then r (body_read c.args.today)) c.in-Ok.ensures.ok)
    ∙ label_read_by_elements c.args.today c.args.text.now

pub returns-in-Err : goal.returns-in-Err
returns-in-Err c =
    sym (ap (λ r. and_then r (body_read c.args.today)) c.in-Err.ensures.err) ∙ label_read_by_elements c.args.today c.args.text.now
