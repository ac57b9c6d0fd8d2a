use Rattle.label.proofs.Words.{IsTrue, ap, subst, ◌∙◌, rules, is_gtin, is_lot_text, label_text, label_read, expiry_text}
use Rattle.label.proofs.ReadLaws.{label_read-label_text}
use Rattle.label.proofs.ExpiryRule.{expiry_day-expiry_text}
use Rattle.label.proofs.writer.write.Goals as goal

pub returns-in-Ok-clause-reads_back : goal.returns-in-Ok-clause-reads_back
returns-in-Ok-clause-reads_back c today business within =
    let label = c.args.label.now in
    ap (label_read today) (c.in-Ok.ensures ∙ (λ i. label_text (c.as_bytes.ensures.text i) (c.as_bytes-2.ensures.text i) (c.expiry_digits-yymmdd.ensures.text i)))
    ∙ label_read-label_text today label.gtin label.lot (expiry_text label.expiry) label.expiry
    (subst (λ g. IsTrue (is_gtin g)) c.as_bytes.ensures.text c.as_bytes.ensures.rule)
    (subst (λ l. IsTrue (is_lot_text l)) c.as_bytes-2.ensures.text c.as_bytes-2.ensures.rule)
    (expiry_day-expiry_text today label.expiry business c.expiry_digits-yymmdd.ensures.range within.from within.to)

pub returns-in-Err-clause-memory : goal.returns-in-Err-clause-memory
returns-in-Err-clause-memory c = search rules
