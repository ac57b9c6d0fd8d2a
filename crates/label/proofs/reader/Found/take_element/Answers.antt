use Rattle.label.proofs.Words.{◌≡◌, Err, ap, subst, sym, ◌∙◌, arith, IfOk, IfErr, common_steps, field_read, element_read, IsStep}
use Rattle.label.proofs.ElementLemmas.{element_read-new}
use Rattle.label.proofs.reader.Found.take_element.Goals as goal

element : (c : goal.After-take_field) → field_read c.args.today c.args.self.now c.in_ok-identifier.identifier c.after.result.now ≡ element_read c.args.today c.args.self.now c.args.text.now
element c =
    ap (field_read c.args.today c.args.self.now c.in_ok-identifier.identifier) c.after.ensures.rest
    ∙ sym (element_read-new c.args.today c.args.self.now c.args.text.now c.in_ok-identifier.identifier (sym c.in_ok-identifier.ensures) (sym c.has.ensures ∙ c.if-has.false))

pub returns-clause-ok : goal.returns-clause-ok
returns-clause-ok c =
    subst (λ step. IfOk c.take_field.result (λ rest. IsStep step c.take_field.new.self rest.now)) (element c) c.take_field.ensures.ok

pub returns-clause-shorter : goal.returns-clause-shorter
returns-clause-shorter c = grind (arith, common_steps)

pub returns-clause-err : goal.returns-clause-err
returns-clause-err c =
    subst (λ step. IfErr c.take_field.result (λ fault. step ≡ Err fault)) (element c) c.take_field.ensures.err
