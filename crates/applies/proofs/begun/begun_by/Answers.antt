use Rattle.applies.proofs.Words.{◌≡◌, Option, Some, None, ap, sym, subst, ◌∙◌, IfOk-weaker, Start, Received, Opened, start_of, IsStartBy, IsStart, today_told, line_day}
use Rattle.applies.proofs.BegunDays.{begun_told, begun_opened}
use Rattle.applies.proofs.FittingDays.{none_opened, received_first, fits_told, fits_opened}
use Rattle.applies.proofs.begun.begun_by.Goals as goal

pub returns-in_default-clause-begun : goal.returns-in_default-clause-begun
returns-in_default-clause-begun g c clean first acts history holds found =
    let told : IsStart first acts c.day.result = subst (λ (s : Option Start). IsStartBy first acts s c.day.result) (sym c.in_default.is ∙ found) (today_told first acts c.day.result (c.day.ensures.value ∙ holds.day)) in
    (holds, begun_told first acts c.day.result history told)

pub returns-in_default-clause-fits : goal.returns-in_default-clause-fits
returns-in_default-clause-fits g c clean first acts history holds found =
    let none : None ≡ start_of acts = sym c.in_default.is ∙ found in
    let told : IsStart first acts c.day.result = subst (λ (s : Option Start). IsStartBy first acts s c.day.result) none (today_told first acts c.day.result (c.day.ensures.value ∙ holds.day)) in
    fits_told first acts c.args.line.now c.day.result history (none_opened acts (sym none)) told

pub returns-in-Received-clause-begun : goal.returns-in-Received-clause-begun
returns-in-Received-clause-begun g c clean first acts history holds found =
    let h = c.card_day.ensures.day clean first acts history holds in
    let told : Some (Received c.in-Received.lot c.in-Received.act) ≡ start_of acts = ap (λ s. Some s) (sym c.in-Received.is) ∙ sym c.in-Some.is ∙ found in
    (h.0, IfOk-weaker c.card_day.result _ _ (λ day is. begun_told first acts day history (subst (λ (s : Option Start). IsStartBy first acts s day) told is)) h.1)

pub returns-in-Received-clause-fits : goal.returns-in-Received-clause-fits
returns-in-Received-clause-fits g c clean first acts history holds found =
    let h = c.card_day.ensures.day clean first acts history holds in
    let told : Some (Received c.in-Received.lot c.in-Received.act) ≡ start_of acts = ap (λ s. Some s) (sym c.in-Received.is) ∙ sym c.in-Some.is ∙ found in
    let none = received_first acts c.in-Received.lot c.in-Received.act (sym told) in
    IfOk-weaker c.card_day.result _ _ (λ day is. fits_told first acts c.args.line.now day history none (subst (λ (s : Option Start). IsStartBy first acts s day) told is)) h.1

pub returns-in-Opened-clause-begun : goal.returns-in-Opened-clause-begun
returns-in-Opened-clause-begun g c clean first acts history holds found =
    let told : Some (Opened c.in-Opened.day) ≡ start_of acts = ap (λ s. Some s) (sym c.in-Opened.is) ∙ sym c.in-Some.is ∙ found in
    (holds, begun_opened first acts c.in-Opened.day c.earlier_day.result (line_day c.args.line.now) history (sym told) c.earlier_day.ensures)

pub returns-in-Opened-clause-fits : goal.returns-in-Opened-clause-fits
returns-in-Opened-clause-fits g c clean first acts history holds found =
    let told : Some (Opened c.in-Opened.day) ≡ start_of acts = ap (λ s. Some s) (sym c.in-Opened.is) ∙ sym c.in-Some.is ∙ found in
    fits_opened first acts c.in-Opened.day c.args.line.now c.earlier_day.result (sym told) c.earlier_day.ensures
