use Rattle.service.proofs.acts_text.open_and_print_acts.Goals as goal

pub returns-in-Ok-clause-printed : goal.returns-in-Ok-clause-printed
returns-in-Ok-clause-printed g c clean first acts history rows =
    let was = c.print_acts.ensures.clean clean in
    c.print_acts.ensures.printed clean (c.in-Ok.ensures.open was) first acts history (c.in-Ok.ensures.books was first acts history rows).0

pub returns-in-Ok-clause-told : goal.returns-in-Ok-clause-told
returns-in-Ok-clause-told g c clean first acts history rows =
    let was = c.print_acts.ensures.clean clean in
    c.print_acts.ensures.told clean (c.in-Ok.ensures.open was) first acts history (c.in-Ok.ensures.books was first acts history rows).0

pub returns-in-Ok-clause-clean : goal.returns-in-Ok-clause-clean
returns-in-Ok-clause-clean g c clean = c.in-Ok.ensures.clean (c.print_acts.ensures.clean clean)
